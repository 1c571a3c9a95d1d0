-- How high a tree can be, and where no place can be.
use Rattle.std.proofs.Common.{◌≡◌, ℕ, zero, suc, ◌+◌, ◌*◌, ◌^◌, ◌<◌, ◌≤◌, lit<, arith, refl, sym, ap, ◌∙◌, Option, Some, None, inl, inr, ◌⊎◌}
use Rattle.std.proofs.Math.Nat.{add-mul, pow-suc, pow-le-pow_right, mul_comm, mul-le-mul_right}
use Rattle.btree_nodes.specs.Supply.{one_at}
use Rattle.btree_nodes.proofs.Supplies.{one_at-same, uncounted-past}
use Rattle.rtree_nodes.specs.Slots.{Item, Slots, NodeMap, sum_to, top_to, got, one, amount, filled, tops, Held, Each}
use Rattle.rtree_nodes.specs.Trees.{below, uses, IsNode, IsItem, root_least, node_uses, reach_of}
use Rattle.rtree_nodes.specs.Stock.{View, spare_in}
use Rattle.rtree_nodes.specs.Made.{Reads, nodes_in}
use Rattle.rtree_nodes.specs.Whole.{IsWhole, level_at}
use Rattle.rtree_nodes.proofs.Sums.{at_end, sum-match, sum-zero, sum-same, sum-at}
use Rattle.rtree_nodes.proofs.Amounts.{amount-at}

-- a sum of ones and zeros
sum-once : (n : ℕ) (f : ℕ → ℕ) → ((i : ℕ) → f i ≤ 1) → sum_to n f ≤ n
unfolding sum_to
sum-once zero f e = omega arith
sum-once (suc n) f e = let a = e n in let b = sum-once n f e in omega arith

-- a sum of terms that are each so many times as great
sum-least : (n k : ℕ) (f g : ℕ → ℕ) → ((i : ℕ) → i < n → g i * k ≤ f i) → sum_to n g * k ≤ sum_to n f
unfolding sum_to
sum-least zero k f g e = omega arith
sum-least (suc n) k f g e =
    let a = e n (omega arith) in
    let b = sum-least n k f g (λ i l. e i (omega arith)) in
    rw (add-mul (g n) (sum_to n g) k) (omega arith)

-- a term is at most the greatest one
top-at : (n : ℕ) (f : ℕ → ℕ) (at : ℕ) → at < n → f at ≤ top_to n f
unfolding top_to
top-at zero f at l = absurd (omega arith)
top-at (suc n) f at l = elim (at_end n at l) [ inl e ↦ let b = ap f e in omega arith | inr k ↦ let b = top-at n f at k in omega arith ]

-- what is in a slot reaches at most as far as the slots together
pub tops-at : (d : ℕ) (s : Slots) (at : ℕ) → at < 32 → got (reach_of d) (s at) ≤ tops d s
unfolding tops
tops-at d s at l = top-at 32 (λ i. got (reach_of d) (s i)) at l

got-zero : (o : Option Item) → got (λ y. 0) o ≡ 0
got-zero None = refl
got-zero (Some y) = refl

got-plus : (f g : Item → ℕ) (o : Option Item) → got f o + got g o ≡ got (λ y. f y + g y) o + 0
got-plus f g None = refl
got-plus f g (Some y) = omega arith

amount-zero : (s : Slots) → amount (λ y. 0) s ≡ 0
unfolding amount
amount-zero s = sum-same 32 (λ i. got (λ y. 0) (s i)) (λ i. 0) (λ i l. got-zero (s i)) ∙ sum-zero 32

amount-plus : (f g : Item → ℕ) (s : Slots) → amount f s + amount g s ≡ amount (λ y. f y + g y) s
unfolding amount
amount-plus f g s =
    let r = sum-match 32 (λ i. got f (s i)) (λ i. got g (s i)) (λ i. got (λ y. f y + g y) (s i)) (λ i. 0) (λ i l. got-plus f g (s i)) in
    let z = sum-zero 32 in
    omega arith

-- sums over pages and over slots may change places
amount-sum : (n : ℕ) (F : Item → ℕ → ℕ) (s : Slots) → sum_to n (λ i. amount (λ y. F y i) s) ≡ amount (λ y. sum_to n (F y)) s
unfolding sum_to
amount-sum zero F s = sym (amount-zero s)
amount-sum (suc n) F s =
    let a = amount-sum n F s in
    let b = amount-plus (λ y. F y n) (λ y. sum_to n (F y)) s in
    omega arith

got-least : (k : ℕ) (f : Item → ℕ) (o : Option Item) → Held (λ y. k ≤ f y) o → got one o * k ≤ got f o
got-least k f None h = omega arith
got-least k f (Some y) h = omega arith

-- slots each of whose items has at least k of something
pub amount-least : (k : ℕ) (f : Item → ℕ) (s : Slots) → Each (λ y. k ≤ f y) s → filled s * k ≤ amount f s
unfolding amount
amount-least k f s e = sum-least 32 k (λ i. got f (s i)) (λ i. got one (s i)) (λ i l. got-least k f (s i) (e i l))

-- slots each of whose items has none of something
pub amount-nothing : (f : Item → ℕ) (s : Slots) → ((i : ℕ) → i < 32 → got f (s i) ≡ 0) → amount f s ≡ 0
unfolding amount
amount-nothing f s e = sum-same 32 (λ i. got f (s i)) (λ i. 0) e ∙ sum-zero 32

pub under_or : (a b : ℕ) → (a < b) ⊎ (b ≤ a)
under_or a b = grind arith

pub none_or : (a : ℕ) → (a ≡ 0) ⊎ (0 < a)
none_or a = grind arith

-- a page below n is counted once among these
counted-once : (n page : ℕ) → page < n → 1 ≤ sum_to n (λ i. one_at page i)
counted-once n page l = let a = sum-at n (one_at page) page l in let b = one_at-same page in omega arith

sum-most : (n : ℕ) (f g : ℕ → ℕ) → ((i : ℕ) → i < n → f i ≤ g i) → sum_to n f ≤ sum_to n g
unfolding sum_to
sum-most zero f g e = omega arith
sum-most (suc n) f g e = let a = e n (omega arith) in let b = sum-most n f g (λ i l. e i (omega arith)) in omega arith

module _ (nodes : NodeMap) (count level : ℕ)
    (each : (y : Item) → IsItem nodes (suc level) y → ((n : ℕ) → count ≤ n → uses nodes (suc level) y n ≡ 0) → 12 ^ level ≤ sum_to count (λ n. uses nodes (suc level) y n)) where
  held-pages : (o : Option Item) → Held (λ y. IsItem nodes (suc level) y) o → ((n : ℕ) → count ≤ n → got (λ y. uses nodes (suc level) y n) o ≡ 0) → Held (λ y. 12 ^ level ≤ sum_to count (λ n. uses nodes (suc level) y n)) o
  held-pages None h free = tt
  held-pages (Some y) h free = each y h free

  slots-pages_by : (s : Slots) → Each (λ y. IsItem nodes (suc level) y) s → ((n : ℕ) → count ≤ n → amount (λ y. uses nodes (suc level) y n) s ≡ 0)
      → filled s * 12 ^ level ≤ sum_to count (λ n. amount (λ y. uses nodes (suc level) y n) s)
  slots-pages_by s e free =
      let at : Each (λ y. 12 ^ level ≤ sum_to count (λ n. uses nodes (suc level) y n)) s =
      λ i l. held-pages (s i) (e i l) (λ n k. let a = amount-at (λ y. uses nodes (suc level) y n) s i l in let b = free n k in omega arith) in
      let a = amount-least (12 ^ level) (λ y. sum_to count (λ n. uses nodes (suc level) y n)) s at in
      let b = amount-sum count (λ y n. uses nodes (suc level) y n) s in
      omega arith

-- a node has at least 12 times as many pages below it for each level
item-pages : (nodes : NodeMap) (count level : ℕ) (y : Item) → IsItem nodes (suc level) y → ((n : ℕ) → count ≤ n → uses nodes (suc level) y n ≡ 0) → 12 ^ level ≤ sum_to count (λ n. uses nodes (suc level) y n)
item-pages nodes count zero y h free =
    let within : y.to < count = elim (under_or y.to count) [
      | inl k ↦ k
      | inr k ↦ let a = free y.to k in let b = one_at-same y.to in absurd (omega arith)
    ] in
    let a = counted-once count y.to within in
    let b = sum-most count (λ n. one_at y.to n) (λ n. uses nodes 1 y n) (λ i l. omega arith) in
    omega arith
item-pages nodes count (suc level) y h free =
    let a = slots-pages_by nodes count level (λ z p q. item-pages nodes count level z p q) (nodes y.to).slots h.0.items (λ n k. let b = free n k in omega arith) in
    let b = sum-most count (λ n. amount (λ z. uses nodes (suc level) z n) (nodes y.to).slots) (λ n. uses nodes (suc (suc level)) y n) (λ i l. omega arith) in
    let c = mul-le-mul_right {m = 12} {n = filled (nodes y.to).slots} (12 ^ level) h.0.some in
    rw (pow-suc 12 level) (omega (arith, mul_comm))

-- A node above the leaves has at least 12 ^ level pages below each of its slots: no page is used twice, and each is counted.
pub node-many : (nodes : NodeMap) (v : View) (least level page : ℕ) → IsNode (λ y. IsItem nodes (suc level) y) least (suc level) (nodes page)
    → ((n : ℕ) → node_uses nodes (suc level) page n + spare_in v n ≤ 1) → least * 12 ^ level ≤ v.count
node-many nodes v least level page node once =
    let a = slots-pages_by nodes v.count level (λ y p q. item-pages nodes v.count level y p q) (nodes page).slots node.items
    (λ n k. let u = uncounted-past v.count n k in let o = once n in omega arith) in
    let b = sum-once v.count (λ n. amount (λ y. uses nodes (suc level) y n) (nodes page).slots) (λ n. let o = once n in omega arith) in
    let c = mul-le-mul_right {m = least} {n = filled (nodes page).slots} (12 ^ level) node.some in
    omega arith

-- a node with a slot isn't above level 9, since 12 ^ 9 pages are more than a u32 can number
pub node-level : (nodes : NodeMap) (v : View) (least level page : ℕ) → IsNode (λ y. IsItem nodes level y) least level (nodes page) → 0 < least
    → ((n : ℕ) → node_uses nodes level page n + spare_in v n ≤ 1) → v.count ≤ 2 ^ 32 → level ≤ 9
node-level nodes v least zero page node some once small = omega arith
node-level nodes v least (suc level) page node some once small =
    let a = node-many nodes v least level page node once in
    elim (under_or level 9) [
      | inl k ↦ omega arith
      | inr k ↦
          let b = pow-le-pow_right {n = 12} (lit< tt) k in
          let c = mul-le-mul_right {m = 1} {n = least} (12 ^ level) some in
          absurd (omega arith)
    ]

-- a root has a slot
pub root-some : (level : ℕ) → 0 < root_least level
root-some zero = omega arith
root-some (suc level) = omega arith

-- the root of a well-formed tree isn't above level 9
pub whole-level : (reads : Reads) (v : View) (root : ℕ) → IsWhole reads v root → v.count ≤ 2 ^ 32 → level_at reads v.pages root ≤ 9
whole-level reads v zero whole small = omega arith
whole-level reads v (suc n) whole small =
    let level : ℕ = level_at reads v.pages (suc n) in
    node-level (nodes_in reads v.pages) v (root_least level) level (suc n) whole.tree (root-some level) whole.once small

module _ (nodes : NodeMap) (f : Item → ℕ) (level d bound : ℕ) (each : (y : Item) → IsItem nodes level y → y.reach d < bound → below nodes f level y ≡ 0) where
  held-nothing : (o : Option Item) → Held (λ y. IsItem nodes level y) o → got (reach_of d) o < bound → got (λ y. below nodes f level y) o ≡ 0
  held-nothing None h less = refl
  held-nothing (Some y) h less = each y h less

  -- where slots don't reach, no place does
  slots-nothing : (s : Slots) → Each (λ y. IsItem nodes level y) s → tops d s < bound → amount (λ y. below nodes f level y) s ≡ 0
  slots-nothing s e less = amount-nothing (λ y. below nodes f level y) s (λ i l. held-nothing (s i) (e i l) (let a = tops-at d s i l in omega arith))

below-nothing : (nodes : NodeMap) (f : Item → ℕ) (d bound : ℕ) → ((x : Item) → x.reach d < bound → f x ≡ 0) → (level : ℕ) (y : Item) → IsItem nodes level y → y.reach d < bound → below nodes f level y ≡ 0
below-nothing nodes f d bound none zero y h less = none y less
below-nothing nodes f d bound none (suc level) y h less =
    slots-nothing nodes f level d bound (λ z p q. below-nothing nodes f d bound none level z p q) (nodes y.to).slots h.0.items (let t = h.1 d in omega arith)

-- Where an item doesn't reach far enough to some side, none of the places that reach so far there is below it.
pub unreached : (nodes : NodeMap) (f : Item → ℕ) (level : ℕ) (y : Item) (goal : ℕ → ℕ) → IsItem nodes level y → (d : ℕ) → y.reach d < goal d → ((x : Item) → 0 < f x → x.reach d ≡ goal d) → below nodes f level y ≡ 0
unreached nodes f level y goal h d less is =
    below-nothing nodes f d (goal d) (λ x l. elim (none_or (f x)) [ inl k ↦ k | inr k ↦ let e = is x k in absurd (omega arith) ]) level y h less
