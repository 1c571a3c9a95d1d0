-- The places below a node.
use Rattle.std.proofs.Common.{◌≡◌, ℕ, zero, suc, ◌<◌, ◌≤◌, List, [], ◌∷◌, Option, Some, None, refl, sym, ap, subst, arith, inl, inr}
use Rattle.std.specs.List.{AllByRecursion, Contains}
use Rattle.std.proofs.lemmas.List.Elements.{Contains-append_left, Contains-append_right}
use Rattle.rtree_nodes.specs.Slots.{Item, Slots, NodeMap, sum_to, gather, opt_list, got, one, amount, filled, Held, Each}
use Rattle.rtree_nodes.specs.Trees.{IsItem, IsNode, places, uses, node_uses}
use Rattle.rtree_nodes.proofs.Sums.{at_end}
use Rattle.rtree_nodes.proofs.Amounts.{amount-at}
use Rattle.best_first.specs.Lists.{all_in, all_append}
use Rattle.node_filter.specs.Entries.{node_places}
use Rattle.boolean_queries.proofs.Covers.{IsPlace}

gather-member : (n : ℕ) (f : ℕ → List Item) (i : ℕ) (y : Item) → i < n → Contains (f i) y → Contains (gather n f) y
unfolding gather
gather-member zero f i y l c = absurd (omega arith)
gather-member (suc n) f i y l c = elim (at_end n i l) [
  | inl e ↦ Contains-append_left (f n) (gather n f) y (subst (λ (k : ℕ). Contains (f k) y) e c)
  | inr k ↦ Contains-append_right (f n) (gather n f) y (gather-member n f i y k c)
]

gather-all : (P : Item → Type 0) (n : ℕ) (f : ℕ → List Item) → ((i : ℕ) → i < n → AllByRecursion P (f i)) → AllByRecursion P (gather n f)
unfolding gather
gather-all P zero f h = tt
gather-all P (suc n) f h = all_append P (f n) (gather n f) (h n (omega arith)) (gather-all P n f (λ i l. h i (omega arith)))

-- what is below a slot's item is below the node
pub slot-member : (nodes : NodeMap) (level page i : ℕ) (x y : Item) → i < 32 → (nodes page).slots i ≡ Some x → Contains (places nodes level x) y → Contains (node_places nodes level page) y
slot-member nodes level page i x y l e c =
    gather-member 32 (λ k. opt_list (λ z. places nodes level z) ((nodes page).slots k)) i y l (subst (λ (o : Option Item). Contains (opt_list (λ z. places nodes level z) o) y) (sym e) c)

-- the places below a node are places
module _ (nodes : NodeMap) (leaves : (page : ℕ) → (nodes page).level ≡ 0 → Each IsPlace (nodes page).slots) where
  leaf-held : (o : Option Item) → Held IsPlace o → AllByRecursion IsPlace (opt_list (λ y. places nodes 0 y) o)
  leaf-held None h = tt
  leaf-held (Some y) h = (h, tt)

  inner-held : (level : ℕ) → ((page : ℕ) → IsNode (λ y. IsItem nodes level y) 12 level (nodes page) → AllByRecursion IsPlace (node_places nodes level page))
      → (o : Option Item) → Held (λ y. IsItem nodes (suc level) y) o → AllByRecursion IsPlace (opt_list (λ y. places nodes (suc level) y) o)
  inner-held level each None h = tt
  inner-held level each (Some y) h = each y.to h.0

  pub places-are : (level least page : ℕ) → IsNode (λ y. IsItem nodes level y) least level (nodes page) → AllByRecursion IsPlace (node_places nodes level page)
  places-are zero least page n =
      gather-all IsPlace 32 (λ i. opt_list (λ y. places nodes 0 y) ((nodes page).slots i)) (λ i l. leaf-held ((nodes page).slots i) (leaves page n.level_is i l))
  places-are (suc level) least page n =
      gather-all IsPlace 32 (λ i. opt_list (λ y. places nodes (suc level) y) ((nodes page).slots i)) (λ i l. inner-held level (λ p m. places-are level 12 p m) ((nodes page).slots i) (n.items i l))

-- a slot that is used
record HasItem (s : Slots) : Type 0 where
  pub at : ℕ
  pub within : at < 32
  pub item : Item
  pub is : s at ≡ Some item

slot-or : (n : ℕ) (s : Slots) → n ≤ 32 → 0 < sum_to n (λ i. got one (s i)) → HasItem s
unfolding sum_to
slot-or zero s l some = absurd (omega arith)
slot-or (suc n) s l some = by_slot (s n) refl (λ less. slot-or n s (omega arith) less)
  where
    by_slot : (o : Option Item) → s n ≡ o → (0 < sum_to n (λ i. got one (s i)) → HasItem s) → HasItem s
    by_slot None e less = let z : got one (s n) ≡ 0 = ap (got one) e in less (omega arith)
    by_slot (Some x) e less = record { at = n; within = omega arith; item = x; is = e }

slot-some : (s : Slots) → 0 < filled s → HasItem s
unfolding amount
slot-some s some = slot-or 32 s (omega arith) some

-- a node with a slot has a place below it
pub place-some : (nodes : NodeMap) (level least page : ℕ) → 0 < least → IsNode (λ y. IsItem nodes level y) least level (nodes page) → (y : Item) × Contains (node_places nodes level page) y
place-some nodes zero least page some n =
    let full = n.some in
    let s = slot-some (nodes page).slots (omega arith) in
    (s.item, slot-member nodes 0 page s.at s.item s.item s.within s.is (all_in (s.item ∷ [])).0)
place-some nodes (suc level) least page some n =
    let full = n.some in
    let s = slot-some (nodes page).slots (omega arith) in
    let item : IsItem nodes (suc level) s.item = subst (Held (λ y. IsItem nodes (suc level) y)) s.is (n.items s.at s.within) in
    let r = place-some nodes level 12 s.item.to (omega arith) item.0 in
    (r.0, slot-member nodes (suc level) page s.at s.item r.0 s.within s.is r.1)

-- a page below a child is below the node
pub child-used : (nodes : NodeMap) (level page i : ℕ) (x : Item) (n : ℕ) → i < 32 → (nodes page).slots i ≡ Some x → 0 < node_uses nodes level x.to n → 0 < node_uses nodes (suc level) page n
child-used nodes level page i x n l e used =
    let a = amount-at (λ y. uses nodes (suc level) y n) (nodes page).slots i l in
    let b : got (λ y. uses nodes (suc level) y n) ((nodes page).slots i) ≡ uses nodes (suc level) x n = ap (got (λ y. uses nodes (suc level) y n)) e in
    omega arith
