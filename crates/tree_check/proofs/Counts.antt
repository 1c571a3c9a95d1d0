-- A tree uses a page for each node.
use Rattle.std.proofs.Common.{◌≡◌, ℕ, zero, suc, ◌+◌, ◌*◌, ◌<◌, ◌≤◌, arith, refl, ap, Option, Some, None, inl, inr}
use Rattle.page_face.specs.FreeList.{PageMap}
use Rattle.btree_nodes.specs.Supply.{one_at}
use Rattle.btree_nodes.proofs.Supplies.{one_at-same, one_at-other}
use Rattle.rtree_nodes.specs.Slots.{Item, Slots, NodeMap, sum_to, got, amount}
use Rattle.rtree_nodes.specs.Trees.{uses}
use Rattle.rtree_nodes.specs.Made.{Reads, nodes_in}
use Rattle.rtree_nodes.specs.Whole.{level_at, tree_uses}
use Rattle.rtree_nodes.proofs.Sums.{sum-zero, sum-same, at_end}
use Rattle.rtree_nodes.proofs.Amounts.{amount-at}
use Rattle.rtree_nodes.proofs.Heights.{under_or}
use Rattle.tree_check.specs.Sizes.{nodes_below, tree_nodes}
use Rattle.tree_check.proofs.Sums.{sum-plus, amount-sum, amount-times, each-all}

-- ---- one page

-- among pages up to another one it isn't
page-past : (n page : ℕ) → n ≤ page → sum_to n (one_at page) ≡ 0
unfolding sum_to
page-past zero page l = refl
page-past (suc n) page l = let a = page-past n page (omega arith) in let b = one_at-other page n (λ e. omega arith) in omega arith

-- among pages beyond it it is once
page-within : (n page : ℕ) → page < n → sum_to n (one_at page) ≡ 1
unfolding sum_to
page-within zero page l = absurd (omega arith)
page-within (suc n) page l = elim (at_end n page l) [
  | inl e ↦ let a = page-past n page (omega arith) in let b = ap (λ (k : ℕ). one_at k n) e in let c = one_at-same n in omega arith
  | inr k ↦ let a = page-within n page k in let b = one_at-other page n (λ e. omega arith) in omega arith
]

page-most : (n page : ℕ) → sum_to n (one_at page) ≤ 1
page-most n page = elim (under_or page n) [ inl k ↦ let a = page-within n page k in omega arith | inr k ↦ let a = page-past n page k in omega arith ]

-- ---- at most

-- the pages of a node at a page, where those below each item are at most its nodes
node-most : (nodes : NodeMap) (count level page : ℕ) (s : Slots) → ((y : Item) → sum_to count (λ n. uses nodes level y n) ≤ nodes_below nodes level y)
    → sum_to count (λ n. one_at page n + amount (λ y. uses nodes level y n) s) ≤ suc (amount (λ y. nodes_below nodes level y) s)
node-most nodes count level page s each =
    let a = sum-plus count (one_at page) (λ n. amount (λ y. uses nodes level y n) s) in
    let b = amount-sum count (λ y n. uses nodes level y n) s in
    let c = amount-times 1 (λ y. sum_to count (λ n. uses nodes level y n)) (λ y. 0) (λ y. nodes_below nodes level y) s
    (each-all (λ y. sum_to count (λ n. uses nodes level y n) * 1 + 0 ≤ nodes_below nodes level y) (λ y. let e = each y in omega arith) s) in
    let d = page-most count page in
    omega arith

item-most : (nodes : NodeMap) (count level : ℕ) (y : Item) → sum_to count (λ n. uses nodes level y n) ≤ nodes_below nodes level y
item-most nodes count zero y = let z = sum-zero count in omega arith
item-most nodes count (suc level) y = node-most nodes count level y.to (nodes y.to).slots (λ z. item-most nodes count level z)

pub pages-most : (reads : Reads) (pages : PageMap) (root count : ℕ) → sum_to count (tree_uses reads pages root) ≤ tree_nodes reads pages root
pages-most reads pages zero count = let z = sum-zero count in omega arith
pages-most reads pages (suc n) count =
    let nodes : NodeMap = nodes_in reads pages in
    let level : ℕ = level_at reads pages (suc n) in
    node-most nodes count level (suc n) (nodes (suc n)).slots (λ z. item-most nodes count level z)

-- ---- just so many

got-same : (f g : Item → ℕ) (o : Option Item) → ((y : Item) → o ≡ Some y → f y ≡ g y) → got f o ≡ got g o
got-same f g None e = refl
got-same f g (Some y) e = e y refl

amount-equal : (f g : Item → ℕ) (s : Slots) → ((i : ℕ) → i < 32 → (y : Item) → s i ≡ Some y → f y ≡ g y) → amount f s ≡ amount g s
unfolding amount
amount-equal f g s e = sum-same 32 (λ i. got f (s i)) (λ i. got g (s i)) (λ i l. got-same f g (s i) (e i l))

-- the page of an item that is used only below count is below it
page-below : (count page : ℕ) (more : ℕ → ℕ) → ((n : ℕ) → count ≤ n → one_at page n + more n ≡ 0) → page < count
page-below count page more free = elim (under_or page count) [
  | inl k ↦ k
  | inr k ↦ let a = free page k in let b = one_at-same page in absurd (omega arith)
]

module _ (nodes : NodeMap) (count level page : ℕ) (s : Slots)
    (each : (y : Item) → ((n : ℕ) → count ≤ n → uses nodes level y n ≡ 0) → sum_to count (λ n. uses nodes level y n) ≡ nodes_below nodes level y)
    (free : (n : ℕ) → count ≤ n → one_at page n + amount (λ y. uses nodes level y n) s ≡ 0) where
  slot-free : (i : ℕ) → i < 32 → (y : Item) → s i ≡ Some y → (n : ℕ) → count ≤ n → uses nodes level y n ≡ 0
  slot-free i l y is n k =
      let a = amount-at (λ z. uses nodes level z n) s i l in
      let b : got (λ z. uses nodes level z n) (s i) ≡ uses nodes level y n = ap (got (λ z. uses nodes level z n)) is in
      let c = free n k in
      omega arith

  node-all : sum_to count (λ n. one_at page n + amount (λ y. uses nodes level y n) s) ≡ suc (amount (λ y. nodes_below nodes level y) s)
  node-all =
      let a = sum-plus count (one_at page) (λ n. amount (λ y. uses nodes level y n) s) in
      let b = amount-sum count (λ y n. uses nodes level y n) s in
      let c = amount-equal (λ y. sum_to count (λ n. uses nodes level y n)) (λ y. nodes_below nodes level y) s (λ i l y is. each y (slot-free i l y is)) in
      let d = page-within count page (page-below count page (λ n. amount (λ y. uses nodes level y n) s) free) in
      omega arith

item-all : (nodes : NodeMap) (count level : ℕ) (y : Item) → ((n : ℕ) → count ≤ n → uses nodes level y n ≡ 0) → sum_to count (λ n. uses nodes level y n) ≡ nodes_below nodes level y
item-all nodes count zero y free = sum-zero count
item-all nodes count (suc level) y free = node-all nodes count level y.to (nodes y.to).slots (λ z f. item-all nodes count level z f) free

pub pages-all : (reads : Reads) (pages : PageMap) (root count : ℕ) → ((n : ℕ) → count ≤ n → tree_uses reads pages root n ≡ 0) → sum_to count (tree_uses reads pages root) ≡ tree_nodes reads pages root
pages-all reads pages zero count free = sum-zero count
pages-all reads pages (suc n) count free =
    let nodes : NodeMap = nodes_in reads pages in
    let level : ℕ = level_at reads pages (suc n) in
    node-all nodes count level (suc n) (nodes (suc n)).slots (λ z f. item-all nodes count level z f) free
