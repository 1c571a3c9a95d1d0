-- The pages of a well-formed tree are counted, and nodes.
use Rattle.std.proofs.Common.{◌≡◌, ℕ, zero, suc, ◌+◌, ◌<◌, ◌++◌, List, [], ◌∷◌, Option, Some, None, arith}
use Rattle.std.specs.List.{AllByRecursion}
use Rattle.page_face.specs.FreeList.{PageMap}
use Rattle.page_face.specs.Causes.{IsUncounted}
use Rattle.btree_nodes.specs.Supply.{one_at}
use Rattle.btree_nodes.proofs.Supplies.{one_at-same}
use Rattle.rtree_nodes.specs.Slots.{Item, got, amount, Held}
use Rattle.rtree_nodes.specs.Trees.{IsNode, IsItem, uses, root_least}
use Rattle.rtree_nodes.specs.Pages.{slots_in, node_of}
use Rattle.rtree_nodes.specs.Whole.{IsWell, level_at, tree_uses}
use Rattle.rtree_nodes.proofs.Bounding.{some-form}
use Rattle.rtree_nodes.proofs.Amounts.{amount-at}
use Rattle.rtree_nodes.proofs.Heights.{root-some}
use Rattle.tree_check.specs.Nodes.{nodes_in, chained, listed, pages_below, node_pages, tree_pages}
use Rattle.tree_check.specs.Agreement.{IsNodePage}

all-join : (P : ℕ → Type 0) (xs ys : List ℕ) → AllByRecursion P xs → AllByRecursion P ys → AllByRecursion P (xs ++ ys)
all-join P [] ys a b = b
all-join P (x ∷ xs) ys a b = (a.0, all-join P xs ys a.1 b)

all-lists : (P : ℕ → Type 0) (n : ℕ) (f : ℕ → List ℕ) → ((i : ℕ) → i < n → AllByRecursion P (f i)) → AllByRecursion P (chained n f)
unfolding chained
all-lists P zero f a = tt
all-lists P (suc n) f a = all-join P (chained n f) (f n) (all-lists P n f (λ i l. a i (omega arith))) (a n (omega arith))

module _ (pages : PageMap) (count : ℕ) where
  slot-listed : (level : ℕ) → ((y : Item) → IsItem (nodes_in pages) level y → ((n : ℕ) → IsUncounted count n → uses (nodes_in pages) level y n ≡ 0) → AllByRecursion (IsNodePage pages count) (pages_below (nodes_in pages) level y))
      → (o : Option Item) → Held (λ y. IsItem (nodes_in pages) level y) o → ((n : ℕ) → IsUncounted count n → got (λ y. uses (nodes_in pages) level y n) o ≡ 0)
      → AllByRecursion (IsNodePage pages count) (listed (λ y. pages_below (nodes_in pages) level y) o)
  slot-listed level each None h known = tt
  slot-listed level each (Some y) h known = each y h known

  node-listed : (least level page : ℕ) → 0 < least
      → ((y : Item) → IsItem (nodes_in pages) level y → ((n : ℕ) → IsUncounted count n → uses (nodes_in pages) level y n ≡ 0) → AllByRecursion (IsNodePage pages count) (pages_below (nodes_in pages) level y))
      → IsNode (λ y. IsItem (nodes_in pages) level y) least level (nodes_in pages page)
      → ((n : ℕ) → IsUncounted count n → one_at page n + amount (λ y. uses (nodes_in pages) level y n) (slots_in (pages page)) ≡ 0)
      → AllByRecursion (IsNodePage pages count) (node_pages (nodes_in pages) level page)
  node-listed least level page some each node known =
      let many = node.some in
      all-join (IsNodePage pages count) (chained 32 (λ i. listed (λ y. pages_below (nodes_in pages) level y) (slots_in (pages page) i))) (page ∷ [])
      (all-lists (IsNodePage pages count) 32 (λ i. listed (λ y. pages_below (nodes_in pages) level y) (slots_in (pages page) i))
      (λ i l. slot-listed level each (slots_in (pages page) i) (node.items i l)
      (λ n u. let k = known n u in let a = amount-at (λ y. uses (nodes_in pages) level y n) (slots_in (pages page)) i l in omega arith)))
      (record { counted = λ u. let k = known page u in let o = one_at-same page in absurd (omega arith); form = some-form (pages page) (omega arith) }, tt)

  item-listed : (level : ℕ) (x : Item) → IsItem (nodes_in pages) level x → ((n : ℕ) → IsUncounted count n → uses (nodes_in pages) level x n ≡ 0) → AllByRecursion (IsNodePage pages count) (pages_below (nodes_in pages) level x)
  item-listed zero x item known = tt
  item-listed (suc level) x item known = node-listed 12 level x.to (omega arith) (λ y i k. item-listed level y i k) item.0 known

  -- the pages of a well-formed tree whose pages are counted are counted nodes
  pub tree-listed : (root : ℕ) → IsWell node_of pages root → ((n : ℕ) → IsUncounted count n → tree_uses node_of pages root n ≡ 0) → AllByRecursion (IsNodePage pages count) (tree_pages pages root)
  tree-listed zero well known = tt
  tree-listed (suc m) well known =
      let level : ℕ = level_at node_of pages (suc m) in
      node-listed (root_least level) level (suc m) (root-some level) (λ y i k. item-listed level y i k) well known
