-- A well-formed tree has few nodes by its entries.
use Rattle.std.proofs.Common.{ℕ, zero, suc, ◌+◌, ◌*◌, ◌≤◌, arith}
use Rattle.page_face.specs.FreeList.{PageMap}
use Rattle.rtree_nodes.specs.Slots.{Item, Slots, NodeMap, sum_to, one, amount, filled, Each}
use Rattle.rtree_nodes.specs.Trees.{below, IsItem}
use Rattle.rtree_nodes.specs.Made.{Reads, nodes_in}
use Rattle.rtree_nodes.specs.Whole.{IsWell, level_at, tree_uses}
use Rattle.rtree_nodes.proofs.Heights.{root-some}
use Rattle.tree_check.specs.Sizes.{nodes_below, tree_nodes, tree_entries}
use Rattle.tree_check.proofs.Counts.{pages-most}
use Rattle.tree_check.proofs.Sums.{amount-times, each-map}

-- slots have 11 times as many entries below them as nodes, and one more for each that is used
slots-eleven : (nodes : NodeMap) (level : ℕ) → ((y : Item) → IsItem nodes level y → nodes_below nodes level y * 11 + 1 ≤ below nodes one level y)
    → (s : Slots) → Each (λ y. IsItem nodes level y) s → amount (λ y. nodes_below nodes level y) s * 11 + filled s ≤ amount (λ y. below nodes one level y) s
slots-eleven nodes level each s e =
    amount-times 11 (λ y. nodes_below nodes level y) one (λ y. below nodes one level y) s
    (each-map (λ y. IsItem nodes level y) (λ y. nodes_below nodes level y * 11 + one y ≤ below nodes one level y) each s e)

-- an item has 11 times as many entries below it as nodes, and one more
item-eleven : (nodes : NodeMap) (level : ℕ) (y : Item) → IsItem nodes level y → nodes_below nodes level y * 11 + 1 ≤ below nodes one level y
item-eleven nodes zero y h = omega arith
item-eleven nodes (suc level) y h =
    let a = slots-eleven nodes level (λ z p. item-eleven nodes level z p) (nodes y.to).slots h.0.items in
    let b = h.0.some in
    omega arith

pub nodes-few : (reads : Reads) (pages : PageMap) (root : ℕ) → IsWell reads pages root → 11 * tree_nodes reads pages root ≤ tree_entries reads pages root + 10
nodes-few reads pages zero well = omega arith
nodes-few reads pages (suc n) well =
    let nodes : NodeMap = nodes_in reads pages in
    let level : ℕ = level_at reads pages (suc n) in
    let a = slots-eleven nodes level (λ z p. item-eleven nodes level z p) (nodes (suc n)).slots well.items in
    let b = well.some in
    let c = root-some level in
    omega arith

pub pages-few : (reads : Reads) (pages : PageMap) (root count : ℕ) → IsWell reads pages root → 11 * sum_to count (tree_uses reads pages root) ≤ tree_entries reads pages root + 10
pages-few reads pages root count well = let a = pages-most reads pages root count in let b = nodes-few reads pages root well in omega arith
