-- A well-formed tree has many entries by its levels.
use Rattle.std.proofs.Common.{ℕ, zero, suc, ◌*◌, ◌^◌, ◌<◌, ◌≤◌, lit<, arith, inl, inr}
use Rattle.std.proofs.Math.Nat.{pow-suc, pow-le-pow_right, mul_comm, mul-le-mul_right}
use Rattle.page_face.specs.FreeList.{PageMap}
use Rattle.rtree_nodes.specs.Slots.{Item, NodeMap, one, amount, filled}
use Rattle.rtree_nodes.specs.Trees.{below, IsNode, IsItem, root_least}
use Rattle.rtree_nodes.specs.Made.{Reads, nodes_in}
use Rattle.rtree_nodes.specs.Whole.{IsWell, level_at}
use Rattle.rtree_nodes.proofs.Heights.{amount-least, under_or}
use Rattle.tree_check.specs.Sizes.{tree_entries}
use Rattle.tree_check.proofs.Sums.{each-map}

-- a node with at least so many slots
node-entries : (nodes : NodeMap) (level : ℕ) → ((y : Item) → IsItem nodes level y → 12 ^ level ≤ below nodes one level y) → (least page : ℕ)
    → IsNode (λ y. IsItem nodes level y) least level (nodes page) → least * 12 ^ level ≤ amount (λ y. below nodes one level y) (nodes page).slots
node-entries nodes level each least page node =
    let a = amount-least (12 ^ level) (λ y. below nodes one level y) (nodes page).slots
    (each-map (λ y. IsItem nodes level y) (λ y. 12 ^ level ≤ below nodes one level y) each (nodes page).slots node.items) in
    let b = mul-le-mul_right {m = least} {n = filled (nodes page).slots} (12 ^ level) node.some in
    omega arith

item-entries : (nodes : NodeMap) (level : ℕ) (y : Item) → IsItem nodes level y → 12 ^ level ≤ below nodes one level y
item-entries nodes zero y h = omega arith
item-entries nodes (suc level) y h =
    let a = node-entries nodes level (λ z p. item-entries nodes level z p) 12 y.to h.0 in
    rw (pow-suc 12 level) (omega (arith, mul_comm))

pub entries-many : (reads : Reads) (pages : PageMap) (root : ℕ) → IsWell reads pages root → 0 < root
    → root_least (level_at reads pages root) * 12 ^ level_at reads pages root ≤ tree_entries reads pages root
entries-many reads pages zero well some = absurd (omega arith)
entries-many reads pages (suc n) well some =
    let nodes : NodeMap = nodes_in reads pages in
    let level : ℕ = level_at reads pages (suc n) in
    node-entries nodes level (λ z p. item-entries nodes level z p) (root_least level) (suc n) well

-- a root at a level has twice 12 to its power entries, unless it is a leaf
low : (level bound : ℕ) → 0 < bound → root_least level * 12 ^ level < 2 * 12 ^ bound → level < bound
low zero bound some less = some
low (suc level) bound some less = elim (under_or (suc level) bound) [
  | inl k ↦ k
  | inr k ↦ let a = pow-le-pow_right {n = 12} (lit< tt) k in absurd (omega arith)
]

-- a tree with fewer entries than that is lower
levels-under : (reads : Reads) (pages : PageMap) (root bound : ℕ) → IsWell reads pages root → 0 < bound → tree_entries reads pages root < 2 * 12 ^ bound → level_at reads pages root < bound
levels-under reads pages zero bound well some less = some
levels-under reads pages (suc n) bound well some less =
    let a = entries-many reads pages (suc n) well (omega arith) in
    low (level_at reads pages (suc n)) bound some (omega arith)

pub levels-few : (reads : Reads) (pages : PageMap) (root : ℕ) → IsWell reads pages root → tree_entries reads pages root < 2 ^ 32 → level_at reads pages root ≤ 8
levels-few reads pages root well less = let a = levels-under reads pages root 9 well (omega arith) (omega arith) in omega arith

pub levels-fewer : (reads : Reads) (pages : PageMap) (root : ℕ) → IsWell reads pages root → tree_entries reads pages root ≤ 1000000 → level_at reads pages root ≤ 5
levels-fewer reads pages root well less = let a = levels-under reads pages root 6 well (omega arith) (omega arith) in omega arith
