-- How many nodes and entries a tree has.
use Rattle.std.specs.Prelude.{ℕ, zero, suc}
use Rattle.page_face.specs.FreeList.{PageMap}
use Rattle.rtree_nodes.specs.Slots.{Item, NodeMap, one, amount}
use Rattle.rtree_nodes.specs.Made.{Reads, nodes_in}
use Rattle.rtree_nodes.specs.Whole.{level_at, tree_sum}

-- how many nodes are below an item in a node of this level
abbrev pub nodes_below : NodeMap → ℕ → Item → ℕ
nodes_below nodes zero x = 0
nodes_below nodes (suc level) x = suc (amount (λ y. nodes_below nodes level y) (nodes x.to).slots)

-- how many nodes the tree at a root has; the empty tree, of root 0, has none
abbrev pub tree_nodes : Reads → PageMap → ℕ → ℕ
tree_nodes reads pages zero = 0
tree_nodes reads pages (suc n) = suc (amount (λ y. nodes_below (nodes_in reads pages) (level_at reads pages (suc n)) y) (nodes_in reads pages (suc n)).slots)

-- how many entries the tree at a root has
abbrev pub tree_entries : Reads → PageMap → ℕ → ℕ
tree_entries reads pages root = tree_sum reads pages root one
