-- The entries of a tree as a list.
use Rattle.std.proofs.Common.{◌≡◌, ℕ, zero, suc, [], refl, sym, sum_by}
use Rattle.rtree_nodes.specs.Slots.{Item, NodeMap}
use Rattle.rtree_nodes.proofs.Greatest.{places-sum}
use Rattle.irtree_shape.specs.Whole.{level_at, tree_sum}
use Rattle.node_filter.specs.Entries.{tree_places}

-- a sum over a tree is the sum over the list of its entries
pub tree-sum : (nodes : NodeMap) (f : Item → ℕ) (root : ℕ) → tree_sum nodes root f ≡ sum_by f (tree_places nodes root)
tree-sum nodes f zero = refl
tree-sum nodes f (suc m) = sym (places-sum nodes f (suc (level_at nodes (suc m))) record { reach = λ d. 0; to = suc m; key = [] })
