-- The two kinds of nodes in memory.
use Rattle.std.specs.Prelude.{Bool, true, false}
use Rattle.rtree_nodes.specs.declared.held.Slots.{Slots}
use Rattle.rtree_nodes.specs.declared.held.Slots.TheVariants.{Leaf, Inner}

-- the slots are a leaf's, as a test
abbrev pub is_leaf : Slots → Bool
is_leaf (Leaf points keys) = true
is_leaf (Inner rects children) = false
