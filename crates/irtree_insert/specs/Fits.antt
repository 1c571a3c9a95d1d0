-- Which slots fit which nodes.
use Rattle.std.specs.Prelude.{◌≡◌, ℕ, ◌==◌}
use Rattle.rtree_nodes.specs.declared.content.Slot.{Slot}
use Rattle.rtree_nodes.specs.Reach.{is_place}

-- a slot of a node of this level: a place in a leaf, a child above
abbrev pub Fits : ℕ → Slot → Type 0
Fits level slot = is_place slot ≡ (level == 0)
