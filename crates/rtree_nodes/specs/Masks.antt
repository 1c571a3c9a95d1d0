-- Which items of a node move to another one.
use Rattle.std.specs.Prelude.{ℕ, None, if◌then◌else◌, ◌==◌}
use Rattle.std.specs.Int.{bit_at}
use Rattle.rtree_nodes.specs.Slots.{Slots, sum_to}

-- the items that stay: those whose bit isn't set
abbrev pub kept_of : ℕ → Slots → Slots
kept_of mask slots i = if bit_at mask i == 1 then None else slots i

-- the items that move, each to the slot of its number
abbrev pub moved_of : ℕ → Slots → Slots
moved_of mask slots i = if bit_at mask i == 1 then slots i else None

-- how many of the first n bits are set
unfoldable pub marked : ℕ → ℕ → ℕ
marked n mask = sum_to n (λ i. bit_at mask i)
