-- The words of a node in memory.
use Rattle.std.specs.Prelude.{ℕ, ◌+◌, ◌<◌, ◌≤◌, List, [], ◌∷◌}
use Rattle.node_rows.specs.Rows.{Bytes}
use Rattle.node_rows.specs.Impacts.{top_at}

-- the words ascend from one bound to another, each with an impact that isn't 0
abbrev pub AreWords : ℕ → ℕ → List (ℕ × ℕ) → Type 0
AreWords low high [] = low ≤ high
AreWords low high (pair ∷ pairs) = (low ≤ pair.0) × (0 < pair.1) × AreWords (pair.0 + 1) high pairs

-- the greatest byte of one node at each word, whatever node and slot is asked
abbrev pub tops_of : Bytes → ℕ → Bytes
tops_of b node n w i = top_at b node w

-- the byte of one node at one slot, whatever node and slot is asked
abbrev pub slot_of : Bytes → ℕ → ℕ → Bytes
slot_of b node slot n w i = b node w slot

-- no byte
abbrev pub no_bytes : Bytes
no_bytes n w i = 0
