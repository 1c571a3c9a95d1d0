-- Masks of the 32 slots of a node, slot i at bit i.
use Rattle.std.specs.Prelude.{◌≡◌, ℕ, ◌<◌, Bool, ◌==◌}
use Rattle.std.specs.Int.{bit_at}

-- the mask has slot i, as a test
abbrev pub has_slot : ℕ → ℕ → Bool
has_slot mask i = bit_at mask i == 1

-- the mask has exactly the slots that meet a test
abbrev pub Marks : ℕ → (ℕ → Bool) → Type 0
Marks mask test = (i : ℕ) → i < 32 → has_slot mask i ≡ test i
