-- What a script keeps between two pieces of its input.
use Rattle.std.specs.Prelude.{◌≡◌, ℕ, ◌<◌, List, length, take, slice_index}

-- as much of a line as can matter: a line of more than 65,536 bytes is refused whatever follows
unfoldable pub kept : List ℕ → List ℕ
kept line = take 65537 line

-- no byte is an LF
abbrev pub EndsNoLine : List ℕ → Type 0
EndsNoLine bytes = (i : ℕ) → i < length bytes → slice_index bytes i ≡ 10 → ⊥
