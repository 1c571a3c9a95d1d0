-- Sets of words as masks: bit i stands for word i.
use Rattle.std.specs.Prelude.{ℕ, zero, suc, ◌+◌, ◌==◌, Bool, true, false, List, [], ◌∷◌, length}
use Rattle.std.specs.Int.{bit_at}

-- a set has a word
abbrev pub has_word : ℕ → ℕ → Bool
has_word set i = bit_at set i == 1

-- whether a set has each of so many words from one on
abbrev pub flags_from : ℕ → ℕ → ℕ → List Bool
flags_from set i zero = []
flags_from set i (suc count) = has_word set i ∷ flags_from set (i + 1) count

-- the members of a list that are flagged
abbrev pub flagged : {X : Type 0} → List Bool → List X → List X
flagged [] xs = []
flagged (flag ∷ flags) [] = []
flagged (true ∷ flags) (x ∷ xs) = x ∷ flagged flags xs
flagged (false ∷ flags) (x ∷ xs) = flagged flags xs

-- what a list has for the words of a set
abbrev pub in_set : {X : Type 0} → ℕ → List X → List X
in_set set xs = flagged (flags_from set 0 (length xs)) xs
