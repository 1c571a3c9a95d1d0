-- Rows of a node that were read.
use Rattle.std.specs.Prelude.{ℕ, List, [], ◌∷◌, Bool, nat_lt}
use Rattle.node_rows.specs.Rows.{Bytes, HasBytes}

-- the rows are those of a node for these words, one for each, in the words' order
abbrev pub AreRowsAt : Bytes → ℕ → List (ℕ × ℕ) → List (List ℕ) → Type 0
AreRowsAt b node [] [] = Unit {0}
AreRowsAt b node [] (row ∷ rows) = ⊥
AreRowsAt b node (pair ∷ pairs) [] = ⊥
AreRowsAt b node (pair ∷ pairs) (row ∷ rows) = HasBytes row (b node pair.0) × AreRowsAt b node pairs rows

-- an impact of a word is above the word's byte at a slot
abbrev pub rises : Bytes → ℕ → ℕ → ℕ × ℕ → Bool
rises b node slot pair = nat_lt (b node pair.0 slot) pair.1
