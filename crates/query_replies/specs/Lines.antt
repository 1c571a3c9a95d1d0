-- Lines with ranks.
use Rattle.std.specs.Prelude.{ℕ, ◌+◌, List, [], ◌∷◌, ◌++◌, decimal}

-- a rank, what the item says, and LF
abbrev pub ranked_line : {X : Type 0} → (X → List ℕ) → ℕ → X → List ℕ
ranked_line said rank item = decimal rank ++ (32 ∷ (said item ++ 10 ∷ []))

-- a line for each item, the ranks going on from this one
abbrev pub ranked_lines : {X : Type 0} → (X → List ℕ) → ℕ → List X → List ℕ
ranked_lines said rank [] = []
ranked_lines said rank (item ∷ items) = ranked_line said rank item ++ ranked_lines said (rank + 1) items
