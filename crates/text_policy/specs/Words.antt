-- How many words two entries share.
use Rattle.std.specs.Prelude.{ℕ, List, [], slice_index_or}

-- the words that slot i and an entry both have
abbrev pub shared_at : List ℕ → ℕ → ℕ
shared_at shared i = slice_index_or shared i 0

-- the words that entries i and j both have
abbrev pub like_at : List (List ℕ) → ℕ → ℕ → ℕ
like_at like i j = shared_at (slice_index_or like i []) j
