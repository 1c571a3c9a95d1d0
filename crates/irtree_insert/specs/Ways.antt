-- The way down.
use Rattle.std.specs.Prelude.{◌≡◌, ℕ, ◌<◌, min, List, slice_index}
use Rattle.node_rows.specs.Rows.{Bytes}
use Rattle.node_rows.specs.Counts.{most, shared_in}

-- a policy that chooses so was asked with the number of an entry's words below each slot
pub record IsChosen (b : Bytes) (page : ℕ) (words : List (ℕ × ℕ)) (chooses : List ℕ → ℕ → Type 0) (at : ℕ) : Type 0 where
  pub counts : List ℕ
  pub counted : (i : ℕ) → i < 32 → slice_index counts i ≡ min (shared_in b page i words) most
  pub choice : chooses counts at
