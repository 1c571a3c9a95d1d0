-- The choice of a slot by words.
use Rattle.std.specs.Prelude.{ℕ, ◌≤◌, List, ◌↔◌}
use Rattle.spatial_base.specs.Rect.{Bounds}
use Rattle.split_policy.specs.Masks.{IsUsed}
use Rattle.split_policy.specs.Quadratic.{IsLeastGrowth}
use Rattle.text_policy.specs.Words.{shared_at}

-- a used slot, and none shares more words with the entry
pub record IsMostShared (used : ℕ) (shared : List ℕ) (at : ℕ) : Type 0 where
  pub is_used : IsUsed used at
  pub most : (i : ℕ) → IsUsed used i → shared_at shared i ≤ shared_at shared at

-- of the slots that share the most words, the one that Guttman's quadratic policy chooses
pub record IsWordChoice (used : ℕ) (rects : List Bounds) (add : Bounds) (shared : List ℕ) (at : ℕ) : Type 0 where
  pub among : ℕ
  pub each : (i : ℕ) → IsUsed among i ↔ IsMostShared used shared i
  pub growth : IsLeastGrowth among rects add at
