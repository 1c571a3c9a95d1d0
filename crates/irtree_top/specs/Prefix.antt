-- The map after a prefix of the updates that holds every acknowledged one.
use Rattle.std.specs.Prelude.{◌≡◌, ◌⊎◌, ℕ, ◌+◌, ◌≤◌, ◌%◌, List, ◌++◌, length, take, fold}
use Rattle.disk_model.specs.World.{Image}
use Rattle.place_values.specs.State.{Contents}
use Rattle.place_values.specs.Update.{effect_of}
use Rattle.place_values.specs.declared.update.Update.{Update}
use Rattle.store_model.specs.Stands.{Stands}

-- the state after updates
abbrev pub state_after_updates : Contents → List Update → Contents
state_after_updates start updates = fold (λ state update. (effect_of state update).state) start updates

-- Something was said, and the image stands for the state after some of the changes, in order: all that what was said acknowledges,
-- and no more beside them than may be under way.
pub record HoldsAcked (acked : List ℕ → ℕ) (IsNear : ℕ → ℕ → ℕ → Type 0) (start : Contents) (changes : List Update) (before : List ℕ) (image : Image) (said : List ℕ) : Type 0 where
  pub spoken : List ℕ
  pub is : said ≡ before ++ spoken
  pub some : ℕ
  pub most : some ≤ length changes
  pub stands : Stands image (state_after_updates start (take some changes))
  pub acknowledged : acked spoken ≤ some
  pub near : IsNear some (acked spoken) (length changes)

-- in a script one update may be under way
abbrev pub IsNearInScript : ℕ → ℕ → ℕ → Type 0
IsNearInScript some acked all = some ≤ acked + 1

-- in a load one batch; and whole batches are held, or all
abbrev pub IsNearInLoad : ℕ → ℕ → ℕ → ℕ → Type 0
IsNearInLoad batch some acked all = (some ≤ acked + batch) × ((some % batch ≡ 0) ⊎ (some ≡ all))
