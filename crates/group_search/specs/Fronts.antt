-- Choices that begin with some picks: a front.
use Rattle.std.specs.Prelude.{◌≡◌, ℕ, ◌≤◌, false, List, [], ◌∷◌, ◌++◌, Option, Some, None}
use Rattle.std.specs.Cmp.Lexicographic.{slice_cmp}
use Rattle.std.specs.List.{AllByRecursion, Contains}
use Rattle.std.specs.Ordering.{is_lt}
use Rattle.spatial_base.specs.Point.{Viewpoint}
use Rattle.place_values.specs.declared.query.Pick.{Pick}
use Rattle.place_values.specs.Group.{choice_cost, pick_cmp}
use Rattle.group_search.specs.Choices.{IsChoice}

-- a front can go on with a pick of each list and cost at most so much
abbrev pub Completes : Viewpoint → List (List Pick) → ℕ → List Pick → Type 0
Completes at lists most front = (choice : List Pick) × IsChoice lists choice × (choice_cost at (front ++ choice) ≤ most)

-- the least pick of a list with which a front can be completed so, if there is one
abbrev pub IsNext : Viewpoint → List (List Pick) → ℕ → List Pick → List Pick → Option Pick → Type 0
IsNext at lists most front list None = AllByRecursion (λ pick. Completes at lists most (front ++ pick ∷ []) → ⊥) list
IsNext at lists most front list (Some next) =
    Contains list next × Completes at lists most (front ++ next ∷ []) × AllByRecursion (λ pick. Completes at lists most (front ++ pick ∷ []) → is_lt (pick_cmp pick next) ≡ false) list

-- A front that has gone on with a pick of each of the first lists, so that it can be completed. No other such picks come before these.
pub record HasLeastKeys (at : Viewpoint) (firsts lists : List (List Pick)) (most : ℕ) (old new : List Pick) : Type 0 where
  pub picks : List Pick
  pub is : new ≡ old ++ picks
  pub choice : IsChoice firsts picks
  pub within : Completes at lists most new
  pub least : (other : List Pick) → IsChoice firsts other → Completes at lists most (old ++ other) → is_lt (slice_cmp pick_cmp other picks) ≡ false
