-- Choices of one member of each of some lists, and lists that are cut to what counts.
use Rattle.std.specs.Prelude.{ℕ, ◌≤◌, List, [], ◌∷◌}
use Rattle.std.specs.List.{Contains}
use Rattle.spatial_base.specs.Point.{Viewpoint, distance}
use Rattle.place_values.specs.declared.query.Pick.{Pick}

-- one member of each list, in the lists' order
abbrev pub IsChoice : {X : Type 0} → List (List X) → List X → Type 0
IsChoice [] [] = Unit {0}
IsChoice [] (x ∷ xs) = ⊥
IsChoice (list ∷ lists) [] = ⊥
IsChoice (list ∷ lists) (x ∷ xs) = Contains list x × IsChoice lists xs

-- a pick is at most so far from a point
abbrev pub IsWithin : Viewpoint → ℕ → Pick → Type 0
IsWithin at most pick = distance at pick.point ≤ most

-- it lies in two circles
abbrev pub IsInBoth : Viewpoint → ℕ → Viewpoint → ℕ → Pick → Type 0
IsInBoth at most centre radius pick = IsWithin at most pick × IsWithin centre radius pick

-- some of a list's picks, and all of those that count
pub record IsCut (counts : Pick → Type 0) (all cut : List Pick) : Type 0 where
  pub among : (pick : Pick) → Contains cut pick → Contains all pick
  pub whole : (pick : Pick) → Contains all pick → counts pick → Contains cut pick

-- so it is with each of some lists
abbrev pub AreCut : (Pick → Type 0) → List (List Pick) → List (List Pick) → Type 0
AreCut counts [] [] = Unit {0}
AreCut counts [] (cut ∷ cuts) = ⊥
AreCut counts (all ∷ lists) [] = ⊥
AreCut counts (all ∷ lists) (cut ∷ cuts) = IsCut counts all cut × AreCut counts lists cuts

-- the same picks
abbrev pub IsSame : List Pick → List Pick → Type 0
IsSame all cut = IsCut (λ pick. Unit {0}) all cut
