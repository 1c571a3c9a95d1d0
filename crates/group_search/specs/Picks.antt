-- Picks by their distance from a point.
use Rattle.std.specs.Prelude.{◌≡◌, ◌⊎◌, ℕ, ◌<◌, ◌≤◌, List, Vec, length}
use Rattle.std.specs.List.{AllByRecursion, Contains, flat_map}
use Rattle.std.specs.declared.alloc.Global.{Global}
use Rattle.spatial_base.specs.Point.{Viewpoint, distance}
use Rattle.place_values.specs.declared.query.Pick.{Pick}

-- no pick is farther than two points of the map can be apart
abbrev pub AreNear : List Pick → Type 0
AreNear picks = AllByRecursion (λ (pick : Pick). pick.dist ≤ 2545584412) picks

-- each pick is as far from the point as it says
abbrev pub AreMeasured : Viewpoint → List Pick → Type 0
AreMeasured at picks = AllByRecursion (λ (pick : Pick). pick.dist ≡ distance at pick.point) picks

-- there are fewer than so many picks, or one of them is farther than so far
abbrev pub GoesBeyond : ℕ → ℕ → List Pick → Type 0
GoesBeyond count radius picks = (length picks < count) ⊎ ((pick : Pick) × Contains picks pick × (radius < pick.dist))

-- the picks of all of some lists
abbrev pub picks_of : List (Vec Pick Global) → List Pick
picks_of lists = flat_map (λ (list : Vec Pick Global). list.items) lists
