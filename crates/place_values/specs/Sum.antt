-- The choice of a place for each word that costs least in all, where each place is paid for once, however many words it serves: the
-- collective spatial keyword query of Cao, Cong, Jensen and Ooi 2011, in the type whose cost is the sum of the distances (their type 1).
use Rattle.std.specs.Prelude.{ℕ, not, Bool, List, [], ◌∷◌, Option, sum_by}
use Rattle.std.specs.List.{filter}
use Rattle.std.specs.Ordering.{is_eq}
use Rattle.spatial_base.specs.Key.{key_cmp}
use Rattle.spatial_base.specs.Point.{Viewpoint}
use Rattle.place_values.specs.declared.query.Pick.{Pick}
use Rattle.place_values.specs.declared.query.Chosen.{Chosen}
use Rattle.place_values.specs.Group.{choices, least_by}
use Rattle.place_values.specs.State.{Places}

-- two picks are of one place
abbrev pub is_same_place : Pick → Pick → Bool
is_same_place pick other = is_eq (key_cmp pick.key other.key)

-- one pick of each place: the first one
abbrev pub distinct_picks : List Pick → List Pick
distinct_picks [] = []
distinct_picks (pick ∷ others) = pick ∷ filter (λ other. not (is_same_place pick other)) (distinct_picks others)

-- what a choice costs in all: the sum of the distances to its places
abbrev pub sum_cost : List Pick → ℕ
sum_cost picks = sum_by (λ (pick : Pick). pick.dist) (distinct_picks picks)

-- the answer to a gather query: the choice of least sum
abbrev pub gathered_of : Places → Viewpoint → List (List ℕ) → Option Chosen
gathered_of places at words = least_by sum_cost (choices places at words)
