-- A place that serves all of some words.
use Rattle.std.specs.Prelude.{◌≡◌, ℕ, ◌<◌, Bool, true, false, if◌then◌else◌, List, [], ◌∷◌, map, Option, Some, None}
use Rattle.std.specs.List.{Contains}
use Rattle.std.specs.Ordering.{nat_cmp, is_lt, ordering_then}
use Rattle.spatial_base.specs.Key.{key_cmp}
use Rattle.spatial_base.specs.Point.{Viewpoint, distance}
use Rattle.place_values.specs.declared.hit.Hit.{Hit}
use Rattle.place_values.specs.declared.query.Pick.{Pick}
use Rattle.place_values.specs.declared.query.Chosen.{Chosen}
use Rattle.group_search.specs.Choices.{IsChoice}
use Rattle.collective_query.specs.TreePicks.{pick_from}
use Rattle.group_sum.specs.Splits.{is_one_place, comes_first}

-- In each list a key stands once: two of its picks that have one key are the same.
abbrev pub AreNamed : List (List Pick) → Type 0
AreNamed lists = (list : List Pick) (x y : Pick) → Contains lists list → Contains list x → Contains list y → x.key ≡ y.key → x ≡ y

-- a place as the pick for each of some words
abbrev pub shared_picks : Viewpoint → List (List ℕ) → Hit → List Pick
shared_picks at words hit = map (λ word. pick_from at word hit) words

-- the same where there is a place
abbrev pub shared_in : Viewpoint → List (List ℕ) → Option Hit → List Pick
shared_in at words None = []
shared_in at words (Some hit) = shared_picks at words hit

-- the place of a pick comes before the place of a hit, by distance and then by key
abbrev pub is_nearer : Viewpoint → Pick → Hit → Bool
is_nearer at pick hit = is_lt (ordering_then (nat_cmp pick.dist (distance at hit.point)) (key_cmp pick.key hit.key))

-- farther than the limit, if there is one
abbrev pub IsBeyond : Option ℕ → ℕ → Type 0
IsBeyond None dist = ⊥
IsBeyond (Some limit) dist = limit < dist

-- The nearest place that has a pick in each list: none comes before it. Or no place, if none is at most as far as the limit.
abbrev pub IsNearestShared : Viewpoint → List (List ℕ) → List (List Pick) → Option ℕ → Option Hit → Type 0
IsNearestShared at words lists limit None =
    (pick : Pick) (others : List Pick) → IsChoice lists (pick ∷ others) → is_one_place (pick ∷ others) ≡ true → IsBeyond limit pick.dist
IsNearestShared at words lists limit (Some hit) =
    IsChoice lists (shared_picks at words hit)
    × ((pick : Pick) (others : List Pick) → IsChoice lists (pick ∷ others) → is_one_place (pick ∷ others) ≡ true → is_nearer at pick hit ≡ false)

-- what the choice costs that a place has to beat
abbrev pub limit_of : Option Chosen → Option ℕ
limit_of None = None
limit_of (Some best) = Some best.cost

-- the choice of one place for all of some words
abbrev pub shared_choice : Viewpoint → List (List ℕ) → Hit → Chosen
shared_choice at words hit = record { cost = distance at hit.point; picks = shared_picks at words hit }

-- the better of what the splits of a set join to and the choice of one place
abbrev pub better_of : Viewpoint → List (List ℕ) → Option Chosen → Option Hit → Option Chosen
better_of at words split None = split
better_of at words None (Some hit) = Some (shared_choice at words hit)
better_of at words (Some best) (Some hit) = if comes_first (shared_choice at words hit) best then Some (shared_choice at words hit) else Some best
