-- Choices that take one pick of one of the lists: the lead pick.
use Rattle.std.specs.Prelude.{◌≡◌, ℕ, zero, suc, ◌<◌, ◌+◌, ◌≤◌, max, false, List, [], ◌∷◌, Vec, Option, Some, None, length, get_or, map}
use Rattle.std.specs.List.{AllByRecursion, Contains}
use Rattle.std.specs.Ordering.{is_lt}
use Rattle.std.specs.declared.alloc.Global.{Global}
use Rattle.spatial_base.specs.Point.{Viewpoint, seen_from, distance}
use Rattle.place_values.specs.declared.query.Pick.{Pick}
use Rattle.place_values.specs.declared.query.Chosen.{Chosen}
use Rattle.place_values.specs.Group.{pick_cmp, choice_cost, is_cheaper}
use Rattle.place_values.specs.Search.{lists_in}
use Rattle.group_search.specs.declared.bounding.Lead.{Lead}
use Rattle.group_search.specs.Choices.{IsChoice, AreCut}
use Rattle.group_search.specs.Tried.{IsChosen, IsFirst}
use Rattle.group_search.specs.Picks.{picks_of}

-- the lists, of which the one at a position has the lead pick alone
abbrev pub led_by : {X : Type 0} → ℕ → X → List (List X) → List (List X)
led_by at x [] = []
led_by zero x (list ∷ lists) = (x ∷ []) ∷ lists
led_by (suc at) x (list ∷ lists) = list ∷ led_by at x lists

-- they are picks of the list at a position
pub record AreLeads (lists : List (List Pick)) (at : ℕ) (leads : List Pick) : Type 0 where
  pub inside : at < length lists
  pub among : AllByRecursion (Contains (get_or lists at [])) leads

-- a pick is at the point of another, and doesn't come before it
abbrev pub IsBehind : Pick → Pick → Type 0
IsBehind pick other = (pick.point ≡ other.point) × (is_lt (pick_cmp pick other) ≡ false)

-- A pick in a cut round a lead place: a choice with both may cost at most so much, by the distance to the point of either and that between them.
abbrev pub IsBeside : Viewpoint → Pick → ℕ → Pick → Type 0
IsBeside from anchor most pick = (distance from pick.point ≤ most) × (distance from anchor.point + distance (seen_from anchor.point from.scale) pick.point ≤ most)

-- so it is where a cost is given; where none is, no pick has to be there
abbrev pub IsWanted : Viewpoint → Pick → Option ℕ → Pick → Type 0
IsWanted from anchor None pick = ⊥
IsWanted from anchor (Some most) pick = IsBeside from anchor most pick

-- a choice with a lead pick and this one may cost at most so much, by the distance to the farther of the two and that between them
abbrev pub IsPaired : Viewpoint → Pick → ℕ → Pick → Type 0
IsPaired from anchor most pick = max (distance from anchor.point) (distance from pick.point) + distance (seen_from anchor.point from.scale) pick.point ≤ most

-- the lists cut to what counts; or nothing, and then in no choice of the lists each pick counts
abbrev pub AreGathered : (Pick → Type 0) → List (List Pick) → Option (Vec (Vec Pick Global) Global) → Type 0
AreGathered counts lists None = (choice : List Pick) → IsChoice lists choice → AllByRecursion counts choice → ⊥
AreGathered counts lists (Some cuts) = AreCut counts lists (lists_in cuts.items)

-- no choice that takes the lead pick costs less
abbrev pub IsBound : Viewpoint → List (List Pick) → ℕ → ℕ → Pick → Type 0
IsBound from lists at cost anchor = (choice : List Pick) → IsChoice (led_by at anchor lists) choice → cost ≤ choice_cost from choice

-- so it is with each of some leads
abbrev pub AreBounds : Viewpoint → List (List Pick) → ℕ → List Lead → Type 0
AreBounds from lists at leads = AllByRecursion (λ (lead : Lead). IsBound from lists at lead.least lead.pick) leads

-- the picks of some leads
abbrev pub lead_picks : List Lead → List Pick
lead_picks leads = map (λ (lead : Lead). lead.pick) leads

-- of each list, where there are some
abbrev pub OfEach : (List Pick → Type 0) → Option (Vec (Vec Pick Global) Global) → Type 0
OfEach P None = Unit {0}
OfEach P (Some lists) = AllByRecursion (λ (list : Vec Pick Global). P list.items) lists.items

-- the picks of all lists, where there are some
abbrev pub gathered_picks : Option (Vec (Vec Pick Global) Global) → List Pick
gathered_picks None = []
gathered_picks (Some lists) = picks_of lists.items

-- The best choice after more were tried: it is one of the lists, the best choice until then doesn't come before it, nor does a choice of the
-- other lists all of whose picks count.
pub record Betters (from : Viewpoint) (lists : List (List Pick)) (counts : Pick → Type 0) (others : List (List Pick)) (old new : Chosen) : Type 0 where
  pub chosen : IsChosen from lists new
  pub after : is_cheaper from old.picks new.picks ≡ false
  pub first : (choice : List Pick) → IsChoice others choice → AllByRecursion counts choice → is_cheaper from choice new.picks ≡ false

-- The best choice after some lead picks were followed: no choice of the lists that takes one of these comes before it, and the best choice
-- until then doesn't either.
pub record Follows (from : Viewpoint) (lists : List (List Pick)) (at : ℕ) (leads : List Pick) (old new : Chosen) : Type 0 where
  pub chosen : IsChosen from lists new
  pub after : is_cheaper from old.picks new.picks ≡ false
  pub first : AllByRecursion (λ anchor. IsFirst from (led_by at anchor lists) new) leads
