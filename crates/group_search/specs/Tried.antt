-- The best choice so far.
use Rattle.std.specs.Prelude.{◌≡◌, false, List, [], Option, Some, None, Vec}
use Rattle.std.specs.List.{Contains}
use Rattle.std.specs.declared.alloc.Global.{Global}
use Rattle.spatial_base.specs.Point.{Viewpoint}
use Rattle.place_values.specs.declared.query.Pick.{Pick}
use Rattle.place_values.specs.declared.query.Chosen.{Chosen}
use Rattle.place_values.specs.Group.{choice_cost, is_cheaper}
use Rattle.group_search.specs.Choices.{IsChoice}

-- a choice of the lists, or nothing where one of them is empty
abbrev pub IsTaken : List (List Pick) → Option (Vec Pick Global) → Type 0
IsTaken lists None = Contains lists []
IsTaken lists (Some picks) = IsChoice lists picks.items

-- a choice of the lists, with its cost
pub record IsChosen (at : Viewpoint) (lists : List (List Pick)) (best : Chosen) : Type 0 where
  pub choice : IsChoice lists best.picks
  pub cost : best.cost ≡ choice_cost at best.picks

-- no choice of the lists comes before it
abbrev pub IsFirst : Viewpoint → List (List Pick) → Chosen → Type 0
IsFirst at lists best = (choice : List Pick) → IsChoice lists choice → is_cheaper at choice best.picks ≡ false

-- the best choice after more were tried: it is one of the lists, and the best choice until then doesn't come before it
pub record IsBetter (at : Viewpoint) (lists : List (List Pick)) (old new : Chosen) : Type 0 where
  pub chosen : IsChosen at lists new
  pub after : is_cheaper at old.picks new.picks ≡ false

-- the best choice after all were tried: it is one of the lists, and neither the best choice until then nor any of the lists comes before it
pub record IsBest (at : Viewpoint) (lists : List (List Pick)) (old new : Chosen) : Type 0 where
  pub chosen : IsChosen at lists new
  pub after : is_cheaper at old.picks new.picks ≡ false
  pub first : IsFirst at lists new

-- the least choice of the lists, or nothing where one of them is empty
abbrev pub IsLeast : Viewpoint → List (List Pick) → Option Chosen → Type 0
IsLeast at lists None = Contains lists []
IsLeast at lists (Some best) = IsChosen at lists best × IsFirst at lists best
