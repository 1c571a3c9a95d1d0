use Rattle.std.proofs.Common.{take}
use Rattle.std.specs.List.{AllByRecursion}
use Rattle.spatial_base.specs.Rect.{Holds}
use Rattle.place_values.specs.declared.query.Pick.{Pick}
use Rattle.group_search.proofs.packing.bounds_of.Given as goal

-- it holds the picks so far
abbrev pub invariant-loop-pick : goal.invariant-loop-pick
invariant-loop-pick l = AllByRecursion (λ (pick : Pick). Holds l.bounds pick.point) (take l.pick-index l.picks)
