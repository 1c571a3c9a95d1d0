use Rattle.std.proofs.Common.{◌+◌, ◌≤◌, max, take}
use Rattle.std.specs.List.{AllByRecursion}
use Rattle.spatial_base.specs.Point.{seen_from}
use Rattle.place_values.specs.declared.query.Pick.{Pick}
use Rattle.place_values.specs.Group.{farthest}
use Rattle.group_search.proofs.costing.one_goes_on.Given as goal

-- none so far goes on for less
abbrev pub invariant-loop-pick : goal.invariant-loop-pick
invariant-loop-pick l = AllByRecursion (λ (pick : Pick). l.bound ≤ max l.far pick.dist + max l.wide (farthest (seen_from pick.point l.at.scale) l.front)) (take l.pick-index l.list)
