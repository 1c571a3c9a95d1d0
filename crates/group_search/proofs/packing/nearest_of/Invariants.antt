use Rattle.std.proofs.Common.{◌≤◌, take}
use Rattle.std.specs.List.{AllByRecursion}
use Rattle.place_values.specs.declared.query.Pick.{Pick}
use Rattle.group_search.proofs.packing.nearest_of.Given as goal

-- none so far is nearer
abbrev pub invariant-loop-pick : goal.invariant-loop-pick
invariant-loop-pick l = record {
  least : AllByRecursion (λ (pick : Pick). l.nearest ≤ pick.dist) (take l.pick-index l.picks);
  low : l.nearest ≤ l.first.dist;
}
