use Rattle.std.proofs.Common.{◌≤◌, List, IfSome, take}
use Rattle.std.specs.List.{Contains}
use Rattle.place_values.specs.declared.query.Pick.{Pick}
use Rattle.group_search.specs.Blocks.{IsBelowPairs}
use Rattle.group_search.proofs.bounding.better_among.Given as goal

-- it is the better of those so far
abbrev pub invariant-loop-pick : goal.invariant-loop-pick
invariant-loop-pick l = record {
  below : IsBelowPairs l.at.scale l.best.cost l.anchor (take l.pick-index l.picks);
  less : l.best.cost ≤ l.fn.known.cost;
  among : (all : List Pick) → IfSome l.fn.known.pick (Contains all) → ((pick : Pick) → Contains l.picks pick → Contains all pick) → IfSome l.best.pick (Contains all);
}
