use Rattle.std.proofs.Common.{◌≡◌, ◌≤◌, take}
use Rattle.place_values.specs.Group.{farthest}
use Rattle.place_values.proofs.choice.farthest_of.Given as goal

abbrev pub invariant-loop-pick : goal.invariant-loop-pick
invariant-loop-pick l = record {
  value : l.most ≡ farthest l.from (take l.pick-index l.picks);
  far : l.most ≤ 2545584412;
}
