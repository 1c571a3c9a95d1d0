use Rattle.std.proofs.Common.{◌≡◌, ◌*◌, ◌≤◌, take}
use Rattle.place_values.specs.Top.{weight_sum}
use Rattle.place_values.proofs.top.sum_of_weights.Given as goal

abbrev pub invariant-loop-weight : goal.invariant-loop-weight
invariant-loop-weight l = record {
  sum : l.sum ≡ weight_sum (take l.weight-index l.words);
  most : l.sum ≤ 20 * l.weight-index;
}
