use Rattle.std.proofs.Common.{◌≡◌, ◌*◌, ◌≤◌, take}
use Rattle.place_values.specs.Sum.{sum_cost}
use Rattle.place_values.proofs.choice.sum_of_choice.Given as goal

abbrev pub invariant-loop-i : goal.invariant-loop-i
invariant-loop-i l = record {
  sum : l.sum ≡ sum_cost (take l.i l.picks);
  most : l.sum ≤ 2545584412 * l.i;
}
