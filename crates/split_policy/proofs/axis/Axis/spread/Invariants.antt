use Rattle.std.proofs.Common.{◌≡◌, ◌≤◌}
use Rattle.std.specs.Prelude.{unsigned_abs}
use Rattle.split_policy.specs.Halving.{sum_at, greatest, least}
use Rattle.split_policy.proofs.axis.Axis.spread.Given as goal

abbrev pub invariant-loop-i : goal.invariant-loop-i
invariant-loop-i l = record {
  greatest : l.greatest ≡ greatest l.i (sum_at l.rects l.self);
  least : l.least ≡ least l.i (sum_at l.rects l.self);
  greatest_within : unsigned_abs l.greatest ≤ 3600000000;
  least_within : unsigned_abs l.least ≤ 3600000000;
}
