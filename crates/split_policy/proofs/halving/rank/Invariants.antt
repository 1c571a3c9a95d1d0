use Rattle.std.proofs.Common.{◌≡◌, ◌≤◌}
use Rattle.split_policy.specs.Halving.{rank_among, sum_at}
use Rattle.split_policy.proofs.halving.rank.Given as goal

abbrev pub invariant-loop-other : goal.invariant-loop-other
invariant-loop-other l = record {
  rank : l.rank ≡ rank_among l.other (sum_at l.rects l.axis) l.entry;
  within : l.rank ≤ l.other;
}
