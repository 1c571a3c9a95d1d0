use Rattle.split_policy.specs.Halving.{rank_among, sum_at}
use Rattle.split_policy.proofs.Ranks.{MovesBelow}
use Rattle.split_policy.proofs.halving.halving_split.Given as goal

abbrev pub invariant-loop-entry : goal.invariant-loop-entry
invariant-loop-entry l = MovesBelow l.entry (rank_among 33 (sum_at l.rects l.axis)) l.mask
