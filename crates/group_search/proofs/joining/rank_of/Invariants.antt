use Rattle.std.proofs.Common.{◌≤◌, ◌-◌, length}
use Rattle.group_search.proofs.joining.rank_of.Given as goal

abbrev pub invariant-loop-at : goal.invariant-loop-at
invariant-loop-at l = l.at ≤ length l.lists

abbrev pub decreases-loop-at : goal.decreases-loop-at
decreases-loop-at l = length l.lists - l.at
