use Rattle.std.proofs.Common.{◌≡◌, ◌<◌, ◌≤◌, length, get_or, false}
use Rattle.place_values.specs.Hit.{comes_before}
use Rattle.place_values.proofs.best.rank_of.Given as goal

abbrev pub invariant-loop-at : goal.invariant-loop-at
invariant-loop-at l = (l.at ≤ length l.best) × ((d : _) → l.at < length l.best → comes_before (get_or l.best l.at d) l.hit ≡ false)

abbrev pub decreases-loop-at : goal.decreases-loop-at
decreases-loop-at l = l.at
