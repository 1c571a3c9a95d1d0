use Rattle.std.proofs.Common.{◌-◌, ◌*◌, ◌^◌, ◌≤◌}
use Rattle.spatial_base.proofs.distance.raised.Given as goal

abbrev pub invariant-loop-root : goal.invariant-loop-root
invariant-loop-root l = l.root * l.root ≤ l.n

abbrev pub decreases-loop-root : goal.decreases-loop-root
decreases-loop-root l = 2 ^ 32 - l.root
