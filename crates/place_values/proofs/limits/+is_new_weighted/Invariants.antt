use Rattle.std.proofs.Common.{length}
use Rattle.place_values.proofs.limits.+is_new_weighted.Given as goal

abbrev pub decreases-is_new_weighted : goal.decreases-is_new_weighted
decreases-is_new_weighted l = length l.others.now
