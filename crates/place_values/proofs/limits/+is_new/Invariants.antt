use Rattle.std.proofs.Common.{length}
use Rattle.place_values.proofs.limits.+is_new.Given as goal

abbrev pub decreases-is_new : goal.decreases-is_new
decreases-is_new l = length l.others.now
