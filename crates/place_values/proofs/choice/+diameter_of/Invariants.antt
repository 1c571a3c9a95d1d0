use Rattle.std.proofs.Common.{length}
use Rattle.place_values.proofs.choice.+diameter_of.Given as goal

abbrev pub decreases-diameter_of : goal.decreases-diameter_of
decreases-diameter_of l = length l.picks.now
