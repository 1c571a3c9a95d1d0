use Rattle.std.proofs.Common.{length}
use Rattle.term_impacts.proofs.words.+impact_among.Given as goal

abbrev pub decreases-impact_among : goal.decreases-impact_among
decreases-impact_among l = length l.pairs.now
