use Rattle.std.proofs.Common.{length}
use Rattle.place_values.proofs.limits.+are_distinct_weighted.Given as goal

abbrev pub decreases-are_distinct_weighted : goal.decreases-are_distinct_weighted
decreases-are_distinct_weighted l = length l.words.now
