use Rattle.std.proofs.Common.{length}
use Rattle.table_updates.proofs.gathering.+count_words.Given as goal

abbrev pub decreases-count_words : goal.decreases-count_words
decreases-count_words l = length l.words.now
