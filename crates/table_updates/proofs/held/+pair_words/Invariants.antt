use Rattle.std.proofs.Common.{length}
use Rattle.table_updates.proofs.held.+pair_words.Given as goal

abbrev pub decreases-pair_words : goal.decreases-pair_words
decreases-pair_words l = length l.words.now
