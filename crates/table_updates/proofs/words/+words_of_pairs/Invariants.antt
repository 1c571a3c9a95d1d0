use Rattle.std.proofs.Common.{length}
use Rattle.table_updates.proofs.words.+words_of_pairs.Given as goal

abbrev pub decreases-words_of_pairs : goal.decreases-words_of_pairs
decreases-words_of_pairs g l = length l.pairs.now
