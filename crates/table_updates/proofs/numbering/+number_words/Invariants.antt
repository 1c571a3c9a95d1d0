use Rattle.std.proofs.Common.{length}
use Rattle.table_updates.proofs.numbering.+number_words.Given as goal

abbrev pub decreases-number_words : goal.decreases-number_words
decreases-number_words g l = length l.words.now
