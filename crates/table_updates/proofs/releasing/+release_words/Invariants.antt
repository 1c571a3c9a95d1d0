use Rattle.std.proofs.Common.{length}
use Rattle.table_updates.proofs.releasing.+release_words.Given as goal

abbrev pub decreases-release_words : goal.decreases-release_words
decreases-release_words g l = length l.old.now
