use Rattle.std.proofs.Common.{◌+◌, ◌*◌}
use Rattle.query_lang.proofs.word.+words.Given as goal

abbrev pub decreases-more_words : goal.decreases-more_words
decreases-more_words l = 2 * l.left

abbrev pub decreases-next_word : goal.decreases-next_word
decreases-next_word l = 2 * l.left + 1
