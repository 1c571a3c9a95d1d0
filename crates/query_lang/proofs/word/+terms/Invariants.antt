use Rattle.std.proofs.Common.{◌+◌, ◌*◌}
use Rattle.query_lang.proofs.word.+terms.Given as goal

abbrev pub decreases-more_terms : goal.decreases-more_terms
decreases-more_terms l = 2 * l.left

abbrev pub decreases-next_term : goal.decreases-next_term
decreases-next_term l = 2 * l.left + 1
