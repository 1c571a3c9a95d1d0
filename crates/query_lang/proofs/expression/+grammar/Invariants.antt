use Rattle.std.proofs.Common.{◌+◌, ◌*◌}
use Rattle.query_lang.proofs.expression.+grammar.Given as goal

abbrev pub decreases-factor_at : goal.decreases-factor_at
decreases-factor_at l = 1000 * l.levels

abbrev pub decreases-factor : goal.decreases-factor
decreases-factor l = 1000 * l.levels + 1

abbrev pub decreases-denied : goal.decreases-denied
decreases-denied l = 1000 * l.levels + 2

abbrev pub decreases-more_factors : goal.decreases-more_factors
decreases-more_factors l = 1000 * l.levels + 2 * l.left + 2

abbrev pub decreases-joined_factor : goal.decreases-joined_factor
decreases-joined_factor l = 1000 * l.levels + 2 * l.left + 3

abbrev pub decreases-conjunction : goal.decreases-conjunction
decreases-conjunction l = 1000 * l.levels + 300

abbrev pub decreases-more_conjunctions : goal.decreases-more_conjunctions
decreases-more_conjunctions l = 1000 * l.levels + 2 * l.left + 302

abbrev pub decreases-joined_conjunction : goal.decreases-joined_conjunction
decreases-joined_conjunction l = 1000 * l.levels + 2 * l.left + 303

abbrev pub decreases-expression : goal.decreases-expression
decreases-expression l = 1000 * l.levels + 500

abbrev pub decreases-enclosed : goal.decreases-enclosed
decreases-enclosed l = 1000 * l.levels + 501
