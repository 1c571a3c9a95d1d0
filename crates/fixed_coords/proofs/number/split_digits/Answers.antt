use Rattle.std.proofs.Common.{◌∙◌}
use Rattle.fixed_coords.proofs.Scanning.{take-digits, drop-digits}
use Rattle.fixed_coords.proofs.number.split_digits.Goals as goal

-- the count ends where the first digits end
pub returns-clause-digits : goal.returns-clause-digits
returns-clause-digits c = c.split_at.ensures.front ∙ rw (c.digit_count.ensures) (take-digits c.args.text.now)

pub returns-clause-rest : goal.returns-clause-rest
returns-clause-rest c = c.split_at.ensures.back ∙ rw (c.digit_count.ensures) (drop-digits c.args.text.now)
