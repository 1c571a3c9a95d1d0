use Rattle.std.proofs.Common.{◌≡◌, ◌<◌, ◌+◌, ◌-◌, ◌*◌, ◌^◌, ◌∙◌, min, take, length, get_or, arith}
use Rattle.std.specs.Str.Parse.{digits_value_after}
use Rattle.number_grammar.specs.Number.{IsDigit}
use Rattle.fixed_coords.proofs.Scanning.{AreDigits-at, capped_more}
use Rattle.fixed_coords.proofs.size.append.Goals as goal

pub overflow_sub-digit : goal.overflow_sub-digit
overflow_sub-digit c = (AreDigits-at c.args.digits.now c.loop-digit.digit-index c.requires.digits (omega arith)).0

-- one digit more is counted
pub loop-digit-preserved : goal.loop-digit-preserved
loop-digit-preserved c =
    let is : IsDigit (get_or c.args.digits.now c.loop-digit.digit-index 0) = AreDigits-at c.args.digits.now c.loop-digit.digit-index c.requires.digits (omega arith) in
    let below : c.loop-digit.digit-index < length c.args.digits.now = omega arith in
    let counted : min (c.loop-digit.size * 10 + (get_or c.args.digits.now c.loop-digit.digit-index 0 - 48)) (10 ^ 12 + 1) ≡ min (digits_value_after 10 c.args.front (take (c.loop-digit.digit-index + 1) c.args.digits.now)) (10 ^ 12 + 1) =
    rw c.loop-digit.invariant (capped_more (10 ^ 12 + 1) c.args.front c.loop-digit.digit-index c.args.digits.now below is) in
    c.min-size.ensures ∙ counted
