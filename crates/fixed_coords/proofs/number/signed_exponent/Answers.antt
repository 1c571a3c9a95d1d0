use Rattle.std.proofs.Common.{◌≡◌, ◌<◌, ◌-◌, ◌*◌, ◌+◌, ◌∙◌, min, take, length, get_or, arith, true, false}
use Rattle.std.specs.Char.{is_ascii_digit}
use Rattle.std.specs.Str.Parse.{digits_value}
use Rattle.std.proofs.lemmas.Bool.Decides.{nat_tests}
use Rattle.number_grammar.specs.Number.{IsDigit}
use Rattle.number_grammar.proofs.Cuts.{AreDigits-IsDigits, is_digit}
use Rattle.fixed_coords.proofs.Scanning.{AreDigits-at, AreDigits-more, capped_more}
use Rattle.fixed_coords.proofs.number.signed_exponent.Goals as goal

-- a byte that is no digit stands among them
pub returns-then-not-is_ascii_digit-clause-none : goal.returns-then-not-is_ascii_digit-clause-none
returns-then-not-is_ascii_digit-clause-none c = λ are.
    let is : IsDigit (get_or c.args.digits.now c.loop-digit.digit-index 0) = AreDigits-at c.args.digits.now c.loop-digit.digit-index (AreDigits-IsDigits c.args.digits.now are) (omega arith) in
    let passes : is_ascii_digit (get_or c.args.digits.now c.loop-digit.digit-index 0) ≡ true = is_digit _ is in
    let fails : is_ascii_digit (get_or c.args.digits.now c.loop-digit.digit-index 0) ≡ false = cc in
    cc

pub loop-digit-preserved : goal.loop-digit-preserved
loop-digit-preserved c =
    let is : IsDigit (get_or c.args.digits.now c.loop-digit.digit-index 0) = grind (arith, nat_tests) in
    let below : c.loop-digit.digit-index < length c.args.digits.now = omega arith in
    let counted : min (c.loop-digit.size * 10 + (get_or c.args.digits.now c.loop-digit.digit-index 0 - 48)) 1000 ≡ min (digits_value 10 (take (c.loop-digit.digit-index + 1) c.args.digits.now)) 1000 = rw (c.loop-digit.invariant.1) (capped_more 1000 0 c.loop-digit.digit-index c.args.digits.now below is) in
    (AreDigits-more c.args.digits.now c.loop-digit.digit-index below (c.loop-digit.invariant.0) is, c.min-size.ensures ∙ counted)
