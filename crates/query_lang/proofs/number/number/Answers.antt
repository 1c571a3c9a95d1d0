use Rattle.std.proofs.Common.{sym, ◌∙◌, arith}
use Rattle.query_lang.proofs.Numbers.{number_of-long, number_of-other, number_of-parsed}
use Rattle.query_lang.proofs.number.number.Goals as goal

pub returns-then-bytes-gt-DIGITS_MAX : goal.returns-then-bytes-gt-DIGITS_MAX
returns-then-bytes-gt-DIGITS_MAX c = sym (number_of-long c.args.bytes.now (omega arith))

pub returns-in_err-digits : goal.returns-in_err-digits
returns-in_err-digits c = c.from_residual.ensures ∙ sym (number_of-other c.args.bytes.now (sym c.in_err-digits.ensures.test))

pub returns : goal.returns
returns c =
    let text = c.in_ok-digits.ensures.text in
    c.ok.ensures.value
    ∙ number_of-parsed c.args.bytes.now c.parse.result (omega arith) (sym c.in_ok-digits.ensures.test) (rw text at c.parse.ensures.value.0)
