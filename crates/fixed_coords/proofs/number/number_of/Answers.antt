use Rattle.std.proofs.Common.{◌≡◌, ◌∙◌, ap, rules, false, drop}
use Rattle.std.specs.Prelude.{IsTrue}
use Rattle.number_grammar.specs.Number.{IsInt}
use Rattle.number_grammar.specs.Cut.{first_digits, after_digits, after_minus, first_frac, after_frac, cut}
use Rattle.number_grammar.proofs.Cuts.{AreDigits-first_digits, made_of_cut}
use Rattle.fixed_coords.proofs.Scanning.{IsInt-cut, IsFrac-cut, IsExp-cut, none_holds}
use Rattle.fixed_coords.proofs.number.number_of.Goals as goal

pub is_whole-requires : goal.is_whole-requires
is_whole-requires c = rw (c.split_digits.ensures.digits) (AreDigits-first_digits c.split_minus-negative.result.1.now)

-- the digits are no integer
pub returns-then-not-is_whole-clause-none : goal.returns-then-not-is_whole-clause-none
returns-then-not-is_whole-clause-none c = λ number.
    let digits : c.split_digits.result.0.now ≡ first_digits (after_minus c.args.text.now) = c.split_digits.ensures.digits ∙ ap first_digits c.split_minus-negative.ensures.rest in
    let is_int : IsInt c.split_digits.result.0.now = rw digits (IsInt-cut c.args.text.now number) in
    let told : IsTrue false = c.if-not-is_whole.ensures.1 is_int in
    cc

-- no digit follows the point
pub returns-in_err-fraction-clause-none : goal.returns-in_err-fraction-clause-none
returns-in_err-fraction-clause-none c = none_holds c.from_residual.result (λ number.
    let rest : c.split_digits.result.1.now ≡ after_digits (after_minus c.args.text.now) = c.split_digits.ensures.rest ∙ ap after_digits c.split_minus-negative.ensures.rest in
    c.in_err-fraction.ensures.none (rw rest (IsFrac-cut c.args.text.now number)))

-- what follows is no exponent
pub returns-in_err-exponent-clause-none : goal.returns-in_err-exponent-clause-none
returns-in_err-exponent-clause-none c = none_holds c.from_residual-in_err-exponent.result (λ number.
    let rest : c.split_digits.result.1.now ≡ after_digits (after_minus c.args.text.now) = c.split_digits.ensures.rest ∙ ap after_digits c.split_minus-negative.ensures.rest in
    let exp : c.in_ok-fraction.rest.now ≡ after_frac (after_digits (after_minus c.args.text.now)) = c.in_ok-fraction.ensures.rest ∙ ap after_frac rest in
    c.in_err-exponent.ensures.none (rw exp (IsExp-cut c.args.text.now number)))

pub returns-clause-some : goal.returns-clause-some
returns-clause-some c =
    let digits : c.split_digits.result.0.now ≡ first_digits (after_minus c.args.text.now) = c.split_digits.ensures.digits ∙ ap first_digits c.split_minus-negative.ensures.rest in
    let rest : c.split_digits.result.1.now ≡ after_digits (after_minus c.args.text.now) = c.split_digits.ensures.rest ∙ ap after_digits c.split_minus-negative.ensures.rest in
    let exp : c.in_ok-fraction.rest.now ≡ after_frac (after_digits (after_minus c.args.text.now)) = c.in_ok-fraction.ensures.rest ∙ ap after_frac rest in
    let is_int : IsInt c.split_digits.result.0.now = c.if-not-is_whole.ensures.0 (search rules) in (
      cut c.args.text.now,
      made_of_cut c.args.text.now (rw digits at is_int) (rw rest at c.in_ok-fraction.ensures.frac) (rw exp at c.in_ok-exponent.ensures.exp),
      record {
        minus = c.split_minus-negative.ensures.minus;
        int = digits;
        frac = c.in_ok-fraction.ensures.digits ∙ ap (λ xs. drop 1 (first_frac xs)) rest;
        exp = rw exp at c.in_ok-exponent.ensures.value;
      },
    )
