use Rattle.std.proofs.Common.{◌≡◌, ◌≤◌, ◌/◌, ◌^◌, ◌∙◌, sym, subst, Ok, length, arith, ℕ, List}
use Rattle.std.specs.Prelude.{decimal}
use mir.Syntax.{w64}
use mir.Val.{to_z, of_z}
use Rattle.std.proofs.lemmas.Int.{ints}
use Rattle.std.proofs.lemmas.Fmt.{length-decimal-le}
use Rattle.fixed_coords.specs.Fixed.{IsReading}
use Rattle.fixed_coords.proofs.Writing.{IsReading-fixed_text, length-last_digits, fixed_text-joined, drop_later}
use Rattle.fixed_coords.proofs.write.write_fixed.Goals as goal

pub put-requires : goal.put-requires
put-requires c =
    let size = c.unsigned_abs-size.ensures.bound in
    let written : c.as_bytes.result.now ≡ decimal (c.unsigned_abs-size.result / 10 ^ 7) = c.as_bytes.ensures.value ∙ c.format.ensures.text in
    let short : length c.as_bytes.result.now ≤ 12 = rw written (length-decimal-le 12 (c.unsigned_abs-size.result / 10 ^ 7) (omega arith) (omega arith) (omega arith)) in
    let seven : length c.seven_digits.result ≡ 7 = rw c.seven_digits.ensures (length-last_digits 7 c.unsigned_abs-size.result) in
    omega arith

pub returns-clause-text : goal.returns-clause-text
returns-clause-text c =
    let written : c.as_bytes.result.now ≡ decimal (c.unsigned_abs-size.result / 10 ^ 7) = c.as_bytes.ensures.value ∙ c.format.ensures.text in
    let whole : to_z w64 (of_z w64 c.args.value) ≡ c.args.value = omega (arith, ints) in
    c.put.ensures.text ∙ rw (c.put-fraction.ensures.text, c.put-point.ensures.text, c.put_sign-start.ensures.text, c.seven_digits.ensures, written, c.unsigned_abs-size.ensures.value, whole) (fixed_text-joined c.args.value)

pub returns-clause-rest : goal.returns-clause-rest
returns-clause-rest c =
    c.put.ensures.rest
    ∙ drop_later c.put-fraction.result c.put.result _ _ (omega arith) c.put-fraction.ensures.rest
    ∙ drop_later c.put-point.result c.put.result _ _ (omega arith) c.put-point.ensures.rest
    ∙ drop_later c.put_sign-start.result c.put.result _ _ (omega arith) c.put_sign-start.ensures.rest

pub returns-clause-read_again : goal.returns-clause-read_again
returns-clause-read_again c = λ small. let P : List ℕ → Type 0 = λ text. IsReading text (Ok c.args.value) in subst P (sym (returns-clause-text c)) (IsReading-fixed_text c.args.value small)
