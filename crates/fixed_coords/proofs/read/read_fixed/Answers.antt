use Rattle.std.proofs.Common.{◌≡◌, ◌≤◌, ◌∙◌, ◌^◌, length, Some, None, arith}
use Rattle.std.proofs.lemmas.Int.{ints}
use mir.Syntax.{w64}
use mir.Val.{to_z, of_z}
use Rattle.std.specs.Option.{SomeIff}
use Rattle.number_grammar.specs.Number.{Parts, IsMadeOf}
use Rattle.fixed_coords.specs.Fixed.{size}
use Rattle.fixed_coords.proofs.Reading.{Same-read, fixed-read, above}
use Rattle.fixed_coords.proofs.Rounding.{SomeIff-same}
use Rattle.fixed_coords.proofs.read.read_fixed.Goals as goal

-- the size is too big
pub returns-in_default-size_of : goal.returns-in_default-size_of
returns-in_default-size_of c =
    let parts : Parts = c.in-Some.ensures.some.0 in
    let made : IsMadeOf c.args.spelling.now parts = rw c.as_bytes.ensures.value at c.in-Some.ensures.some.1 in
    let short : length c.args.spelling.now ≤ 64 = omega arith in
    let big : size parts ≤ 10 ^ 12 → ⊥ = SomeIff-same None _ _ (Same-read c.in-Some.number parts c.args.spelling.now made c.in-Some.ensures.some.2 short) c.in_default-size_of.ensures in
    (short, (parts, made, above (size parts) (10 ^ 12) big))

pub returns : goal.returns
returns c =
    let parts : Parts = c.in-Some.ensures.some.0 in
    let made : IsMadeOf c.args.spelling.now parts = rw c.as_bytes.ensures.value at c.in-Some.ensures.some.1 in
    let short : length c.args.spelling.now ≤ 64 = omega arith in
    let found : SomeIff (Some c.in-Some-size_of.size) (size parts ≤ 10 ^ 12) (size parts) = SomeIff-same (Some c.in-Some-size_of.size) _ _ (Same-read c.in-Some.number parts c.args.spelling.now made c.in-Some.ensures.some.2 short) c.in-Some-size_of.ensures in
    let whole : to_z w64 (of_z w64 c.signed.result) ≡ c.signed.result = omega (arith, ints) in
    (short, (parts, made, found.0, whole ∙ c.signed.ensures ∙ fixed-read c.in-Some.number.negative c.in-Some-size_of.size parts c.in-Some.ensures.some.2.minus found.1))
