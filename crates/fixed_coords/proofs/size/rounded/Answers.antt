use Rattle.std.proofs.Common.{◌≡◌, ◌<◌, ◌≤◌, ◌+◌, ◌-◌, ◌^◌, ◌++◌, ◌∙◌, min, take, drop, length, arith}
use Rattle.std.proofs.lemmas.Bool.Decides.{nat_tests}
use Rattle.std.proofs.lemmas.List.{drop_min}
use Rattle.std.specs.Str.Parse.{digits_value}
use Rattle.fixed_coords.specs.Placed.{round_up}
use Rattle.fixed_coords.proofs.Scaling.{AreDigits-take}
use Rattle.fixed_coords.proofs.Rounding.{SomeIff-same, Same-behind, Same-among, front_value, round_up-parts}
use Rattle.fixed_coords.proofs.size.rounded.Goals as goal
use Rattle.fixed_coords.proofs.size.rounded.Goals.{then-is_empty, else-is_empty}

pub append-requires-clause-digits : goal.append-requires-clause-digits
append-requires-clause-digits c = rw c.split_at.ensures.front (AreDigits-take c.min.result c.args.whole.now c.requires.whole)

pub append-size-requires-clause-digits : goal.append-size-requires-clause-digits
append-size-requires-clause-digits c = rw c.split_at-2.ensures.front (AreDigits-take c.min-2.result c.args.fraction.now c.requires.fraction)

pub returns-then-point-fraction : goal.returns-then-point-fraction
returns-then-point-fraction c =
    let counted : c.append-size.result ≡ min (digits_value 10 (take c.args.point (c.args.whole.now ++ c.args.fraction.now))) (10 ^ 12 + 1) =
    c.append-size.ensures ∙ rw (c.split_at-2.ensures.front, c.min-2.ensures, c.saturating_sub-point.ensures, c.append.ensures, c.split_at.ensures.front, c.min.ensures)
    (front_value c.args.whole.now c.args.fraction.now c.args.point) in
    let behind : length c.args.fraction.now < c.args.point - length c.args.whole.now = rw (← c.saturating_sub-point.ensures) c.if-point-fraction.true in
    SomeIff-same c.shifted.result _ _
    (Same-behind c.args.whole.now c.args.fraction.now c.args.point c.append-size.result counted behind)
    (rw c.saturating_sub-point.ensures at c.shifted.ensures)

pub returns : goal.returns
returns c =
    let counted : c.append-size.result ≡ min (digits_value 10 (take c.args.point (c.args.whole.now ++ c.args.fraction.now))) (10 ^ 12 + 1) =
    c.append-size.ensures ∙ rw (c.split_at-2.ensures.front, c.min-2.ensures, c.saturating_sub-point.ensures, c.append.ensures, c.split_at.ensures.front, c.min.ensures)
    (front_value c.args.whole.now c.args.fraction.now c.args.point) in
    let among : c.args.point - length c.args.whole.now ≤ length c.args.fraction.now = rw (← c.saturating_sub-point.ensures) c.if-point-fraction.false in
    let back : c.split_at.result.1.now ≡ drop c.args.point c.args.whole.now = c.split_at.ensures.back ∙ rw c.min.ensures (drop_min c.args.point c.args.whole.now) in
    let rest : c.split_at-2.result.1.now ≡ drop (c.args.point - length c.args.whole.now) c.args.fraction.now = c.split_at-2.ensures.back ∙ rw (c.min-2.ensures, c.saturating_sub-point.ensures) (drop_min (c.args.point - length c.args.whole.now) c.args.fraction.now) in
    let cut : round_up (c.split_at.result.1.now ++ c.split_at-2.result.1.now) ≡ round_up c.if-is_empty.round_up.now = elim c.if-is_empty.branch [
      | then-is_empty w ↦ let none : length c.split_at.result.1.now ≡ 0 = grind (arith, nat_tests) in rw w.round_up-is ((round_up-parts c.split_at.result.1.now c.split_at-2.result.1.now).1 none)
      | else-is_empty w ↦ let some : 0 < length c.split_at.result.1.now = grind (arith, nat_tests) in rw w.round_up-is ((round_up-parts c.split_at.result.1.now c.split_at-2.result.1.now).0 some)
    ] in
    SomeIff-same c.within.result _ _
    (Same-among c.args.whole.now c.args.fraction.now c.if-is_empty.round_up.now c.args.point c.append-size.result counted among (rw (back, rest) at cut))
    (rw c.round_up.ensures at c.within.ensures)
