use Rattle.std.proofs.Common.{◌≡◌, ◌<◌, ◌∙◌, ap, rules, length, get_or, arith}
use Rattle.std.proofs.lemmas.List.{take_rest}
use Rattle.number_grammar.specs.Cut.{first_digits}
use Rattle.std.proofs.lemmas.Bool.Decides.{nat_tests}
use Rattle.fixed_coords.proofs.Scanning.{IsFrac-first_frac}
use Rattle.fixed_coords.proofs.number.split_fraction.Goals as goal

pub returns-else-is_empty-clause-frac : goal.returns-else-is_empty-clause-frac
returns-else-is_empty-clause-frac c =
    let point : get_or c.args.text.now 0 0 ≡ 46 = search rules in
    let some : 0 < length c.split_digits.result.0.now = grind (arith, nat_tests) in
    IsFrac-first_frac c.args.text.now c.split_digits.result.0.now c.in-46.len_at_least point (c.split_digits.ensures.digits ∙ ap first_digits (take_rest c.args.text.now 1)) some
