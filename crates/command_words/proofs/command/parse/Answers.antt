use Rattle.std.proofs.Common.{◌≡◌, ◌∙◌, ap, refl, true, List}
use Rattle.std.proofs.lemmas.Result.{IfOk-weaker}
use Rattle.clap.specs.Words.{App, Text, app_of, fault_of, is_simple, is_simple_and_free, matches_of}
use Rattle.command_words.specs.Command.{program, refusals, values_on}
use Rattle.command_words.proofs.Numbers.{numbers_pass}
use Rattle.command_words.proofs.Refusals.{refused_for_some, taken_for_none}
use Rattle.command_words.proofs.command.parse.Goals as goal

is_exact : is_simple_and_free program ≡ true
is_exact = refl

is_plain : is_simple program ≡ true
is_plain = refl

refusals_are : (a : App) (line : List Text) → a ≡ program → fault_of a line ≡ refusals line
unfolding refusals
refusals_are a line is = ap (λ b. fault_of b line) is

values_are : (a : App) (line : List Text) → a ≡ program → matches_of a line ≡ values_on line
unfolding values_on
values_are a line is = ap (λ b. matches_of b line) is

pub returns-clause-taken : goal.returns-clause-taken
returns-clause-taken c =
    let is : app_of c.in_ok-program.field-0 ≡ program = c.in_ok-program.ensures in
    taken_for_none c.try_get_matches_from.result _ _ (refusals_are _ _ is) (c.try_get_matches_from.ensures.kinds (ap is_simple_and_free is ∙ is_exact))

pub returns-clause-values : goal.returns-clause-values
returns-clause-values c =
    let is : app_of c.in_ok-program.field-0 ≡ program = c.in_ok-program.ensures in
    IfOk-weaker c.try_get_matches_from.result _ _ (λ m h. (h (ap is_simple is ∙ is_plain)).0 ∙ values_are _ _ is) c.try_get_matches_from.ensures.matches

pub returns-clause-numbers : goal.returns-clause-numbers
returns-clause-numbers c =
    IfOk-weaker c.try_get_matches_from.result _ _ (λ m p. numbers_pass c.in_ok-program.field-0 m p c.in_ok-program.ensures) c.try_get_matches_from.ensures.parsed

pub returns-clause-refused : goal.returns-clause-refused
returns-clause-refused c =
    let is : app_of c.in_ok-program.field-0 ≡ program = c.in_ok-program.ensures in
    refused_for_some c.try_get_matches_from.result _ _ (refusals_are _ _ is) (c.try_get_matches_from.ensures.kinds (ap is_simple_and_free is ∙ is_exact))
