use Rattle.std.proofs.Common.{option_map, sym, ap, ◌∙◌}
use Rattle.line_tokens.specs.Seen.{seen}
use Rattle.query_lang.proofs.Filters.{filter_none, filter_extra, filter_some}
use Rattle.query_lang.proofs.Limits.{filter_limits}
use Rattle.query_lang.proofs.expression.filter.Goals as goal

pub returns-in_default-clause-says : goal.returns-in_default-clause-says
returns-in_default-clause-says c = filter_none c.args.text.now (sym c.in-Ok.ensures.token ∙ ap (option_map (λ f. (seen f.0, f.1.now))) c.in_default.is)

pub returns-then-is_word-clause-says : goal.returns-then-is_word-clause-says
returns-then-is_word-clause-says c =
    let found = rw c.in-Some.is at c.in-Ok.ensures.token in
    rw (filter_some c.args.text.now _ _ (sym found) (sym c.is_word.ensures ∙ c.if-is_word.true)) c.some_filter.ensures

pub returns-then-is_word-clause-sound : goal.returns-then-is_word-clause-sound
returns-then-is_word-clause-sound c = filter_limits c.args.text.now c.some_filter.result (returns-then-is_word-clause-says c)

pub returns-clause-says : goal.returns-clause-says
returns-clause-says c =
    let found = rw c.in-Some.is at c.in-Ok.ensures.token in
    λ m. filter_extra c.args.text.now _ _ (sym found) (sym c.is_word.ensures ∙ c.if-is_word.false)
