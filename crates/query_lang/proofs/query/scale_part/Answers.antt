use Rattle.std.proofs.Common.{◌≡◌, ℕ, List, Some, None, option_map, Bor, codes, sym, ap, ◌∙◌}
use Rattle.line_tokens.specs.Token.{token_of}
use Rattle.query_lang.specs.Expression.{behind_word}
use Rattle.query_lang.proofs.Scales.{scale_some, scale_none}
use Rattle.query_lang.proofs.query.scale_part.Goals as goal

pub returns-in-Some-clause-says : goal.returns-in-Some-clause-says
returns-in-Some-clause-says c =
    let some : behind_word (codes "scale") (token_of c.args.text.now) ≡ Some c.in-Some.rest.now = sym c.in_ok-rest.ensures.says ∙ ap (option_map (λ (r : Bor (List ℕ)). r.now)) c.in-Some.is in
    rw (scale_some c.args.text.now _ some) c.whole_part.ensures.says

pub returns-in-None-clause-says : goal.returns-in-None-clause-says
returns-in-None-clause-says c =
    let none : behind_word (codes "scale") (token_of c.args.text.now) ≡ None = sym c.in_ok-rest.ensures.says ∙ ap (option_map (λ (r : Bor (List ℕ)). r.now)) c.in-None.is in
    scale_none c.args.text.now none
