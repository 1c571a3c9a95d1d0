use Rattle.std.proofs.Common.{◌≡◌, ◌-◌, ℕ, List, Some, None, option_map, Bor, codes, refl, sym, ap, ◌∙◌}
use Rattle.line_tokens.specs.Token.{token_of}
use Rattle.query_lang.specs.Expression.{behind_word, both, either, factor, conjunction, plain_clause}
use Rattle.query_lang.proofs.Clauses.{conjunction_step, conjunction_err, expression_step, expression_err, denied_step, denied_err, enclosed_step, enclosed_err, join_step, join_err, more_zero, more_none, more_step, factor_step, factor_end, next_none}
use Rattle.query_lang.proofs.expression.+grammar.Goals as goal

pub factor-returns-in-Err : goal.factor-returns-in-Err
factor-returns-in-Err t c = λ m. factor_end c.args.levels c.args.words c.args.text.now _ (c.in-Err.ensures.missing m)

pub factor-returns : goal.factor-returns
factor-returns t c = factor_step c.args.levels c.args.words c.args.text.now _ _ c.factor_at.result c.in-Ok.ensures.token c.factor_at.ensures

pub factor_at-returns-in-Word : goal.factor_at-returns-in-Word
factor_at-returns-in-Word t c = rw (← c.in-Word.ensures) c.named_at.ensures

pub factor_at-returns-then-levels-eq0 : goal.factor_at-returns-then-levels-eq0
factor_at-returns-then-levels-eq0 t c = λ m. rw (← c.in-Not.ensures, next_none c.args.levels c.if-levels-eq0.true) refl

pub factor_at-returns-then-levels-eq0-2 : goal.factor_at-returns-then-levels-eq0-2
factor_at-returns-then-levels-eq0-2 t c = λ m. rw (← c.in-Open.ensures, next_none c.args.levels c.if-levels-eq0-2.true) refl

pub denied-returns-in-Err : goal.denied-returns-in-Err
denied-returns-in-Err t c = λ m. denied_err (factor c.args.levels) c.args.words c.args.text.now _ (c.in-Err.ensures m)

pub denied-returns : goal.denied-returns
denied-returns t c = denied_step (factor c.args.levels) c.args.words c.args.text.now _ _ _ c.in-Ok.ensures c.in_ok-clause.ensures.value

pub enclosed-returns-in-Err : goal.enclosed-returns-in-Err
enclosed-returns-in-Err t c = λ m. enclosed_err (factor c.args.levels) c.args.words c.args.text.now _ (c.in-Err.ensures m)

pub enclosed-returns : goal.enclosed-returns
enclosed-returns t c = enclosed_step (factor c.args.levels) c.args.words c.args.text.now _ _ c.closed.result c.in-Ok.ensures c.closed.ensures

pub conjunction-returns-in-Err : goal.conjunction-returns-in-Err
conjunction-returns-in-Err t c = λ m. conjunction_err (factor c.args.levels) c.args.words c.args.text.now _ (c.in-Err.ensures m)

pub conjunction-returns : goal.conjunction-returns
conjunction-returns t c = conjunction_step (factor c.args.levels) c.args.words c.args.text.now _ _ c.more_factors.result c.in-Ok.ensures c.more_factors.ensures

pub more_factors-returns-then-left-eq0 : goal.more_factors-returns-then-left-eq0
more_factors-returns-then-left-eq0 t c = more_zero c.args.left (codes "and") (factor c.args.levels) both (plain_clause c.args.one) c.args.text.now c.if-left-eq0.true

pub more_factors-returns-in_default : goal.more_factors-returns-in_default
more_factors-returns-in_default t c =
    let none : behind_word (codes "and") (token_of c.args.text.now) ≡ None = sym c.in-Ok.ensures.says ∙ ap (option_map (λ (r : Bor (List ℕ)). r.now)) c.in_default.is in
    more_none c.args.left (codes "and") (factor c.args.levels) both (plain_clause c.args.one) c.args.text.now none

pub more_factors-returns : goal.more_factors-returns
more_factors-returns t c =
    let some : behind_word (codes "and") (token_of c.args.text.now) ≡ Some c.in-Some.rest.now = sym c.in-Ok.ensures.says ∙ ap (option_map (λ (r : Bor (List ℕ)). r.now)) c.in-Some.is in
    more_step c.args.left (codes "and") (factor c.args.levels) both (plain_clause c.args.one) c.args.text.now _ c.joined_factor.result c.if-left-eq0.false some c.joined_factor.ensures

pub joined_factor-returns-in-Err : goal.joined_factor-returns-in-Err
joined_factor-returns-in-Err t c = λ m. join_err c.args.left (codes "and") (factor c.args.levels) both (plain_clause c.args.one) c.args.text.now _ (c.in-Err.ensures m)

pub joined_factor-returns : goal.joined_factor-returns
joined_factor-returns t c =
    join_step c.args.left (codes "and") (factor c.args.levels) both (plain_clause c.args.one) _ _ c.args.text.now _ c.more_factors.result c.in-Ok.ensures c.in_ok-clause.ensures.value c.more_factors.ensures

pub expression-returns-in-Err : goal.expression-returns-in-Err
expression-returns-in-Err t c = λ m. expression_err (factor c.args.levels) c.args.words c.args.text.now _ (c.in-Err.ensures m)

pub expression-returns : goal.expression-returns
expression-returns t c = expression_step (factor c.args.levels) c.args.words c.args.text.now _ _ c.more_conjunctions.result c.in-Ok.ensures c.more_conjunctions.ensures

pub more_conjunctions-returns-then-left-eq0 : goal.more_conjunctions-returns-then-left-eq0
more_conjunctions-returns-then-left-eq0 t c = more_zero c.args.left (codes "or") (conjunction (factor c.args.levels)) either (plain_clause c.args.one) c.args.text.now c.if-left-eq0.true

pub more_conjunctions-returns-in_default : goal.more_conjunctions-returns-in_default
more_conjunctions-returns-in_default t c =
    let none : behind_word (codes "or") (token_of c.args.text.now) ≡ None = sym c.in-Ok.ensures.says ∙ ap (option_map (λ (r : Bor (List ℕ)). r.now)) c.in_default.is in
    more_none c.args.left (codes "or") (conjunction (factor c.args.levels)) either (plain_clause c.args.one) c.args.text.now none

pub more_conjunctions-returns : goal.more_conjunctions-returns
more_conjunctions-returns t c =
    let some : behind_word (codes "or") (token_of c.args.text.now) ≡ Some c.in-Some.rest.now = sym c.in-Ok.ensures.says ∙ ap (option_map (λ (r : Bor (List ℕ)). r.now)) c.in-Some.is in
    more_step c.args.left (codes "or") (conjunction (factor c.args.levels)) either (plain_clause c.args.one) c.args.text.now _ c.joined_conjunction.result c.if-left-eq0.false some c.joined_conjunction.ensures

pub joined_conjunction-returns-in-Err : goal.joined_conjunction-returns-in-Err
joined_conjunction-returns-in-Err t c = λ m. join_err c.args.left (codes "or") (conjunction (factor c.args.levels)) either (plain_clause c.args.one) c.args.text.now _ (c.in-Err.ensures m)

pub joined_conjunction-returns : goal.joined_conjunction-returns
joined_conjunction-returns t c =
    join_step c.args.left (codes "or") (conjunction (factor c.args.levels)) either (plain_clause c.args.one) _ _ c.args.text.now _ c.more_conjunctions.result c.in-Ok.ensures c.in_ok-clause.ensures.value c.more_conjunctions.ensures
