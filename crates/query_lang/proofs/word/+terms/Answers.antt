use Rattle.std.proofs.Common.{◌-◌, option_map, sym, ap, ◌∙◌}
use Rattle.line_tokens.specs.Seen.{seen}
use Rattle.query_lang.specs.Word.{term_of}
use Rattle.query_lang.proofs.Wording.{more_end, more_extra, more_one, one_refused, one_taken}
use Rattle.query_lang.proofs.word.+terms.Goals as goal

pub more_terms-returns-in_default : goal.more_terms-returns-in_default
more_terms-returns-in_default t c = more_end term_of c.args.left c.args.terms.items c.args.text.now (sym c.in-Ok.ensures.token ∙ ap (option_map (λ f. (seen f.0, f.1.now))) c.in_default.is)

pub more_terms-returns-then-left-eq0 : goal.more_terms-returns-then-left-eq0
more_terms-returns-then-left-eq0 t c =
    let found = rw c.in-Some.is at c.in-Ok.ensures.token in
    λ m. more_extra term_of c.args.left c.args.terms.items c.args.text.now _ _ c.if-left-eq0.true (sym found)

pub more_terms-returns : goal.more_terms-returns
more_terms-returns t c =
    let found = rw c.in-Some.is at c.in-Ok.ensures.token in
    rw (more_one term_of c.args.left c.args.terms.items c.args.text.now _ _ c.if-left-eq0.false (sym found)) c.next_term.ensures

pub next_term-returns-in-Err : goal.next_term-returns-in-Err
next_term-returns-in-Err t c =
    λ m. one_refused term_of c.args.left c.args.terms.items (seen c.args.token.now) c.args.text.now _ (rw c.as_slice.ensures.value at (c.in-Err.ensures m))

pub next_term-returns : goal.next_term-returns
next_term-returns t c =
    rw (one_taken term_of c.args.left c.args.terms.items _ (seen c.args.token.now) c.args.text.now _ (rw c.as_slice.ensures.value at c.in-Ok.ensures) c.in_ok-terms.ensures.items) c.more_terms.ensures
