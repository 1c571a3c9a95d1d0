use Rattle.std.proofs.Common.{ℕ, List, Some, ap, sym, ◌∙◌}
use Rattle.line_tokens.specs.Token.{Token}
use Rattle.line_tokens.proofs.Scans.{at_end, at_open, at_close, at_quote, at_other}
use Rattle.line_tokens.proofs.scan.next_token.Goals as goal

pub returns-in_default : goal.returns-in_default
returns-in_default c = sym (at_end c.args.text.now _ c.after_blanks-text.ensures c.in_default.ensures.none)

pub returns-then-first-eq40 : goal.returns-then-first-eq40
returns-then-first-eq40 c =
    rw c.behind_first.ensures (sym (at_open c.args.text.now _ c.after_blanks-text.ensures c.in-Some.ensures.some.0 (c.in-Some.ensures.some.1 ∙ c.if-first-eq40.true)))

pub returns-then-first-eq41 : goal.returns-then-first-eq41
returns-then-first-eq41 c =
    rw c.behind_first-then-first-eq41.ensures
    (sym (at_close c.args.text.now _ c.after_blanks-text.ensures c.in-Some.ensures.some.0 (c.in-Some.ensures.some.1 ∙ c.if-first-eq41.true)))

pub returns-in_ok-quoted : goal.returns-in_ok-quoted
returns-in_ok-quoted c =
    ap (λ (f : Token × List ℕ). Some f) c.in_ok-quoted.ensures
    ∙ sym (at_quote c.args.text.now _ c.after_blanks-text.ensures c.in-Some.ensures.some.0 (c.in-Some.ensures.some.1 ∙ c.if-first-eq34.true))

pub returns-else-first-eq34 : goal.returns-else-first-eq34
returns-else-first-eq34 c =
    let first = c.in-Some.ensures.some.1 in
    ap (λ (f : Token × List ℕ). Some f) c.bare.ensures
    ∙ sym (at_other c.args.text.now _ c.after_blanks-text.ensures c.in-Some.ensures.some.0 (λ e. c.if-first-eq40.false (sym first ∙ e)) (λ e. c.if-first-eq41.false (sym first ∙ e))
    (λ e. c.if-first-eq34.false (sym first ∙ e)))
