use Rattle.std.proofs.Common.{◌-◌, sym, arith, add-one}
use Rattle.query_lang.proofs.Stars.{no_star, last_star}
use Rattle.query_lang.proofs.word.star.Goals as goal

pub returns-then-text-at-eq42-clause-parts : goal.returns-then-text-at-eq42-clause-parts
returns-then-text-at-eq42-clause-parts c =
    let text = c.args.text.now in
    let at = c.loop-at.at - 1 in
    rw (add-one at) (sym (last_star text at (omega (arith, c.loop-at.invariant.0)) c.if-text-at-eq42.true (λ k more within. c.loop-at.invariant.1 k (omega arith) within)))

pub returns-clause-parts : goal.returns-clause-parts
returns-clause-parts c = sym (no_star c.args.text.now (λ k within. c.loop-at.invariant.1 k (omega arith) within))
