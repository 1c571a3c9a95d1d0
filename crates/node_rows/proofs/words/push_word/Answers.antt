use Rattle.std.proofs.Common.{◌<◌, ◌+◌, ℕ, ◌∙◌, ap, sym, subst, List, arith}
use Rattle.node_rows.specs.Impacts.{impact_in}
use Rattle.node_rows.specs.Words.{AreWords}
use Rattle.node_rows.proofs.Impacts.{impact-one}
use Rattle.node_rows.proofs.Pairs.{impact-none, words-push, words-wider}
use Rattle.node_rows.proofs.words.push_word.Goals as goal

pub returns-then-impact-eq0-clause-impacts : goal.returns-then-impact-eq0-clause-impacts
returns-then-impact-eq0-clause-impacts c = λ w. impact-none c.args.number c.args.impact w (impact_in c.args.words.now.items w) c.if-impact-eq0.true

pub returns-then-impact-eq0-clause-ordered : goal.returns-then-impact-eq0-clause-ordered
returns-then-impact-eq0-clause-ordered c = λ at h l. words-wider 0 at (c.args.number + 1) c.args.words.now.items h (omega arith)

pub returns-in-Ok-clause-impacts : goal.returns-in-Ok-clause-impacts
returns-in-Ok-clause-impacts c = λ w. ap (λ (ps : List (ℕ × ℕ)). impact_in ps w) c.in-Ok.ensures.items ∙ impact-one c.args.words.now.items (c.args.number, c.args.impact) w

pub returns-in-Ok-clause-ordered : goal.returns-in-Ok-clause-ordered
returns-in-Ok-clause-ordered c = λ at h l.
    let some : 0 < c.args.impact = let k = c.if-impact-eq0.false in grind arith in
    subst (AreWords 0 (c.args.number + 1)) (sym c.in-Ok.ensures.items) (words-push 0 at c.args.number c.args.impact c.args.words.now.items h l some)
