use Rattle.std.proofs.Common.{◌∙◌, ◌+◌, ap, sym, subst, List}
use Rattle.node_inverted.specs.Lifts.{AreOrdered, lifted_at}
use Rattle.node_inverted.specs.declared.taking.NodeRow.{NodeRow}
use Rattle.node_inverted.proofs.Lifts.{lifted-push, rows-push}
use Rattle.node_inverted.proofs.taking.push_row.Goals as goal

pub returns-in-Ok-clause-lifted : goal.returns-in-Ok-clause-lifted
returns-in-Ok-clause-lifted c = λ w i. ap (λ (rs : List NodeRow). lifted_at rs w i) c.in-Ok.ensures.items ∙ lifted-push c.args.rows.now.items (record { number = c.args.number; bytes = c.args.bytes }) w i

pub returns-in-Ok-clause-ordered : goal.returns-in-Ok-clause-ordered
returns-in-Ok-clause-ordered c = λ at h l.
    subst (AreOrdered 0 (c.args.number + 1)) (sym c.in-Ok.ensures.items) (rows-push 0 at (record { number = c.args.number; bytes = c.args.bytes }) c.args.rows.now.items h l)
