use Rattle.json_spelled.proofs.Bytes.{kind_small}
use Rattle.json_spelled.proofs.run.is_plain.Goals as goal

pub returns-in-Quote-clause-ends : goal.returns-in-Quote-clause-ends
returns-in-Quote-clause-ends c = λ e. kind_small c.args.byte c.kind_of.result c.kind_of.ensures (λ e. absurd (cc (e, c.in-Quote.is)))

pub returns-in-Backslash-clause-ends : goal.returns-in-Backslash-clause-ends
returns-in-Backslash-clause-ends c = λ e. kind_small c.args.byte c.kind_of.result c.kind_of.ensures (λ e. absurd (cc (e, c.in-Backslash.is)))

pub returns-in-Break-clause-ends : goal.returns-in-Break-clause-ends
returns-in-Break-clause-ends c = λ e. kind_small c.args.byte c.kind_of.result c.kind_of.ensures (λ e. absurd (cc (e, c.in-Break.is)))

pub returns-in-Control-clause-ends : goal.returns-in-Control-clause-ends
returns-in-Control-clause-ends c = λ e. kind_small c.args.byte c.kind_of.result c.kind_of.ensures (λ e. absurd (cc (e, c.in-Control.is)))
