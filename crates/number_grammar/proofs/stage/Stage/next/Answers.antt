use Rattle.number_grammar.specs.Stages.{next_stage}
use Rattle.number_grammar.proofs.StageSteps.{Steps-next_stage, some_steps, none_steps}
use Rattle.number_grammar.proofs.stage.Stage.next.Goals as goal

pub returns-clause-some : goal.returns-clause-some
returns-clause-some c = rw c.after.ensures (some_steps c.args.self c.args.byte (next_stage c.args.self c.args.byte) (Steps-next_stage c.args.self c.args.byte))

pub returns-clause-none : goal.returns-clause-none
returns-clause-none c = rw c.after.ensures (none_steps c.args.self c.args.byte (next_stage c.args.self c.args.byte) (Steps-next_stage c.args.self c.args.byte))
