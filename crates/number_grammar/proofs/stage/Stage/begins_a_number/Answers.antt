use Rattle.number_grammar.proofs.StageSteps.{some_end}
use Rattle.number_grammar.proofs.stage.Stage.begins_a_number.Goals as goal

pub returns : goal.returns
returns c = some_end c.args.self
