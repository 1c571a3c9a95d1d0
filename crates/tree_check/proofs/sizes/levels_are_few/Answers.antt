use Rattle.tree_check.proofs.Many.{levels-few, levels-fewer}
use Rattle.tree_check.proofs.sizes.levels_are_few.Goals as goal

pub returns-clause-state : goal.returns-clause-state
returns-clause-state c = levels-few

pub returns-clause-limit : goal.returns-clause-limit
returns-clause-limit c = levels-fewer
