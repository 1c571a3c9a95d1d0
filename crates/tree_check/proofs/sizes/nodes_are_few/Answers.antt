use Rattle.tree_check.proofs.Few.{nodes-few}
use Rattle.tree_check.proofs.sizes.nodes_are_few.Goals as goal

pub returns : goal.returns
returns c = nodes-few
