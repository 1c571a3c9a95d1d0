use Rattle.tree_check.proofs.Few.{pages-few}
use Rattle.tree_check.proofs.sizes.pages_are_few.Goals as goal

pub returns : goal.returns
returns c = pages-few
