use Rattle.tree_check.proofs.Many.{entries-many}
use Rattle.tree_check.proofs.sizes.entries_are_many.Goals as goal

pub returns : goal.returns
returns c = entries-many
