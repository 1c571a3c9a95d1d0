use Rattle.tree_check.proofs.Counts.{pages-most, pages-all}
use Rattle.tree_check.proofs.sizes.pages_are_nodes.Goals as goal

pub returns-clause-most : goal.returns-clause-most
returns-clause-most c = pages-most

pub returns-clause-all : goal.returns-clause-all
returns-clause-all c = pages-all
