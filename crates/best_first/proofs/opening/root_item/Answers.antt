use Rattle.std.proofs.Common.{◌∙◌, ap, Err, Vec, Global}
use Rattle.btree_nodes.proofs.Walks.{same-fault}
use Rattle.best_first.specs.declared.item.Item.{Item}
use Rattle.best_first.proofs.opening.root_item.Goals as goal

pub returns-in-Err-clause-damaged : goal.returns-in-Err-clause-damaged
returns-in-Err-clause-damaged g c = λ damage e. c.enter.ensures.damaged damage (c.in-Err.is ∙ ap Err (same-fault {T = Vec Item Global} _ _ e))
