use Rattle.btree_nodes.proofs.Soundness.{leaf-sound}
use Rattle.btree_nodes.proofs.recheck.check_new_leaf.Goals as goal

pub returns-in-Ok-clause-sealed : goal.returns-in-Ok-clause-sealed
returns-in-Ok-clause-sealed c = leaf-sound c.args.form c.args.least _ _ c.args.page.now c.in-Ok.ensures.sound c.in-Ok.ensures.order
