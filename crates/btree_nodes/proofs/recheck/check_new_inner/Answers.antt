use Rattle.btree_nodes.proofs.Soundness.{inner-sound}
use Rattle.btree_nodes.proofs.recheck.check_new_inner.Goals as goal

pub returns-in-Ok-clause-sealed : goal.returns-in-Ok-clause-sealed
returns-in-Ok-clause-sealed c = inner-sound c.args.form c.args.least c.args.level _ _ c.args.page.now c.requires.level c.requires.least c.in-Ok.ensures.sound c.in-Ok.ensures.order
