use Rattle.rtree_nodes.proofs.Coded.{inner-used, inner-unused}
use Rattle.rtree_nodes.proofs.codec.child_or_origin.Goals as goal

pub returns-clause-used : goal.returns-clause-used
returns-clause-used c = λ some used. inner-used c.args.page.now c.args.at c.in_ok-slot.slot _ _ c.requires c.in_ok-slot.ensures.stored c.in_ok-slot.ensures.kind c.inner_slot.ensures some used

pub returns-clause-unused : goal.returns-clause-unused
returns-clause-unused c = λ unused. inner-unused c.args.page.now c.args.at c.in_ok-slot.slot _ _ c.in_ok-slot.ensures.stored c.inner_slot.ensures unused
