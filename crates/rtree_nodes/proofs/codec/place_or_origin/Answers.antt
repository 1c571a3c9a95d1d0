use Rattle.rtree_nodes.proofs.Coded.{leaf-used, leaf-unused}
use Rattle.rtree_nodes.proofs.codec.place_or_origin.Goals as goal

pub returns-clause-used : goal.returns-clause-used
returns-clause-used c = λ z used. leaf-used c.args.page.now c.args.at c.in_ok-slot.slot _ _ c.requires c.in_ok-slot.ensures.stored c.in_ok-slot.ensures.kind c.leaf_slot.ensures z used

pub returns-clause-unused : goal.returns-clause-unused
returns-clause-unused c = λ unused. leaf-unused c.args.page.now c.args.at c.in_ok-slot.slot _ _ c.in_ok-slot.ensures.stored c.leaf_slot.ensures unused
