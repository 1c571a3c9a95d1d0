use Rattle.std.proofs.Common.{◌∙◌, ap}
use Rattle.rtree_nodes.specs.Masks.{marked}
use Rattle.rtree_nodes.proofs.Masks.{marked-filled}
use Rattle.rtree_nodes.proofs.mask.count.Goals as goal

pub returns-clause-filled : goal.returns-clause-filled
returns-clause-filled c = λ form. c.ones.ensures.is ∙ ap (marked 32) c.mask_of.ensures ∙ marked-filled c.args.page.now form
