use Rattle.std.proofs.lemmas.Bool.{false≢true}
use Rattle.rtree_nodes.proofs.Bounding.{some-form}
use Rattle.tree_check.proofs.node.bounds_of.Goals as goal

pub unreachable-requires : goal.unreachable-requires
unreachable-requires c = false≢true (c.in-Err.ensures.ok (some-form c.args.bytes.now c.requires))
