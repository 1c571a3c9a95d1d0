use Rattle.std.proofs.Common.{length}
use Rattle.btree_nodes.proofs.key.+compare.Given as goal

abbrev pub decreases-compare : goal.decreases-compare
decreases-compare l = length l.first.now
