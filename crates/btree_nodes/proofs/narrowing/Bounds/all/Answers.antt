use Rattle.btree_nodes.proofs.Roots.{number-low}
use Rattle.btree_nodes.proofs.narrowing.Bounds.all.Goals as goal

pub returns-clause-low : goal.returns-clause-low
returns-clause-low c = λ n. number-low n
