use Rattle.std.proofs.Common.{arith}
use Rattle.btree_nodes.proofs.Numbers.{number_below}
use Rattle.paged_map.proofs.finding.set_key.Goals as goal

pub returns-clause-below : goal.returns-clause-below
returns-clause-below c = number_below c.args.key.now (λ i. let f = c.type_inv.key i in omega arith)
