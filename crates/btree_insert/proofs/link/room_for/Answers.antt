use Rattle.std.proofs.Common.{arith}
use Rattle.btree_insert.proofs.link.room_for.Goals as goal

pub returns-clause-small : goal.returns-clause-small
returns-clause-small c = omega arith
