use Rattle.std.proofs.Common.{arith, ◌+◌}
use Rattle.btree_insert.proofs.leaf.room_for.Goals as goal
use Rattle.btree_insert.proofs.Leaves.{room}

pub overflow_mul-result : goal.overflow_mul-result
overflow_mul-result c = let r = room (c.args.form.key + c.args.form.value) c.args.count c.args.gone (omega arith) c.requires.fits in omega arith

pub returns-clause-small : goal.returns-clause-small
returns-clause-small c = room (c.args.form.key + c.args.form.value) c.args.count c.args.gone (omega arith) c.requires.fits
