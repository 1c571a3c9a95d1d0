use Rattle.std.proofs.Common.{arith, ◌+◌}
use Rattle.btree_insert.proofs.PutLeaf.{room-splice}
use Rattle.btree_insert.proofs.leaf.put_at.Goals as goal

pub splice-requires-clause-out : goal.splice-requires-clause-out
splice-requires-clause-out g c =
    room-splice (c.args.form.key + c.args.form.value) c.args.count c.args.at c.args.gone _ _ _ c.requires.gone c.requires.at c.requires.cells c.body.ensures.length
    (let k = c.requires.key in let v = c.requires.value in omega arith)
