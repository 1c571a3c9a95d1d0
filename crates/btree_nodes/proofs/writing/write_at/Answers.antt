use Rattle.std.proofs.Common.{arith, ◌∙◌, ap, take, ◌+◌, length, drop}
use Rattle.btree_nodes.proofs.Writes.{written_front}
use Rattle.btree_nodes.proofs.writing.write_at.Goals as goal

pub returns-clause-front : goal.returns-clause-front
returns-clause-front c =
    ap (take (c.args.at + length c.args.bytes.now)) c.write_over.ensures
    ∙ written_front c.args.out.now c.args.bytes.now (drop (c.args.at + length c.args.bytes.now) c.args.out.now) c.args.at (omega arith)
