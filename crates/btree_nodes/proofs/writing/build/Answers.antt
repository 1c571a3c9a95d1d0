use Rattle.btree_nodes.proofs.Writes.{built}
use Rattle.btree_nodes.proofs.writing.build.Goals as goal

pub returns : goal.returns
returns c = built c.args.number c.args.kind c.args.level c.args.count c.to_be_bytes.result c.args.cells.now c.write_at.new.out _ c.to_be_bytes.ensures c.write_at.ensures.all c.write_at-2.ensures.all
