use Rattle.std.proofs.Common.{arith}
use Rattle.btree_nodes.proofs.Tails.{edited-in}
use Rattle.btree_nodes.proofs.writing.edit_cells.Goals as goal

pub returns : goal.returns
returns c = λ number kind level width least node all.
    edited-in number kind level width least c.args.count c.args.size c.args.page.now c.to_be_bytes.result c.write_at.new.out node all c.to_be_bytes.ensures c.write_at.ensures.all
    c.args.at c.args.until c.args.first.now c.args.second.now c.splice_in.new.out (omega arith) (omega arith) (omega arith) c.splice_in.ensures
