use Rattle.std.proofs.Common.{arith, take, replicate}
use Rattle.std.proofs.lemmas.List.{take-replicate}
use Rattle.btree_nodes.proofs.Writes.{cleared-back}
use Rattle.btree_nodes.proofs.writing.clear_key.Goals as goal

pub returns-clause-back : goal.returns-clause-back
returns-clause-back c = cleared-back c.args.cells.now (take c.args.key (replicate 255 0)) c.write_at.new.out c.args.at c.args.key (omega arith) (take-replicate c.args.key 255 0 (omega arith)) c.write_at.ensures.all
