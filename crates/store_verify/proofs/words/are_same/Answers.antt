use Rattle.store_verify.proofs.Times.{rows-decide}
use Rattle.store_verify.proofs.words.are_same.Goals as goal

pub returns : goal.returns
returns c = rows-decide c.args.rows.now c.args.others.now c.eq.result c.eq.ensures
