use Rattle.std.proofs.Common.{arith}
use Rattle.best_first.proofs.CostLaws.{most-few, most-zero, most-is}
use Rattle.best_first.proofs.best.most_asked.Goals as goal

pub returns-then-best-k : goal.returns-then-best-k
returns-then-best-k c = most-few c.args.limit c.args.k c.args.best.now (omega (arith, c.if-best-k.true))

pub returns-then-k-eq0 : goal.returns-then-k-eq0
returns-then-k-eq0 c = most-zero c.args.limit c.args.k c.args.best.now c.if-k-eq0.true

pub returns : goal.returns
returns c = most-is c.args.limit c.args.k c.args.best.now _ (omega (arith, c.if-best-k.false)) (omega (arith, c.if-k-eq0.false))
