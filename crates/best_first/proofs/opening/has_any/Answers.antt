use Rattle.std.proofs.Common.{arith}
use Rattle.best_first.proofs.Starts.{any-mask}
use Rattle.best_first.proofs.opening.has_any.Goals as goal

pub returns : goal.returns
returns c = any-mask c.args.slots (omega arith)
