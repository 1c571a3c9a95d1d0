use Rattle.std.proofs.Common.{length}
use Rattle.group_sum.proofs.Firsts.{IsLeastBelow}
use Rattle.group_sum.proofs.table.Table.least_split.Given as goal

abbrev pub invariant-loop-part : goal.invariant-loop-part
invariant-loop-part l = IsLeastBelow l.self.count l.self.kept.items l.set l.part l.best
