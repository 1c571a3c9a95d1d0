use Rattle.std.proofs.Common.{arith, ◌+◌, ◌-◌, ◌/◌}
use Rattle.std.proofs.Math.Nat.{mul-le-mul_left}
use Rattle.btree_nodes.proofs.key.place.Goals as goal

pub is_before-requires-clause-fits : goal.is_before-requires-clause-fits
is_before-requires-clause-fits c =
    omega (arith, mul-le-mul_left {m = c.halve.low + (c.halve.high - c.halve.low) / 2 + 1} {n = c.args.count} c.args.width (omega arith))
