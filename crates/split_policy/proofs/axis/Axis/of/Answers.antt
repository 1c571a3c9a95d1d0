use Rattle.std.proofs.Common.{arith}
use Rattle.std.proofs.lemmas.Int.{ints}
use Rattle.split_policy.specs.Halving.{axis_of}
use Rattle.split_policy.proofs.axis.Axis.of.Goals as goal

pub returns-then-spread : goal.returns-then-spread
unfolding axis_of
returns-then-spread c = grind (arith, ints)

pub returns-else-spread : goal.returns-else-spread
unfolding axis_of
returns-else-spread c = grind (arith, ints)
