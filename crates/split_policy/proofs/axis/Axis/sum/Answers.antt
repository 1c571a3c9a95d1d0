use Rattle.std.proofs.Common.{arith}
use Rattle.std.proofs.lemmas.Int.{ints}
use Rattle.split_policy.specs.Halving.{sum_on}
use Rattle.split_policy.proofs.axis.Axis.sum.Goals as goal

pub returns-in-Longitude-clause-value : goal.returns-in-Longitude-clause-value
unfolding sum_on
returns-in-Longitude-clause-value c = rw c.in-Longitude.is (omega (arith, ints))

pub returns-in-Latitude-clause-value : goal.returns-in-Latitude-clause-value
unfolding sum_on
returns-in-Latitude-clause-value c = rw c.in-Latitude.is (omega (arith, ints))
