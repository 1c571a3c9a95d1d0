use Rattle.std.proofs.Common.{arith}
use Rattle.std.proofs.lemmas.Nat.{mul-le}
use Rattle.spatial_base.specs.Laws.{line-is, line-far}
use Rattle.spatial_base.proofs.distance.line.Goals as goal

pub overflow_add-scaled_square : goal.overflow_add-scaled_square
overflow_add-scaled_square c = omega (arith, c.scaled_square.ensures.far, mul-le c.args.north c.args.north 1800000000 1800000000 c.requires.north c.requires.north)

pub returns-clause-value : goal.returns-clause-value
returns-clause-value c = rw c.into.ensures (line-is c.args.scale c.args.east c.args.north _ _ c.requires.scale c.requires.east c.requires.north c.scaled_square.ensures.value c.root_of_u64.ensures.root)

pub returns-clause-far : goal.returns-clause-far
returns-clause-far c = rw (returns-clause-value c) (line-far c.args.scale c.args.east c.args.north c.requires.scale c.requires.east c.requires.north)
