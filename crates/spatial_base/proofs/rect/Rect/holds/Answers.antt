use Rattle.std.proofs.Common.{arith}
use Rattle.std.proofs.lemmas.Int.{ints}
use Rattle.spatial_base.proofs.rect.Rect.holds.Goals as goal

pub returns-then-is_between-clause-exact : goal.returns-then-is_between-clause-exact
returns-then-is_between-clause-exact c =
    let across = c.is_between.ensures.exact.0 c.if-is_between.true in
    rw (← c.self.view_is) (
      λ t. let along = c.is_between-then-is_between.ensures.exact.0 t in record {
        west = omega (arith, ints, across);
        east = omega (arith, ints, across);
        south = omega (arith, ints, along);
        north = omega (arith, ints, along);
      },
      λ h. c.is_between-then-is_between.ensures.exact.1 (omega (arith, ints), omega (arith, ints)),
    )
