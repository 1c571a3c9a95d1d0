use Rattle.std.proofs.Common.{arith}
use Rattle.std.proofs.lemmas.Int.{ints, clamps}
use Rattle.spatial_base.proofs.Rects.{bounds_same, joined-first, joined-second, joined-least}
use Rattle.spatial_base.proofs.rect.Rect.join.Goals as goal

pub invariant_of-result : goal.invariant_of-result
invariant_of-result c = (
  (omega (arith, ints, clamps), omega (arith, ints, clamps)),
  (omega (arith, ints, clamps), omega (arith, ints, clamps)),
  omega (arith, ints, clamps),
  omega (arith, ints, clamps),
)

pub returns-clause-value : goal.returns-clause-value
returns-clause-value c =
    rw (← c.self.view_is, ← c.other.view_is)
    (bounds_same _ _ (omega (arith, ints, clamps)) (omega (arith, ints, clamps)) (omega (arith, ints, clamps)) (omega (arith, ints, clamps)))

pub returns-clause-first : goal.returns-clause-first
returns-clause-first c = joined-first _ _ _ (returns-clause-value c)

pub returns-clause-second : goal.returns-clause-second
returns-clause-second c = joined-second _ _ _ (returns-clause-value c)

pub returns-clause-least : goal.returns-clause-least
returns-clause-least c = joined-least _ _ _ (returns-clause-value c)
