use Rattle.std.proofs.Common.{◌≤◌, ◌≡◌, sym, subst, arith}
use Rattle.std.specs.List.{AllByRecursion}
use Rattle.spatial_base.specs.Point.{distance}
use Rattle.spatial_base.specs.Rect.{Holds}
use Rattle.place_values.specs.declared.query.Pick.{Pick}
use Rattle.group_search.proofs.packing.block_of.Goals as goal

pub returns-clause-block : goal.returns-clause-block
returns-clause-block c = λ at measured.
    let same = c.in_ok-copies.ensures.items in
    let n = c.nearest_of-nearest.ensures.low in
    record {
      held = subst (AllByRecursion (λ (pick : Pick). Holds c.bounds_of-bounds.result pick.point)) (sym same) c.bounds_of-bounds.ensures;
      lowest = subst (AllByRecursion (λ (pick : Pick). c.nearest_of-nearest.result ≤ pick.dist)) (sym same) c.nearest_of-nearest.ensures.least;
      low = omega (arith, n, c.requires.first);
      near = subst (AllByRecursion (λ (pick : Pick). pick.dist ≤ 2545584412)) (sym same) c.requires.near;
      measured = subst (AllByRecursion (λ (pick : Pick). pick.dist ≡ distance at pick.point)) (sym same) measured;
    }
