use Rattle.std.proofs.Common.{◌≡◌, min, refl, sym, ◌∙◌, arith, rules, w32}
use mir.Val.{SFits}
use Rattle.std.proofs.lemmas.Int.{ints, to_z-of_z}
use Rattle.spatial_base.specs.Point.{longitude_gap}
use Rattle.spatial_base.specs.Laws.{longitude_gap_to-left, longitude_gap_to-right}
use Rattle.spatial_base.proofs.rect.east_gap_to.Goals as goal
use Rattle.spatial_base.proofs.rect.east_gap_to.Goals.{After-min, else-west-a-via-then-west-a+else-a-east, else-west-a-via-else-west-a}

lesser : (c : After-min) → c.min.result ≡ min (longitude_gap c.args.a c.args.west) (longitude_gap c.args.a c.args.east)
lesser c =
    let w : SFits w32 c.args.west = search rules in
    let e : SFits w32 c.args.east = search rules in
    let a : SFits w32 c.args.a = search rules in
    let one : c.east_gap.result ≡ longitude_gap c.args.a c.args.west = simp to_z-of_z at c.east_gap.ensures.value in
    let two : c.east_gap-else-west-a.result ≡ longitude_gap c.args.a c.args.east = simp to_z-of_z at c.east_gap-else-west-a.ensures.value in
    c.min.ensures ∙ rw (one, two) refl

pub returns-else-west-a-clause-value : goal.returns-else-west-a-clause-value
returns-else-west-a-clause-value c =
    elim c.else-west-a.branch [
      | else-west-a-via-then-west-a+else-a-east w ↦ lesser c ∙ sym (longitude_gap_to-right c.args.west c.args.east c.args.a (omega (arith, ints)) (omega (arith, ints)))
      | else-west-a-via-else-west-a w ↦ lesser c ∙ sym (longitude_gap_to-left c.args.west c.args.east c.args.a (omega (arith, ints)) (omega (arith, ints)))
    ]
