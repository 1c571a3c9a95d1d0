use Rattle.std.proofs.Common.{◌≡◌, ◌∙◌, ap, sym, of_z}
use Rattle.std.specs.Int.{w32}
use Rattle.std.proofs.lemmas.Bool.{false≢true, eq-eqb}
use Rattle.spatial_base.specs.Rect.{Bounds}
use Rattle.rtree_nodes.proofs.Reaches.{same-rect}
use Rattle.tree_check.proofs.node.is_same.Goals as goal
use Rattle.tree_check.proofs.node.is_same.Goals.{then-west, else-west, then-south, else-south}

pub returns-then-east-clause-apart : goal.returns-then-east-clause-apart
returns-then-east-clause-apart c = λ no all.
    let e : c.args.first.now ≡ c.args.second.now = same-rect c.args.first.now c.args.second.now c.west.ensures.valid c.west-2.ensures.valid (λ d l. all d) in
    let north : c.north.result ≡ c.north-then-east.result = c.north.ensures.value ∙ ap (λ (r : Bounds). r.north) e ∙ sym c.north-then-east.ensures.value in
    false≢true (sym no ∙ eq-eqb _ _ (ap (of_z w32) north))

pub returns-else-east-clause-apart : goal.returns-else-east-clause-apart
returns-else-east-clause-apart c = λ no all.
    let e : c.args.first.now ≡ c.args.second.now = same-rect c.args.first.now c.args.second.now c.west.ensures.valid c.west-2.ensures.valid (λ d l. all d) in
    let west : c.west.result ≡ c.west-2.result = c.west.ensures.value ∙ ap (λ (r : Bounds). r.west) e ∙ sym c.west-2.ensures.value in
    elim c.if-south.branch [
      | then-south w ↦
          let east : w.east.result ≡ w.east-then-south.result = w.east.ensures.value ∙ ap (λ (r : Bounds). r.east) e ∙ sym w.east-then-south.ensures.value in
          false≢true (sym no ∙ w.value-is ∙ eq-eqb _ _ (ap (of_z w32) east))
      | else-south w ↦ elim c.if-west.branch [
        | then-west v ↦
            let south : v.south.result ≡ v.south-then-west.result = v.south.ensures.value ∙ ap (λ (r : Bounds). r.south) e ∙ sym v.south-then-west.ensures.value in
            false≢true (sym w.if-south.false ∙ v.value-is ∙ eq-eqb _ _ (ap (of_z w32) south))
        | else-west v ↦ v.if-west.false (ap (of_z w32) west)
      ]
    ]
