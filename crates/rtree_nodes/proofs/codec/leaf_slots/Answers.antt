use Rattle.std.proofs.Common.{◌<◌, length, refl, arith, rules}
use Rattle.std.specs.Prelude.{IsErr}
use Rattle.std.proofs.lemmas.Bool.{false≢true}
use Rattle.rtree_nodes.proofs.AllBelow.{all_below-none}
use Rattle.rtree_nodes.proofs.Coded.{leaf-set, values-more, values-false}
use Rattle.rtree_nodes.proofs.codec.leaf_slots.Goals as goal

pub loop-i-init : goal.loop-i-init
loop-i-init c = record { points = refl; keys = refl; have = all_below-none _; holds = λ k l. absurd (omega arith) }

pub returns-in_err-place-clause-value : goal.returns-in_err-place-clause-value
returns-in_err-place-clause-value c =
    let err : IsErr c.from_residual.result = search rules in
    (λ e. values-false c.args.page.now c.loop-i.i (omega arith) (c.in_err-place.ensures.value.0 refl), λ e. err)

pub loop-i-preserved : goal.loop-i-preserved
loop-i-preserved c =
    let points : c.loop-i.i < length c.loop-i.points = omega (arith, c.loop-i.invariant.points) in
    let keys : c.loop-i.i < length c.loop-i.keys = omega (arith, c.loop-i.invariant.keys) in
    record {
      points = search rules;
      keys = search rules;
      have = values-more c.args.page.now c.loop-i.i c.loop-i.invariant.have (λ h. false≢true (c.in_ok-place.ensures.value.1 h));
      holds = leaf-set c.args.page.now c.loop-i.points c.loop-i.keys c.loop-i.i _ _ points keys (c.in_ok-place.ensures.used c.requires) c.in_ok-place.ensures.unused c.loop-i.invariant.holds;
    }

pub returns-clause-slots : goal.returns-clause-slots
returns-clause-slots c = λ i l. c.loop-i.invariant.holds i (omega arith)
