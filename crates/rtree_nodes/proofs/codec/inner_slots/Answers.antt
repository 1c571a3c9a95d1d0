use Rattle.std.proofs.Common.{◌<◌, length, refl, arith, rules}
use Rattle.std.specs.Prelude.{IsErr}
use Rattle.std.proofs.lemmas.Bool.{false≢true}
use Rattle.rtree_nodes.proofs.AllBelow.{all_below-none}
use Rattle.rtree_nodes.proofs.Coded.{inner-set, values-more, values-false}
use Rattle.rtree_nodes.proofs.codec.inner_slots.Goals as goal

pub loop-i-init : goal.loop-i-init
loop-i-init c = record { rects = refl; children = refl; have = all_below-none _; holds = λ k l. absurd (omega arith) }

pub returns-in_err-child-clause-value : goal.returns-in_err-child-clause-value
returns-in_err-child-clause-value c =
    let err : IsErr c.from_residual.result = search rules in
    (λ e. values-false c.args.page.now c.loop-i.i (omega arith) (c.in_err-child.ensures.value.0 refl), λ e. err)

pub loop-i-preserved : goal.loop-i-preserved
loop-i-preserved c =
    let rects : c.loop-i.i < length c.loop-i.rects = omega (arith, c.loop-i.invariant.rects) in
    let children : c.loop-i.i < length c.loop-i.children = omega (arith, c.loop-i.invariant.children) in
    record {
      rects = search rules;
      children = search rules;
      have = values-more c.args.page.now c.loop-i.i c.loop-i.invariant.have (λ h. false≢true (c.in_ok-child.ensures.value.1 h));
      holds = inner-set c.args.page.now c.loop-i.rects c.loop-i.children c.loop-i.i _ _ rects children (c.in_ok-child.ensures.used c.requires) c.in_ok-child.ensures.unused c.loop-i.invariant.holds;
    }

pub returns-clause-slots : goal.returns-clause-slots
returns-clause-slots c = λ i l. c.loop-i.invariant.holds i (omega arith)
