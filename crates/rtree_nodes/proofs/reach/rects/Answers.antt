use Rattle.std.proofs.Common.{◌<◌, length, refl, sym, ◌∙◌, arith, rules}
use Rattle.std.specs.Prelude.{IsErr}
use Rattle.std.proofs.lemmas.Bool.{false≢true}
use Rattle.rtree_nodes.proofs.AllBelow.{all_below-none}
use Rattle.rtree_nodes.proofs.Bounding.{form-rects, rects-more, rects-false, rects-set, rects-reach}
use Rattle.rtree_nodes.proofs.reach.rects.Goals as goal

pub loop-i-init : goal.loop-i-init
loop-i-init c = record { long = refl; have = all_below-none _; done = λ k l. absurd (omega arith) }

pub returns-in_err-rects-clause-value : goal.returns-in_err-rects-clause-value
returns-in_err-rects-clause-value c =
    let err : IsErr c.from_residual.result = search rules in
    (λ e. rects-false c.args.page.now c.loop-i.i (omega arith) (c.in_err-rects.ensures.value.0 refl), λ e. err)

pub returns-in_err-rects-clause-ok : goal.returns-in_err-rects-clause-ok
returns-in_err-rects-clause-ok c = λ form.
    absurd (false≢true (sym (rects-false c.args.page.now c.loop-i.i (omega arith) (c.in_err-rects.ensures.value.0 refl)) ∙ form-rects c.args.page.now form))

pub loop-i-preserved : goal.loop-i-preserved
loop-i-preserved c =
    let inside : c.loop-i.i < length c.loop-i.rects = omega (arith, c.loop-i.invariant.long) in
    record {
      long = search rules;
      have = rects-more c.args.page.now c.loop-i.i c.loop-i.invariant.have (λ h. false≢true (c.in_ok-rects.ensures.value.1 h));
      done = rects-set c.args.page.now c.loop-i.rects c.loop-i.i _ inside c.in_ok-rects.ensures.rect c.loop-i.invariant.done;
    }

pub returns-clause-reach : goal.returns-clause-reach
returns-clause-reach c = λ form i l. rects-reach c.args.page.now _ i form l (c.loop-i.invariant.done i (omega arith))
