use Rattle.std.proofs.Common.{◌≡◌, ◌<◌, ◌+◌, ℕ, refl, sym, subst, ap, ◌∙◌, arith, rules, Option}
use Rattle.std.specs.Prelude.{IsErr}
use Rattle.std.proofs.lemmas.Bool.{false≢true}
use Rattle.spatial_base.specs.Rect.{Bounds}
use Rattle.rtree_nodes.specs.Slots.{tops}
use Rattle.rtree_nodes.specs.Reach.{reach_of}
use Rattle.rtree_nodes.specs.Pages.{mask_of, stored_in}
use Rattle.rtree_nodes.proofs.AllBelow.{all_below-none}
use Rattle.rtree_nodes.proofs.Formed.{form-slots}
use Rattle.rtree_nodes.proofs.Parts.{number-fits}
use Rattle.rtree_nodes.proofs.Bounding.{IsRound, form-rects, rects-more, rects-false, round-none, round-more, round-all, unwrap-which, unwrap-none, mask-free, some-form, some-mask}
use Rattle.rtree_nodes.proofs.reach.bounds.Goals as goal
use Rattle.rtree_nodes.proofs.reach.bounds.Goals.{After-unwrap_or}

pub loop-i-init : goal.loop-i-init
loop-i-init c = record { have = all_below-none _; round = round-none _ }

pub returns-in_err-slot_rect-clause-value : goal.returns-in_err-slot_rect-clause-value
returns-in_err-slot_rect-clause-value c =
    let err : IsErr c.from_residual.result = search rules in
    (λ e. rects-false c.args.page.now c.loop-i.i (omega arith) (c.in_err-slot_rect.ensures.value.0 refl), λ e. err)

pub returns-in_err-slot_rect-clause-ok : goal.returns-in_err-slot_rect-clause-ok
returns-in_err-slot_rect-clause-ok c = λ form.
    absurd (false≢true (sym (rects-false c.args.page.now c.loop-i.i (omega arith) (c.in_err-slot_rect.ensures.value.0 refl)) ∙ form-rects c.args.page.now form))

pub loop-i-preserved : goal.loop-i-preserved
loop-i-preserved c = record {
  have = rects-more c.args.page.now c.loop-i.i c.loop-i.invariant.have (λ h. false≢true (c.in_ok-slot_rect.ensures.value.1 h));
  round = subst (λ (o : Option Bounds). IsRound c.args.page.now (c.loop-i.i + 1) o) (sym c.widened-bounds.ensures)
      (round-more c.args.page.now c.loop-i.i c.loop-i.bounds _ (omega arith) c.loop-i.invariant.round c.in_ok-slot_rect.ensures.rect);
}

found : (c : After-unwrap_or) → 0 < mask_of c.args.page.now → (d : ℕ) → reach_of c.unwrap_or.result d ≡ tops d (stored_in c.args.page.now)
found c some d =
    let last : c.loop-i.i ≡ 32 = omega arith in
    round-all c.args.page.now c.loop-i.bounds c.unwrap_or.result (subst (λ (n : ℕ). IsRound c.args.page.now n c.loop-i.bounds) last c.loop-i.invariant.round)
    (number-fits 4 c.args.page.now c.fits-page (omega (arith, c.told-page))) some (unwrap-which c.loop-i.bounds _ c.unwrap_or.result c.unwrap_or.ensures) d

pub returns-clause-none : goal.returns-clause-none
returns-clause-none c = λ zero.
    let last : c.loop-i.i ≡ 32 = omega arith in
    let round = subst (λ (n : ℕ). IsRound c.args.page.now n c.loop-i.bounds) last c.loop-i.invariant.round in
    unwrap-none c.loop-i.bounds _ c.unwrap_or.result c.unwrap_or.ensures (round.none (mask-free c.args.page.now zero)) ∙ c.origin_rect.ensures

pub returns-clause-stored : goal.returns-clause-stored
returns-clause-stored c = λ some d. found c some d

pub returns-clause-reach : goal.returns-clause-reach
returns-clause-reach c = λ some d. found c (some-mask c.args.page.now some) d ∙ ap (tops d) (sym (form-slots c.args.page.now (some-form c.args.page.now some)))
