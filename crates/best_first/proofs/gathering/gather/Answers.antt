use Rattle.std.proofs.Common.{◌≡◌, ℕ, ◌+◌, ◌≤◌, ◌<◌, ◌∙◌, ◌++◌, List, [], length, slice_index, ap, sym, subst, arith}
use Rattle.std.specs.List.{AllByRecursion}
use Rattle.rtree_nodes.specs.Pages.{stored_in}
use Rattle.best_first.specs.declared.item.Item.{Item}
use Rattle.best_first.specs.Items.{IsGivenAt}
use Rattle.best_first.specs.Lists.{all_append}
use Rattle.node_filter.specs.Masks.{has_slot}
use Rattle.best_first.specs.Cuts.{kept_of}
use Rattle.best_first.specs.NodeOpenings.{marked_by, given_at, spread, IsIn, listed_item}
use Rattle.best_first.proofs.Cutting.{kept-parts}
use Rattle.best_first.proofs.Spreads.{spread-none, spread-more, few-more, all-listed}
use Rattle.best_first.proofs.gathering.gather.Goals as goal

pub loop-at-init : goal.loop-at-init
loop-at-init c =
    let e : c.in-Ok.items.items ≡ [] = c.in-Ok.ensures.items in
    record {
      given = e ∙ ap (kept_of c.args.most) (sym (spread-none (λ i. given_at (marked_by c.args.from.now c.args.ask.now c.args.level (has_slot c.args.marks.now.slots i) (slice_index c.args.marks.now.texts i)) (stored_in c.args.page.now i))));
      few = let n = ap length e in omega arith;
      levels = subst (AllByRecursion (IsGivenAt c.args.level)) (sym e) tt;
      stand = subst (AllByRecursion (IsIn (stored_in c.args.page.now))) (sym e) tt;
    }

pub loop-at-preserved : goal.loop-at-preserved
loop-at-preserved c =
    let h = c.loop-at.invariant in
    let at : ℕ = c.loop-at.at in
    let l : at < 32 = omega arith in
    let front : List Item = c.loop-at.items.items in
    let item = c.in-Ok-slot_item.item in
    let e : c.push_item.new.items.items ≡ front ++ listed_item item = c.in-Ok-push_item.ensures.items in
    record {
      given =
          let F : ℕ → List Item = λ i. given_at (marked_by c.args.from.now c.args.ask.now c.args.level (has_slot c.args.marks.now.slots i) (slice_index c.args.marks.now.texts i)) (stored_in c.args.page.now i) in
          e ∙ ap (λ (xs : List Item). xs ++ listed_item item) h.given ∙ ap (λ (xs : List Item). kept_of c.args.most (spread at F) ++ xs) c.in-Ok-slot_item.ensures.given ∙ sym (kept-parts c.args.most (spread at F) (F at)) ∙ ap (kept_of c.args.most) (sym (spread-more at F));
      few = subst (λ (xs : List Item). length xs ≤ at + 1) (sym e) (few-more at front item h.few);
      levels = subst (AllByRecursion (IsGivenAt c.args.level)) (sym e) (all_append (IsGivenAt c.args.level) front (listed_item item) h.levels (all-listed (IsGivenAt c.args.level) item c.in-Ok-slot_item.ensures.level));
      stand = subst (AllByRecursion (IsIn (stored_in c.args.page.now))) (sym e) (all_append (IsIn (stored_in c.args.page.now)) front (listed_item item) h.stand (all-listed (IsIn (stored_in c.args.page.now)) item c.in-Ok-slot_item.ensures.stands));
    }

pub returns-clause-given : goal.returns-clause-given
returns-clause-given c =
    let F : ℕ → List Item = λ i. given_at (marked_by c.args.from.now c.args.ask.now c.args.level (has_slot c.args.marks.now.slots i) (slice_index c.args.marks.now.texts i)) (stored_in c.args.page.now i) in
    let e : c.loop-at.at ≡ 32 = omega arith in
    c.loop-at.invariant.given ∙ ap (λ (n : ℕ). kept_of c.args.most (spread n F)) e
