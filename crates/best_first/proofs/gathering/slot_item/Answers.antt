use Rattle.std.proofs.Common.{◌≡◌, ◌∙◌, Bool, true, false, Option, Some, slice_index, ap, sym, refl}
use Rattle.std.specs.Prelude.{option_map}
use Rattle.rtree_nodes.specs.Slots as shape
use Rattle.rtree_nodes.specs.Reach.{item_of}
use Rattle.rtree_nodes.specs.Pages.{stored_in}
use Rattle.rtree_nodes.proofs.Rounds.{value-broken}
use Rattle.node_filter.specs.Masks.{has_slot}
use Rattle.best_first.specs.declared.item.Item.{Item}
use Rattle.best_first.specs.Items.{IsGivenAt}
use Rattle.best_first.specs.Cuts.{kept_of}
use Rattle.best_first.specs.NodeOpenings.{marked_by, given_at, IsIn}
use Rattle.best_first.proofs.Marked.{unmarked}
use Rattle.best_first.proofs.Cutting.{kept-alone, some-same}
use Rattle.best_first.proofs.gathering.slot_item.Goals as goal

pub returns-then-not-is_marked-clause-given : goal.returns-then-not-is_marked-clause-given
returns-then-not-is_marked-clause-given c =
    let from = c.args.from.now in
    let ask = c.args.ask.now in
    let off : has_slot c.args.marks.now.slots c.args.at ≡ false = sym c.is_marked.ensures ∙ c.if-not-is_marked.true in
    let text = slice_index c.args.marks.now.texts c.args.at in
    let o : Option shape.Item = stored_in c.args.page.now c.args.at in
    sym (ap (λ (b : Bool). kept_of c.args.most (given_at (marked_by from ask c.args.level b text) o)) off ∙ ap (kept_of c.args.most) (unmarked from ask c.args.level text o))

pub returns-then-is_far-clause-given : goal.returns-then-is_far-clause-given
returns-then-is_far-clause-given c = sym (c.is_far.ensures c.if-is_far.true c.requires.level (has_slot c.args.marks.now.slots c.args.at))

pub returns-in-Ok-Some-clause-given : goal.returns-in-Ok-Some-clause-given
returns-in-Ok-Some-clause-given c =
    let from = c.args.from.now in
    let ask = c.args.ask.now in
    let level = c.args.level in
    let on : has_slot c.args.marks.now.slots c.args.at ≡ true = sym c.is_marked.ensures ∙ c.if-not-is_marked.false in
    let text = slice_index c.args.marks.now.texts c.args.at in
    let item = c.item_at.result in
    let stored : Some (item_of c.in-Ok-Some.slot) ≡ stored_in c.args.page.now c.args.at = sym (ap (option_map item_of) c.in-Ok-Some.field-0-is) ∙ c.in-Ok-Some.ensures.stored in
    c.kept-in-Ok-Some.ensures.kept
    ∙ sym (kept-alone c.args.most item)
    ∙ ap (kept_of c.args.most) (sym c.item_at.ensures.item)
    ∙ ap (λ (b : Bool). kept_of c.args.most (marked_by from ask level b text (item_of c.in-Ok-Some.slot))) (sym on)
    ∙ ap (λ (o : Option shape.Item). kept_of c.args.most (given_at (marked_by from ask level (has_slot c.args.marks.now.slots c.args.at) text) o)) stored

pub returns-in-Ok-Some-clause-level : goal.returns-in-Ok-Some-clause-level
returns-in-Ok-Some-clause-level c = some-same (IsGivenAt c.args.level) c.item_at.result c.kept-in-Ok-Some.result c.kept-in-Ok-Some.ensures.same c.item_at.ensures.level

pub returns-in-Ok-Some-clause-stands : goal.returns-in-Ok-Some-clause-stands
returns-in-Ok-Some-clause-stands c = some-same (IsIn (stored_in c.args.page.now)) c.item_at.result c.kept-in-Ok-Some.result c.kept-in-Ok-Some.ensures.same
    (c.item_at.ensures.stands (stored_in c.args.page.now) c.args.at c.requires.at
    (sym c.in-Ok-Some.ensures.stored ∙ ap (option_map item_of) c.in-Ok-Some.field-0-is))

pub returns-in-Err-clause-breaks : goal.returns-in-Err-clause-breaks
returns-in-Err-clause-breaks c = (c.in-Err.ensures.rule, value-broken c.args.page.now c.args.at c.requires.at (c.in-Err.ensures.value.0 refl))
