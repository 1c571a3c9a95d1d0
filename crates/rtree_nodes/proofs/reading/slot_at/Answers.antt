use Rattle.std.proofs.Common.{◌≡◌, ℕ, true, false, Some, sym, ap, ◌∙◌}
use Rattle.std.specs.Int.{bit_at}
use Rattle.std.specs.Prelude.{◌==◌}
use Rattle.rtree_nodes.specs.Slots.{Slots}
use Rattle.rtree_nodes.specs.Pages.{is_used}
use Rattle.rtree_nodes.proofs.Formed.{form-slots, form-parts, stored-used, stored-unused}
use Rattle.rtree_nodes.proofs.reading.slot_at.Goals as goal

pub returns-then-not-is_set-clause-stored : goal.returns-then-not-is_set-clause-stored
returns-then-not-is_set-clause-stored c =
    let unused : is_used c.args.page.now c.args.at ≡ false = ap (λ (n : ℕ). bit_at n c.args.at == 1) (sym c.mask_of.ensures) ∙ sym c.is_set.ensures ∙ c.if-not-is_set.true in
    sym (stored-unused c.args.page.now c.args.at unused)

pub returns-then-not-is_set-clause-item : goal.returns-then-not-is_set-clause-item
returns-then-not-is_set-clause-item c = λ form.
    let unused : is_used c.args.page.now c.args.at ≡ false = ap (λ (n : ℕ). bit_at n c.args.at == 1) (sym c.mask_of.ensures) ∙ sym c.is_set.ensures ∙ c.if-not-is_set.true in
    sym (stored-unused c.args.page.now c.args.at unused) ∙ ap (λ (s : Slots). s c.args.at) (sym (form-slots c.args.page.now form))

pub returns-in-Some-clause-stored : goal.returns-in-Some-clause-stored
returns-in-Some-clause-stored c =
    let used : is_used c.args.page.now c.args.at ≡ true = ap (λ (n : ℕ). bit_at n c.args.at == 1) (sym c.mask_of.ensures) ∙ sym c.is_set.ensures ∙ c.if-not-is_set.false in
    ap Some c.in-Some.ensures.item ∙ sym (stored-used c.args.page.now c.args.at c.requires used)

pub returns-in-Some-clause-item : goal.returns-in-Some-clause-item
returns-in-Some-clause-item c = λ form.
    let used : is_used c.args.page.now c.args.at ≡ true = ap (λ (n : ℕ). bit_at n c.args.at == 1) (sym c.mask_of.ensures) ∙ sym c.is_set.ensures ∙ c.if-not-is_set.false in
    ap Some c.in-Some.ensures.item ∙ sym (stored-used c.args.page.now c.args.at c.requires used) ∙ ap (λ (s : Slots). s c.args.at) (sym (form-slots c.args.page.now form))

pub returns-in-None-clause-ok : goal.returns-in-None-clause-ok
returns-in-None-clause-ok c = λ form.
    let used : is_used c.args.page.now c.args.at ≡ true = ap (λ (n : ℕ). bit_at n c.args.at == 1) (sym c.mask_of.ensures) ∙ sym c.is_set.ensures ∙ c.if-not-is_set.false in
    c.in-None.ensures.some.1 ((form-parts c.args.page.now form).values c.args.at c.requires used)
