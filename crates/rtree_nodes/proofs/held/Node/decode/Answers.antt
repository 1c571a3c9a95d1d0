use Rattle.std.proofs.Common.{◌≡◌, ℕ, true, ap, sym, ◌∙◌}
use Rattle.std.proofs.lemmas.Bool.{true_from_ne_false, false≢true}
use Rattle.rtree_nodes.specs.Pages.{level_in, stored_in, is_form, has_values}
use Rattle.rtree_nodes.specs.Nodes.{view_of}
use Rattle.rtree_nodes.proofs.Formed.{form-node}
use Rattle.rtree_nodes.proofs.Coded.{kept-form, holds-items, items_to}
use Rattle.rtree_nodes.proofs.held.Node.decode.Goals as goal

pub returns-clause-form : goal.returns-clause-form
returns-clause-form c = kept-form c.args.page.now c.told-page c.in_ok-level.ensures.2 (sym c.has_clear_spares.ensures ∙ c.if-not-has_clear_spares.false)
    (true_from_ne_false (has_values c.args.page.now) (λ f. false≢true (c.in_ok-slots.ensures.value.1 f)))

pub returns-clause-node : goal.returns-clause-node
unfolding view_of
returns-clause-node c =
    let level : c.in_ok-level.field-0.level ≡ level_in c.args.page.now = c.in_ok-level.ensures.0 in
    let items : items_to 32 c.in_ok-level.field-0.used c.in_ok-slots.slots ≡ stored_in c.args.page.now =
    ap (λ (n : ℕ). items_to 32 n c.in_ok-slots.slots) c.in_ok-level.ensures.1 ∙ holds-items c.args.page.now c.in_ok-slots.slots c.in_ok-slots.ensures.slots in
    let form : is_form c.args.page.now ≡ true = kept-form c.args.page.now c.told-page c.in_ok-level.ensures.2 (sym c.has_clear_spares.ensures ∙ c.if-not-has_clear_spares.false)
    (true_from_ne_false (has_values c.args.page.now) (λ f. false≢true (c.in_ok-slots.ensures.value.1 f))) in
    (λ i. record { level = level i; slots = items i }) ∙ sym (form-node c.args.page.now form)
