use Rattle.std.proofs.Common.{◌≡◌, ℕ, suc, ◌+◌, ◌*◌, ◌-◌, ◌<◌, Some, rules, arith, refl, sym, ap, subst, ◌∙◌}
use Rattle.rtree_nodes.specs.Reach.{child_item}
use Rattle.rtree_nodes.specs.Pages.{stored_in}
use Rattle.rtree_nodes.proofs.Children.{rect_from}
use Rattle.best_first.specs.declared.item.Item.TheVariants.{Node}
use Rattle.best_first.specs.Items.{IsGivenAt}
use Rattle.best_first.proofs.Marked.{child-whole, child-given}
use Rattle.best_first.proofs.gathering.child_in.Goals as goal

pub returns-in-Some : goal.returns-in-Some
returns-in-Some c =
    let page = c.args.page.now in
    let at : ℕ = c.args.at in
    let level : ℕ = c.args.level in
    let none = c.if-level-eq0.false in
    let inner : 0 < level = omega arith in
    let lower : level ≡ suc (level - 1) = omega arith in
    let here : c.in-Some.rect ≡ rect_from page (16 + 20 * at) = search rules in
    let whole : stored_in page at ≡ Some (child_item c.in-Some.rect c.child_at-child.result) = child-whole c.args.from.now c.args.ask.now page at level c.in-Some.rect c.child_at-child.result c.requires.at (sym c.is_used.ensures ∙ c.if-not-is_used.false) c.requires.level inner here c.child_at-child.ensures.number in
    record {
      given = child-given c.args.from.now c.args.ask.now level (level - 1) c.args.text c.in-Some.rect c.child_at-child.result c.bound_at.result (stored_in page at) lower whole c.bound_at.ensures;
      level = subst (λ (n : ℕ). IsGivenAt n (Node c.child_at-child.result (level - 1) c.bound_at.result)) (sym lower) refl;
      stands = (at, c.requires.at, record { item = child_item c.in-Some.rect c.child_at-child.result; is = whole; to_is = refl });
    }
