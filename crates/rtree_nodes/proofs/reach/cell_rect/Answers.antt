use Rattle.std.proofs.Common.{◌≡◌, ◌↔◌, ◌<◌, Bool, true, sym, subst, ap, ◌∙◌, arith, refl, is_some}
use Rattle.std.specs.Prelude.{IfSome, IsSome}
use Rattle.std.proofs.lemmas.Bool.{false≢true}
use Rattle.spatial_base.specs.Rect.{Bounds, rect_of}
use Rattle.rtree_nodes.specs.Pages.{level_in}
use Rattle.rtree_nodes.proofs.Children.{leaf-has-rect, leaf-rect, inner-has-rect, inner-rect-is}
use Rattle.rtree_nodes.proofs.reach.cell_rect.Goals as goal

pub returns-in_err-point-clause-some : goal.returns-in_err-point-clause-some
returns-in_err-point-clause-some c =
    let z : level_in c.args.page.now ≡ 0 = omega (arith, c.level_of.ensures) in (
      λ some. absurd (false≢true (sym (ap is_some c.from_residual.ensures) ∙ some)),
      λ yes. absurd (false≢true (c.in_err-point.ensures.some.1 (sym (leaf-has-rect c.args.page.now c.args.at z) ∙ yes))),
    )

pub returns-in_ok-point-clause-some : goal.returns-in_ok-point-clause-some
returns-in_ok-point-clause-some c =
    let z : level_in c.args.page.now ≡ 0 = omega (arith, c.level_of.ensures) in
    (λ some. leaf-has-rect c.args.page.now c.args.at z ∙ c.in_ok-point.ensures.some.0 refl, λ yes. refl)

pub returns-in_ok-point-clause-value : goal.returns-in_ok-point-clause-value
returns-in_ok-point-clause-value c =
    let z : level_in c.args.page.now ≡ 0 = omega (arith, c.level_of.ensures) in
    c.of.ensures ∙ ap rect_of c.in_ok-point.ensures.value ∙ sym (leaf-rect c.args.page.now c.args.at z)

pub returns-else-level_of-eq0-clause-some : goal.returns-else-level_of-eq0-clause-some
returns-else-level_of-eq0-clause-some c =
    let some : 0 < level_in c.args.page.now = omega (arith, c.level_of.ensures) in
    subst (λ (b : Bool). IsSome c.rect_at.result ↔ (b ≡ true)) (sym (inner-has-rect c.args.page.now c.args.at some)) c.rect_at.ensures.some

pub returns-else-level_of-eq0-clause-value : goal.returns-else-level_of-eq0-clause-value
returns-else-level_of-eq0-clause-value c =
    let some : 0 < level_in c.args.page.now = omega (arith, c.level_of.ensures) in
    subst (λ (r : Bounds). IfSome c.rect_at.result (λ rect. rect ≡ r)) (sym (inner-rect-is c.args.page.now c.args.at some)) c.rect_at.ensures.value
