use Rattle.std.proofs.Common.{◌≡◌, ◌<◌, ℕ, Bool, Some, arith, sym, ap, ◌∙◌, subst, rules, length, get_or, if◌then◌else◌, ◌==◌}
use Rattle.std.specs.Int.{bit_at}
use Rattle.std.proofs.lemmas.List.{get_or_default}
use Rattle.spatial_base.specs.Rect.{Bounds}
use Rattle.rtree_nodes.specs.Reach.{joined_both, origin_rect}
use Rattle.irtree_insert.specs.Drafts.{IsOutlined}
use Rattle.irtree_insert.proofs.Outlines.{IsRound, round-none, round-more, round-all}
use Rattle.irtree_insert.proofs.outline.outline.Goals as goal

pub loop-i-init : goal.loop-i-init
loop-i-init c = λ s out. round-none s

pub loop-i-preserved : goal.loop-i-preserved
loop-i-preserved c = λ s out.
    let at : ℕ = c.loop-i.i in
    let bit : ℕ = bit_at c.args.used at in
    let within : at < 32 = omega arith in
    let long : at < length c.args.rects.now = search rules in
    let rect : Bounds = get_or c.args.rects.now at c.index-rects-i.result in
    let rect_is : rect ≡ get_or c.args.rects.now at origin_rect = get_or_default c.args.rects.now at _ origin_rect long in
    let counts : c.is_set.result ≡ (bit == 1) = c.is_set.ensures ∙ ap (λ (u : ℕ). bit_at u at == 1) c.from.ensures in
    round-more s at bit rect c.loop-i.bounds c.widened-bounds.result (subst (λ (r : Bounds). IsOutlined bit r (s at)) (sym rect_is) (out at within)) (c.loop-i.invariant s out)
    (c.widened-bounds.ensures ∙ ap (λ (b : Bool). if b then joined_both c.loop-i.bounds (Some rect) else c.loop-i.bounds) counts)

pub returns : goal.returns
returns c = λ s out some.
    let last : c.loop-i.i ≡ 32 = omega arith in
    round-all s c.loop-i.bounds _ c.unwrap_or.result (subst (λ (n : ℕ). IsRound s n c.loop-i.bounds) last (c.loop-i.invariant s out)) some c.unwrap_or.ensures
