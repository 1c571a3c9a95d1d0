use Rattle.std.proofs.Common.{◌≡◌, ◌≤◌, ℤ, ◌∙◌, ap, sym, subst}
use Rattle.std.specs.Prelude.{unsigned_abs}
use Rattle.spatial_base.specs.Key.{Name, form_of}
use Rattle.spatial_base.specs.Point.{Position, distance}
use Rattle.rtree_nodes.specs.Slots.{Item}
use Rattle.rtree_nodes.specs.Reach.{place_item}
use Rattle.node_filter.specs.Entries.{point_of, name_of}
use Rattle.best_first.specs.Asks.{cost_by}
use Rattle.best_first.proofs.Sides.{place-point, place-name}
use Rattle.best_first.proofs.gathering.hit_at.Goals as goal

pub returns-clause-hit : goal.returns-clause-hit
returns-clause-hit c =
    let point : Position = c.args.point.now in
    let key : Name = c.args.key.now in
    let x : Item = place_item point (form_of key) in
    let east : unsigned_abs point.x ≤ 1800000000 = subst (λ (z : ℤ). unsigned_abs z ≤ 1800000000) c.x-x.ensures.value c.x-x.ensures.within in
    let north : unsigned_abs point.y ≤ 900000000 = subst (λ (z : ℤ). unsigned_abs z ≤ 900000000) c.y-y.ensures.value c.y-y.ensures.within in
    let p : point_of x ≡ point = place-point point (form_of key) (east, north) in
    let n : name_of x ≡ key = place-name point key c.bytes-form.ensures.name in
    let d : c.dist-dist.result ≡ distance c.args.from.now (point_of x) = c.dist-dist.ensures.value ∙ ap (distance c.args.from.now) (sym p) in
    let cost : c.cost.result ≡ cost_by c.args.ask.now (distance c.args.from.now (point_of x)) c.args.text = c.cost.ensures ∙ ap (λ k. cost_by c.args.ask.now k c.args.text) d in
    let key_is : key ≡ name_of x = sym n in
    let point_is : point ≡ point_of x = sym p in
    λ i. record { cost = cost i; key = key_is i; dist = d i; text = c.args.text; point = point_is i }
