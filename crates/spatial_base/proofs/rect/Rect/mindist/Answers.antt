use Rattle.std.proofs.Common.{◌≡◌, ℕ, arith, ap, ◌∙◌, rules, w32}
use mir.Val.{SFits}
use Rattle.std.proofs.lemmas.Int.{ints, clamps, to_z-of_z}
use Rattle.spatial_base.specs.Point.{IsOnMap, seen_from, gap, line_of}
use Rattle.spatial_base.specs.Rect.{IsRect, longitude_gap_to, clamped, mindist_of}
use Rattle.spatial_base.specs.Laws.{held-on-map, mindist-below, mindist-inside, mindist-reached}
use Rattle.spatial_base.proofs.rect.Rect.mindist.Goals as goal
use Rattle.spatial_base.proofs.rect.Rect.mindist.Goals.{After-line}

pub line-requires-clause-north : goal.line-requires-clause-north
line-requires-clause-north c = omega (arith, ints, clamps)

is_least : (c : After-line) → c.line.result ≡ mindist_of c.args.self.now (seen_from c.args.p.now c.args.scale)
is_least c =
    let w : SFits w32 c.self.inside.west = search rules in
    let e : SFits w32 c.self.inside.east = search rules in
    let u : SFits w32 c.self.inside.south = search rules in
    let n : SFits w32 c.self.inside.north = search rules in
    let x : SFits w32 c.x.result = search rules in
    let y : SFits w32 c.y.result = search rules in
    let across : c.east_gap_to.result ≡ longitude_gap_to c.self.inside.west c.self.inside.east c.x.result = simp to_z-of_z at c.east_gap_to.ensures.value in
    let along : c.outside.result ≡ gap c.y.result (clamped c.self.inside.south c.self.inside.north c.y.result) = simp to_z-of_z at c.outside.ensures in
    rw (← c.self.view_is, ← c.x.ensures.value, ← c.y.ensures.value)
    (c.line.ensures.value ∙ ap (λ (n : ℕ). line_of c.args.scale n c.outside.result) across ∙ ap (λ (n : ℕ). line_of c.args.scale (longitude_gap_to c.self.inside.west c.self.inside.east c.x.result) n) along)

is_rect : (c : After-line) → IsRect c.args.self.now.west c.args.self.now.south c.args.self.now.east c.args.self.now.north
is_rect c = rw (← c.self.view_is) c.self.invariant

on_map : (c : After-line) → IsOnMap c.args.p.now.x c.args.p.now.y
on_map c = (rw (← c.x.ensures.value) c.x.ensures.within, rw (← c.y.ensures.value) c.y.ensures.within)

pub returns-clause-value : goal.returns-clause-value
returns-clause-value c = is_least c

pub returns-clause-inside : goal.returns-clause-inside
returns-clause-inside c = λ h. is_least c ∙ mindist-inside c.args.self.now (seen_from c.args.p.now c.args.scale) h

pub returns-clause-below : goal.returns-clause-below
returns-clause-below c = λ q h. rw (is_least c) (mindist-below c.args.self.now (seen_from c.args.p.now c.args.scale) q (on_map c, c.requires) (held-on-map c.args.self.now q (is_rect c) h) h)

pub returns-clause-reached : goal.returns-clause-reached
returns-clause-reached c = rw (is_least c) (mindist-reached c.args.self.now (seen_from c.args.p.now c.args.scale) (is_rect c))
