use Rattle.std.proofs.Common.{arith, ◌≡◌, ℕ, List, ◌∙◌, refl, sym, ap, Some}
use Rattle.page_face.specs.Number.{number}
use Rattle.page_face.specs.Nodes.{count_of}
use Rattle.btree_nodes.proofs.Finds.{found, missed, place_as}
use Rattle.paged_map.proofs.finding.row_at.Goals as goal

pub returns-then-here-eq0-clause-found : goal.returns-then-here-eq0-clause-found
returns-then-here-eq0-clause-found c = λ low high within from to.
    let e : c.args.leaf.count ≡ count_of c.args.page.now = c.requires.count in
    missed c.args.form c.args.page.now low high (number c.args.key.now) c.spot_of-here.result.at
    (place_as refl e refl c.spot_of-here.ensures.place) within from to
    (λ small same. c.spot_of-here.ensures.none (λ one. absurd (omega arith)) (omega (arith, e, small)) same)

pub returns-clause-found : goal.returns-clause-found
returns-clause-found c = λ low high within from to.
    let e : c.args.leaf.count ≡ count_of c.args.page.now = c.requires.count in
    let s = c.spot_of-here.ensures.some (omega arith) in
    found c.args.form c.args.page.now low high (number c.args.key.now) c.spot_of-here.result.at
    (place_as refl e refl c.spot_of-here.ensures.place) within from to (omega (arith, e, s.0)) s.1
    ∙ ap (λ (v : List ℕ). Some v) (sym c.copy_value.ensures)

pub returns-clause-spot : goal.returns-clause-spot
returns-clause-spot c = λ count low high away shown.
    let s = c.spot_of-here.ensures.some (omega arith) in
    record { least = c.args.leaf.least; low = low; high = high; sound = shown.sound; within = shown.within; from = shown.from; to = shown.to; counted = away; fits = c.requires.fits; small = s.0; is = c.requires.count; place = c.spot_of-here.ensures.place; same = s.1 }
