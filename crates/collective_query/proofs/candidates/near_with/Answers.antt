use Rattle.std.proofs.Common.{◌∙◌, ℕ, List, map, refl, sym, ap, subst}
use Rattle.page_face.specs.FreeList.{PageMap}
use Rattle.spatial_base.specs.Point.{Viewpoint, seen_from}
use Rattle.place_values.specs.declared.hit.Hit.{Hit}
use Rattle.collective_query.specs.Opened.{FindsPicks}
use Rattle.collective_query.specs.TreePicks.{pick_from}
use Rattle.collective_query.proofs.Opened.{range-finds}
use Rattle.collective_query.proofs.candidates.near_with.Goals as goal

pub returns-in-Ok-picks_from-clause-opened : goal.returns-in-Ok-picks_from-clause-opened
returns-in-Ok-picks_from-clause-opened g c = λ fits words among.
    let P = g.P.Pages in
    let pages : PageMap = P.pages c.args.pages.now in
    let tree = c.args.tree.now in
    let ids = c.args.ids.now in
    let at = c.args.at.now in
    let from : Viewpoint = seen_from c.point-point.result c.scale-scale.result in
    let word : List ℕ = c.args.word.now in
    let old : List ℕ = P.asked c.args.pages.now in
    let new : List ℕ = P.asked c.range.new.pages in
    let hits : List Hit = c.in-Ok.hits.items in
    subst (FindsPicks pages tree ids at words old new) (sym (c.in-Ok-picks_from.ensures.picks ∙ ap (map (pick_from at word)) c.deref.ensures.value))
    (range-finds pages (P.count c.args.pages.now) (P.first c.args.pages.now) tree ids at from words word among fits old new hits c.args.radius _ refl c.range.ensures.empty (c.in-Ok.ensures.opened fits.2))
