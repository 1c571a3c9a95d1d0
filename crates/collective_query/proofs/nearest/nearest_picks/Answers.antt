use Rattle.std.proofs.Common.{◌≡◌, ◌∙◌, ◌≤◌, ℕ, List, map, refl, sym, ap, subst}
use Rattle.page_face.specs.FreeList.{PageMap}
use Rattle.spatial_base.specs.Point.{Position, IsOnMap, Viewpoint, IsViewpoint, seen_from}
use Rattle.place_values.specs.declared.hit.Hit.{Hit}
use Rattle.place_values.specs.declared.query.Expr.TheVariants.{Has}
use Rattle.place_values.specs.First.{first}
use Rattle.place_values.specs.Hit.{comes_before}
use Rattle.rtree_nodes.specs.Slots.{NodeMap}
use Rattle.best_first.specs.Fits.{nodes_at}
use Rattle.collective_query.specs.Opened.{FindsPicks}
use Rattle.collective_query.specs.TreePicks.{pick_from, word_hits}
use Rattle.collective_query.proofs.Opened.{nearest-finds}
use Rattle.collective_query.proofs.nearest.nearest_picks.Goals as goal

pub returns-in-Ok-picks_from-clause-picks : goal.returns-in-Ok-picks_from-clause-picks
returns-in-Ok-picks_from-clause-picks g c = λ fits.
    let tree = c.args.tree.now in
    let word : List ℕ = c.args.word.now in
    let nodes : NodeMap = nodes_at (g.P.Pages.pages c.args.pages.now) tree in
    let centre_is : seen_from c.point-point.result c.scale-scale.result ≡ c.args.centre.now = λ i. seen_from (c.point-point.ensures.value i) (c.scale-scale.ensures.value i) in
    let found = c.in-Ok.ensures.found fits in
    c.in-Ok-picks_from.ensures.picks
    ∙ ap (map (pick_from c.args.at.now word))
    (c.deref.ensures.value ∙ found ∙ ap (λ (from : Viewpoint). first comes_before 5 (word_hits c.args.ids.now from nodes tree.root word)) centre_is)

pub returns-in-Ok-picks_from-clause-opened : goal.returns-in-Ok-picks_from-clause-opened
returns-in-Ok-picks_from-clause-opened g c = λ fits words among.
    let P = g.P.Pages in
    let pages : PageMap = P.pages c.args.pages.now in
    let tree = c.args.tree.now in
    let ids = c.args.ids.now in
    let at = c.args.at.now in
    let word : List ℕ = c.args.word.now in
    let old : List ℕ = P.asked c.args.pages.now in
    let new : List ℕ = P.asked c.nearest.new.pages in
    let hits : List Hit = c.in-Ok.hits.items in
    let from : Viewpoint = seen_from c.point-point.result c.scale-scale.result in
    let on : IsViewpoint from = (
      subst (λ (p : Position). IsOnMap p.x p.y) (sym c.point-point.ensures.value) c.point-point.ensures.valid.0,
      subst (λ (n : ℕ). n ≤ 1000) (sym c.scale-scale.ensures.value) c.scale-scale.ensures.valid.1,
    ) in
    subst (FindsPicks pages tree ids at words old new) (sym (c.in-Ok-picks_from.ensures.picks ∙ ap (map (pick_from at word)) c.deref.ensures.value))
    (nearest-finds pages (P.count c.args.pages.now) (P.first c.args.pages.now) tree ids at from words word among fits old new hits on record { ref_ptr = (0, 0); now = Has word } refl (c.in-Ok.ensures.found fits) (c.in-Ok.ensures.opened fits.2))
