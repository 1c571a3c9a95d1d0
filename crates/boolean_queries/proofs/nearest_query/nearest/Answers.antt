use Rattle.std.proofs.Common.{◌≡◌, ℕ, ◌∙◌, Vec, Global, Option, Some, None, refl, sym, ap, subst}
use Rattle.std.specs.Borrow.{Bor}
use Rattle.std.specs.Prelude.{IfOk}
use Rattle.std.specs.List.{flat_map}
use Rattle.page_face.specs.FreeList.{PageMap}
use Rattle.spatial_base.specs.Point.{Viewpoint, seen_from}
use Rattle.place_values.specs.First.{first}
use Rattle.place_values.specs.declared.hit.Hit.{Hit}
use Rattle.place_values.specs.declared.query.Expr.{Expr}
use Rattle.place_values.specs.Hit.{comes_before}
use Rattle.node_rows.specs.declared.roots.Tree.{Tree}
use Rattle.node_rows.specs.Rows.{bytes_in}
use Rattle.best_first.specs.Openings.{Opened}
use Rattle.node_filter.specs.Numbers.{Numbers}
use Rattle.node_filter.specs.Entries.{tree_places}
use Rattle.node_filter.specs.Hits.{near_item}
use Rattle.best_first.specs.declared.ask.Ask.{Ask}
use Rattle.best_first.specs.declared.ask.Ask.TheVariants.{Nearest}
use Rattle.best_first.specs.Asks.{filter_of}
use Rattle.best_first.specs.Fits.{FitsTree, nodes_at}
use Rattle.best_first.specs.Harms.{IsNodePage}
use Rattle.best_first.specs.NodeOpenings.{StandsIn, opened_in, started_in}
use Rattle.best_first.specs.Laws.{near-first}
use Rattle.best_first.proofs.Outcomes.{ok-weaker}
use Rattle.boolean_queries.specs.Opens.{filter_in}
use Rattle.boolean_queries.proofs.Limited.{same-filter}
use Rattle.boolean_queries.proofs.nearest_query.nearest.Goals as goal

pub returns-clause-found : goal.returns-clause-found
returns-clause-found g c = λ fits.
    let p : PageMap = g.P.Pages.pages c.args.pages.now in
    let n : ℕ = g.P.Pages.count c.args.pages.now in
    let b : ℕ = g.P.Pages.first c.args.pages.now in
    let r = c.nearest-ranking.result in
    let made = c.nearest-ranking.ensures in
    let still : FitsTree p n b r.tree = subst (λ (t : Tree). FitsTree p n b t) (sym made.tree) fits in
    let same = ap (λ (f : Option Expr). first comes_before c.args.k (flat_map (near_item c.args.ids.now (seen_from c.args.at.now c.args.scale) f) (tree_places (nodes_at p c.args.tree.now) c.args.tree.now.root))) (same-filter c.args.filter) in
    ok-weaker _
    (λ (found : Vec Hit Global). found.items ≡ first comes_before c.args.k (flat_map (near_item c.args.ids.now (seen_from c.args.at.now c.args.scale) (filter_in c.args.filter)) (tree_places (nodes_at p c.args.tree.now) c.args.tree.now.root)))
    c.first_k.result
    (λ found e. e ∙ near-first c.args.k p n b r.tree c.args.tree.now r.ids.now c.args.ids.now r.at (seen_from c.args.at.now c.args.scale) c.args.filter r.ask r.on_map still made.tree made.ids made.at made.ask ∙ same)
    (c.first_k.ensures.found still)

pub returns-clause-opened : goal.returns-clause-opened
returns-clause-opened g c = λ told.
    let p : PageMap = g.P.Pages.pages c.args.pages.now in
    let n : ℕ = g.P.Pages.count c.args.pages.now in
    let b : ℕ = g.P.Pages.first c.args.pages.now in
    let r = c.nearest-ranking.result in
    let made = c.nearest-ranking.ensures in
    let So : Tree → Numbers → Viewpoint → Ask → Type 0 = λ t ids at ask. IfOk c.first_k.result (λ found. Opened StandsIn p (IsNodePage p t.rows) (FitsTree p n b t) (opened_in ids at ask (nodes_at p t)) (started_in ids ask (nodes_at p t) (bytes_in p t.rows) t.root) t.root (g.P.Pages.asked c.args.pages.now) (g.P.Pages.asked c.first_k.new.pages) c.args.k found.items) in
    subst (λ (t : Tree). So t c.args.ids.now (seen_from c.args.at.now c.args.scale) (Nearest c.args.filter)) made.tree
    (subst (λ (ids : Numbers). So r.tree ids (seen_from c.args.at.now c.args.scale) (Nearest c.args.filter)) made.ids
    (subst (λ (at : Viewpoint). So r.tree r.ids.now at (Nearest c.args.filter)) made.at
    (subst (λ (ask : Ask). So r.tree r.ids.now r.at ask) made.ask
    (c.first_k.ensures.opened told))))
