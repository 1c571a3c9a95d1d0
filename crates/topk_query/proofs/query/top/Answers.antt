use Rattle.std.proofs.Common.{◌≡◌, ℕ, ◌∙◌, Vec, Global, sym, subst}
use Rattle.std.specs.List.{flat_map}
use Rattle.std.specs.Prelude.{IfOk}
use Rattle.page_face.specs.FreeList.{PageMap}
use Rattle.spatial_base.specs.Point.{Viewpoint, seen_from}
use Rattle.place_values.specs.First.{first}
use Rattle.place_values.specs.declared.hit.Hit.{Hit}
use Rattle.place_values.specs.Hit.{comes_before}
use Rattle.node_rows.specs.declared.roots.Tree.{Tree}
use Rattle.node_rows.specs.Rows.{bytes_in}
use Rattle.best_first.specs.Openings.{Opened}
use Rattle.node_filter.specs.Numbers.{Numbers}
use Rattle.node_filter.specs.Entries.{tree_places}
use Rattle.node_filter.specs.Hits.{top_item}
use Rattle.best_first.specs.declared.ask.Ask.{Ask}
use Rattle.best_first.specs.Asks.{IsTopFor}
use Rattle.best_first.specs.Fits.{FitsTree, nodes_at}
use Rattle.best_first.specs.Harms.{IsNodePage}
use Rattle.best_first.specs.NodeOpenings.{StandsIn, opened_in, started_in}
use Rattle.best_first.specs.Laws.{top-first}
use Rattle.best_first.proofs.Outcomes.{ok-weaker}
use Rattle.topk_query.proofs.query.top.Goals as goal

pub returns-clause-found : goal.returns-clause-found
returns-clause-found g c = λ fits.
    let p : PageMap = g.P.Pages.pages c.args.pages.now in
    let n : ℕ = g.P.Pages.count c.args.pages.now in
    let b : ℕ = g.P.Pages.first c.args.pages.now in
    let r = c.top-ranking.result in
    let made = c.top-ranking.ensures in
    let still : FitsTree p n b r.tree = subst (λ (t : Tree). FitsTree p n b t) (sym made.tree) fits in
    ok-weaker _
    (λ (found : Vec Hit Global). found.items ≡ first comes_before c.args.k (flat_map (top_item c.args.ids.now (seen_from c.args.at.now c.args.scale) c.args.alpha c.args.reach c.args.words.now) (tree_places (nodes_at p c.args.tree.now) c.args.tree.now.root)))
    c.first_k.result
    (λ found e. e ∙ top-first c.args.k p n b r.tree c.args.tree.now r.ids.now c.args.ids.now r.at (seen_from c.args.at.now c.args.scale) c.args.alpha c.args.reach c.args.words.now r.ask r.on_map still made.tree made.ids made.at made.ask)
    (c.first_k.ensures.found still)

pub returns-clause-opened : goal.returns-clause-opened
returns-clause-opened g c = λ told.
    let p : PageMap = g.P.Pages.pages c.args.pages.now in
    let n : ℕ = g.P.Pages.count c.args.pages.now in
    let b : ℕ = g.P.Pages.first c.args.pages.now in
    let r = c.top-ranking.result in
    let made = c.top-ranking.ensures in
    let Of : Tree → Numbers → Viewpoint → Ask → Vec Hit Global → Type 0 = λ t ids at ask found. Opened StandsIn p (IsNodePage p t.rows) (FitsTree p n b t) (opened_in ids at ask (nodes_at p t)) (started_in ids ask (nodes_at p t) (bytes_in p t.rows) t.root) t.root (g.P.Pages.asked c.args.pages.now) (g.P.Pages.asked c.first_k.new.pages) c.args.k found.items in
    let same : IfOk c.first_k.result (Of c.args.tree.now c.args.ids.now (seen_from c.args.at.now c.args.scale) r.ask) =
    subst (λ (t : Tree). IfOk c.first_k.result (Of t c.args.ids.now (seen_from c.args.at.now c.args.scale) r.ask)) made.tree
    (subst (λ (ids : Numbers). IfOk c.first_k.result (Of r.tree ids (seen_from c.args.at.now c.args.scale) r.ask)) made.ids
    (subst (λ (at : Viewpoint). IfOk c.first_k.result (Of r.tree r.ids.now at r.ask)) made.at
    (c.first_k.ensures.opened told))) in
    ok-weaker (Of c.args.tree.now c.args.ids.now (seen_from c.args.at.now c.args.scale) r.ask)
    (λ (found : Vec Hit Global). (ask : Ask) × IsTopFor c.args.alpha c.args.reach c.args.words.now ask × Of c.args.tree.now c.args.ids.now (seen_from c.args.at.now c.args.scale) ask found)
    c.first_k.result (λ found o. (r.ask, made.ask, o)) same
