use Rattle.std.proofs.Common.{◌≡◌, ◌<◌, ◌≤◌, ◌∙◌, ℕ, List, length, Option, Some, ap, sym, subst}
use Rattle.std.specs.Prelude.{IfSome}
use Rattle.std.specs.Borrow.{Bor}
use Rattle.page_face.specs.FreeList.{PageMap}
use Rattle.spatial_base.specs.Point.{Position, IsOnMap, Viewpoint, IsViewpoint, seen_from}
use Rattle.place_values.specs.declared.hit.Hit.{Hit}
use Rattle.place_values.specs.declared.query.Expr.{Expr}
use Rattle.rtree_nodes.specs.Slots.{NodeMap}
use Rattle.node_rows.specs.Rows.{bytes_in}
use Rattle.node_filter.specs.Entries.{tree_places}
use Rattle.node_filter.specs.Filters.{admits, admits_by}
use Rattle.node_filter.specs.Hits.{near_item}
use Rattle.best_first.specs.declared.ask.Ask.TheVariants.{Nearest}
use Rattle.best_first.specs.Cuts.{affordable}
use Rattle.best_first.specs.Fits.{FitsTree, nodes_at}
use Rattle.best_first.specs.Harms.{IsNodePage}
use Rattle.best_first.specs.NodeOpenings.{StandsIn, opened_in, started_in}
use Rattle.best_first.specs.Openings.{Opened}
use Rattle.best_first.proofs.Firsts.{kept_short}
use Rattle.collective_query.specs.Opened.{FindsPicks}
use Rattle.collective_query.specs.TreePicks.{tree_lists}
use Rattle.std.specs.List.{flat_map}
use Rattle.group_sum.specs.Held.{holds_all, head_hit}
use Rattle.group_sum.specs.Shared.{IsNearestShared, shared_in}
use Rattle.group_sum.proofs.SharedHits.{found-shared, found-by}
use Rattle.group_sum.proofs.SharedLogs.{finds-shared}
use Rattle.group_sum.proofs.serving.nearest_with_all.Goals as goal

pub returns-in-Ok-clause-nearest : goal.returns-in-Ok-clause-nearest
returns-in-Ok-clause-nearest g c = λ fits once.
    let tree = c.args.tree.now in
    let ids = c.args.ids.now in
    let at = c.args.at.now in
    let words : List (List ℕ) = c.args.words.now in
    let nodes : NodeMap = nodes_at (g.P.Pages.pages c.args.pages.now) tree in
    let from : Viewpoint = seen_from c.point.result c.scale.result in
    let same : from ≡ at = λ i. seen_from (c.point.ensures.value i) (c.scale.ensures.value i) in
    let found : List Hit = c.in-Ok.found.items in
    let asks : (f : List ℕ → ℕ) → (level : ℕ) → admits level f c.in-Ok-Some.filter ≡ holds_all f words =
    subst (λ (o : Option Expr). (f : List ℕ → ℕ) → (level : ℕ) → admits_by level f o ≡ holds_all f words) c.in-Ok-Some.field-0-is c.in-Ok-Some.ensures.all in
    subst (IsNearestShared at words (tree_lists ids at nodes tree.root words) c.args.limit) (sym (c.first_of.ensures ∙ ap head_hit c.deref.ensures.value))
    (found-shared ids at nodes tree.root once words c.args.limit found (found-by ids from at nodes tree.root words c.args.limit c.in-Ok-Some.filter found same asks (c.in-Ok.ensures.found fits)))

pub returns-in-Ok-clause-opened : goal.returns-in-Ok-clause-opened
returns-in-Ok-clause-opened g c = λ fits all among.
    let P = g.P.Pages in
    let pages : PageMap = P.pages c.args.pages.now in
    let tree = c.args.tree.now in
    let ids = c.args.ids.now in
    let at = c.args.at.now in
    let words : List (List ℕ) = c.args.words.now in
    let old : List ℕ = P.asked c.args.pages.now in
    let new : List ℕ = P.asked c.nearest_within.new.pages in
    let found : List Hit = c.in-Ok.found.items in
    let asks : (f : List ℕ → ℕ) → (level : ℕ) → admits level f c.in-Ok-Some.filter ≡ holds_all f words =
    subst (λ (o : Option Expr). (f : List ℕ → ℕ) → (level : ℕ) → admits_by level f o ≡ holds_all f words) c.in-Ok-Some.field-0-is c.in-Ok-Some.ensures.all in
    let from : Viewpoint = seen_from c.point.result c.scale.result in
    let same : from ≡ at = λ i. seen_from (c.point.ensures.value i) (c.scale.ensures.value i) in
    let on : IsViewpoint from = (
      subst (λ (p : Position). IsOnMap p.x p.y) (sym c.point.ensures.value) c.point.ensures.valid.0,
      subst (λ (n : ℕ). n ≤ 1000) (sym c.scale.ensures.value) c.scale.ensures.valid.1,
    ) in
    let lent : Bor Expr = record { ref_ptr = (0, 0); now = c.in-Ok-Some.filter } in
    let short = kept_short 1 (affordable c.args.limit (flat_map (near_item ids from (Some c.in-Ok-Some.filter)) (tree_places (nodes_at pages tree) tree.root))) found (c.in-Ok.ensures.found fits) in
    let one : FindsPicks pages tree ids from all old new (shared_in from words (head_hit found)) =
    finds-shared pages (P.count c.args.pages.now) (P.first c.args.pages.now) tree ids from words all lent (subst (λ (o : Option Expr). IfSome o (λ condition. 0 < length words)) c.in-Ok-Some.field-0-is c.in-Ok-Some.ensures.some) asks among on fits old new found short (c.in-Ok.ensures.opened fits.2) in
    subst (λ (hit : Option Hit). FindsPicks pages tree ids at all old new (shared_in at words hit)) (sym (c.first_of.ensures ∙ ap head_hit c.deref.ensures.value))
    (subst (λ (v : Viewpoint). FindsPicks pages tree ids v all old new (shared_in v words (head_hit found))) same one)
