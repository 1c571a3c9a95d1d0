use Rattle.std.proofs.Common.{◌≡◌, ⊎_elim, ℕ, ℤ, ◌<◌, ◌≤◌, List, [], Option, Vec, Global, sym, ap, subst, ◌∙◌, arith, unsigned_abs}
use Rattle.std.specs.List.{flat_map}
use Rattle.std.specs.Prelude.{IfOk}
use Rattle.std.proofs.lemmas.Result.{IfOk-weaker}
use Rattle.spatial_base.specs.Point.{seen_from}
use Rattle.page_face.specs.FreeList.{PageMap}
use Rattle.place_values.specs.declared.hit.Hit.{Hit}
use Rattle.place_values.specs.declared.query.Expr.{Expr}
use Rattle.place_values.specs.declared.query.Query.{Query}
use Rattle.place_values.specs.declared.query.Query.TheVariants.{Range, Inside, Nearest, Top, Rare, Group, Gather}
use Rattle.place_values.specs.Query.{IsWithinLimits}
use Rattle.place_values.specs.Top.{Weighted}
use Rattle.boolean_queries.specs.Opens.{filter_in}
use Rattle.boolean_queries.proofs.Searches.{nearest-few, top-few}
use Rattle.boolean_queries.proofs.OpenedWalks.{range-few, inside-few}
use Rattle.query_execution.specs.Opened.{FewOpened, IsRowsPage}
use Rattle.query_execution.proofs.Opened.{ok-both, lent-filter}
use Rattle.rtree_nodes.specs.Pages.{node_of}
use Rattle.irtree_shape.specs.Made.{nodes_in}
use Rattle.node_filter.specs.Entries.{tree_places}
use Rattle.query_execution.specs.Answers.{cut_by, hits_by}
use Rattle.query_execution.proofs.Members.{no-hits}
use Rattle.query_execution.proofs.answering.tree_hits.Goals as goal

pub returns-in-Rare-clause-found : goal.returns-in-Rare-clause-found
returns-in-Rare-clause-found g c = λ free whole told.
    let ids = c.args.ids.now in
    let entries = tree_places (nodes_in node_of (g.P.Pages.pages c.args.pages.now) c.args.tree.now.rows) c.args.tree.now.root in
    let back : (q : Query) → cut_by q (flat_map (hits_by ids q) entries) ≡ [] → c.args.query.now ≡ q → c.new.result.items ≡ cut_by c.args.query.now (flat_map (hits_by ids c.args.query.now) entries) =
    λ q none is. subst (λ (p : Query). c.new.result.items ≡ cut_by p (flat_map (hits_by ids p) entries)) (sym is) (c.new.ensures.items ∙ sym none) in
    ⊎_elim
    (λ rare. back (Rare rare.0 rare.1 rare.2 rare.3 rare.4 rare.5) (no-hits entries) rare.6)
    (λ other. ⊎_elim
    (λ group. back (Group group.0 group.1 group.2) (no-hits entries) group.3)
    (λ gather. back (Gather gather.0 gather.1 gather.2) (no-hits entries) gather.3)
    other)
    c.in-Rare.is

pub returns-in-Range-clause-opened : goal.returns-in-Range-clause-opened
returns-in-Range-clause-opened g c = λ free whole told.
    let P = g.P.Pages in
    let pages : PageMap = P.pages c.args.pages.now in
    let tree = c.args.tree.now in
    let ids = c.args.ids.now in
    let old : List ℕ = P.asked c.args.pages.now in
    let new : List ℕ = P.asked c.range.new.pages in
    let r = c.in-Range in
    let lent : Option Expr = filter_in c.as_ref.result in
    let same : lent ≡ r.filter = lent-filter c.as_ref.result ∙ c.as_ref.ensures.value in
    let Few : Query → Vec Hit Global → Type 0 = λ q found. FewOpened (IsRowsPage pages tree) pages tree ids q old new found.items in
    subst (λ (q : Query). IfOk c.range.result (Few q)) (ap (λ (f : Option Expr). Range r.at r.scale r.radius f) same ∙ sym r.is)
    (IfOk-weaker c.range.result _ (Few (Range r.at r.scale r.radius lent))
    (λ found walked. range-few pages tree.rows (P.count c.args.pages.now) (P.first c.args.pages.now) tree.root ids lent (free, whole) found.items old new c.range.ensures.empty (seen_from r.at r.scale) r.radius walked)
    (c.range.ensures.opened told))

pub returns-in-Inside-clause-opened : goal.returns-in-Inside-clause-opened
returns-in-Inside-clause-opened g c = λ free whole told.
    let P = g.P.Pages in
    let pages : PageMap = P.pages c.args.pages.now in
    let tree = c.args.tree.now in
    let ids = c.args.ids.now in
    let old : List ℕ = P.asked c.args.pages.now in
    let new : List ℕ = P.asked c.inside.new.pages in
    let r = c.in-Inside in
    let lent : Option Expr = filter_in c.as_ref-in-Inside.result in
    let same : lent ≡ r.filter = lent-filter c.as_ref-in-Inside.result ∙ c.as_ref-in-Inside.ensures.value in
    let Few : Query → Vec Hit Global → Type 0 = λ q found. FewOpened (IsRowsPage pages tree) pages tree ids q old new found.items in
    subst (λ (q : Query). IfOk c.inside.result (Few q)) (ap (λ (f : Option Expr). Inside r.rect f) same ∙ sym r.is)
    (IfOk-weaker c.inside.result _ (Few (Inside r.rect lent))
    (λ found walked. inside-few pages tree.rows (P.count c.args.pages.now) (P.first c.args.pages.now) tree.root ids lent (free, whole) found.items old new c.inside.ensures.empty r.rect walked)
    (c.inside.ensures.opened told))

pub returns-in-Nearest-clause-opened : goal.returns-in-Nearest-clause-opened
returns-in-Nearest-clause-opened g c = λ free whole told.
    let P = g.P.Pages in
    let pages : PageMap = P.pages c.args.pages.now in
    let tree = c.args.tree.now in
    let ids = c.args.ids.now in
    let old : List ℕ = P.asked c.args.pages.now in
    let new : List ℕ = P.asked c.nearest.new.pages in
    let r = c.in-Nearest in
    let lent : Option Expr = filter_in c.as_ref-in-Nearest.result in
    let same : lent ≡ r.filter = lent-filter c.as_ref-in-Nearest.result ∙ c.as_ref-in-Nearest.ensures.value in
    let x : unsigned_abs r.at.x ≤ 1800000000 = subst (λ (z : ℤ). unsigned_abs z ≤ 1800000000) c.x-x.ensures.value c.x-x.ensures.within in
    let y : unsigned_abs r.at.y ≤ 900000000 = subst (λ (z : ℤ). unsigned_abs z ≤ 900000000) c.y-y.ensures.value c.y-y.ensures.within in
    let limits : IsWithinLimits (Nearest r.at r.scale r.k r.filter) = subst IsWithinLimits r.is c.requires in
    let some : 0 < r.k = let one = limits.1.some in omega arith in
    let Few : Query → Vec Hit Global → Type 0 = λ q found. FewOpened (IsRowsPage pages tree) pages tree ids q old new found.items in
    subst (λ (q : Query). IfOk c.nearest.result (Few q)) (ap (λ (f : Option Expr). Nearest r.at r.scale r.k f) same ∙ sym r.is)
    (ok-both c.nearest.result _ _ (Few (Nearest r.at r.scale r.k lent))
    (λ found is opened. nearest-few pages (P.count c.args.pages.now) (P.first c.args.pages.now) tree ids (seen_from r.at r.scale) r.k found.items old new c.as_ref-in-Nearest.result ((x, y), limits.0) (free, whole, told) some is opened)
    (c.nearest.ensures.found (free, whole, told)) (c.nearest.ensures.opened told))

pub returns-in-Top-clause-opened : goal.returns-in-Top-clause-opened
returns-in-Top-clause-opened g c = λ free whole told.
    let P = g.P.Pages in
    let pages : PageMap = P.pages c.args.pages.now in
    let tree = c.args.tree.now in
    let ids = c.args.ids.now in
    let old : List ℕ = P.asked c.args.pages.now in
    let new : List ℕ = P.asked c.top.new.pages in
    let r = c.in-Top in
    let words = c.as_slice.result.now in
    let x : unsigned_abs r.at.x ≤ 1800000000 = subst (λ (z : ℤ). unsigned_abs z ≤ 1800000000) c.x-x-in-Top.ensures.value c.x-x-in-Top.ensures.within in
    let y : unsigned_abs r.at.y ≤ 900000000 = subst (λ (z : ℤ). unsigned_abs z ≤ 900000000) c.y-y-in-Top.ensures.value c.y-y-in-Top.ensures.within in
    let limits : IsWithinLimits (Top r.at r.scale r.k r.alpha r.reach r.words) = subst IsWithinLimits r.is c.requires in
    let some : 0 < r.k = let one = limits.1.some in omega arith in
    let Few : Query → Vec Hit Global → Type 0 = λ q found. FewOpened (IsRowsPage pages tree) pages tree ids q old new found.items in
    subst (λ (q : Query). IfOk c.top.result (Few q)) (ap (λ (w : Weighted). Top r.at r.scale r.k r.alpha r.reach w) c.as_slice.ensures ∙ sym r.is)
    (ok-both c.top.result _ _ (Few (Top r.at r.scale r.k r.alpha r.reach words))
    (λ found is opened. top-few pages (P.count c.args.pages.now) (P.first c.args.pages.now) tree ids (seen_from r.at r.scale) r.k found.items old new r.alpha r.reach words opened.0 opened.1 ((x, y), limits.0) (free, whole, told) some is opened.2)
    (c.top.ensures.found (free, whole, told)) (c.top.ensures.opened told))
