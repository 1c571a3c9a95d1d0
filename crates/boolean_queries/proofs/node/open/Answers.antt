use Rattle.std.proofs.Common.{Err, ℕ, ◌&&◌, List, [], ◌∷◌, refl, sym, ap, subst, ◌∙◌, inr}
use Rattle.std.proofs.lemmas.Result.{IfOk-weaker}
use Rattle.btree_nodes.proofs.Walks.{same-fault}
use Rattle.std.specs.Prelude.{IfOk, ◌≢◌}
use Rattle.page_face.specs.FreeList.{PageMap}
use Rattle.btree_nodes.specs.Damages.{AreReadable, AskedSince}
use Rattle.btree_nodes.specs.Tree.{IsMap, map_uses}
use Rattle.rtree_nodes.specs.Stock.{rows_form}
use Rattle.rtree_nodes.specs.Pages.{level_in, is_form}
use Rattle.node_rows.specs.Rows.{bytes_in}
use Rattle.best_first.specs.Logs.{asked_sooner, asked_before}
use Rattle.node_filter.specs.Masks.{has_slot, Marks}
use Rattle.node_filter.specs.Numbers.{byte_of}
use Rattle.node_filter.specs.Filters.{admits_by}
use Rattle.boolean_queries.specs.Opens.{filter_in}
use Rattle.boolean_queries.specs.Walked.{AsksFor}
use Rattle.node_rows.specs.Damages.{IsRowsDamage}
use Rattle.boolean_queries.proofs.Results.{ok-always}
use Rattle.best_first.proofs.Queued.{ok_always as on-always}
use Rattle.boolean_queries.proofs.Logs.{contains-none, asks-then, asks-wider, asks-page}
use Rattle.boolean_queries.proofs.Opened.{gives-node, gives-none, kept-children, kept-stand, kept-few, joined-read}
use Rattle.boolean_queries.proofs.Fine.{joined-fine}
use Rattle.boolean_queries.proofs.node.open.Goals as goal

pub returns-in-Err-clause-no_false_damage : goal.returns-in-Err-clause-no_false_damage
returns-in-Err-clause-no_false_damage g c = λ map rows_counted told node counted damage e.
    let d = c.enter_at.ensures.damaged damage (c.in-Err.is ∙ ap Err (same-fault {T = ℕ} _ _ e)) in
    joined-fine damage.rule (g.P.Pages.pages c.args.pages.now) c.args.tree.now.rows (g.P.Pages.count c.args.pages.now) c.args.level c.args.node (λ found. found ≢ c.args.level) node counted (λ at wrong. wrong refl) d.2

pub returns-in-Err-gather-clause-no_false_damage : goal.returns-in-Err-gather-clause-no_false_damage
returns-in-Err-gather-clause-no_false_damage g c = λ map rows_counted told node counted damage e.
    let old : PageMap = g.P.Pages.pages c.args.pages.now in
    let r = joined-read old c.args.tree.now.rows c.args.level c.args.node node in
    let memory = c.in-Err-gather.ensures.ok (ap is_form (c.looked.ensures ∙ c.in-Ok.ensures.gives r.told) ∙ r.form) in
    cc

pub returns-then-slots-eq0-clause-gives : goal.returns-then-slots-eq0-clause-gives
returns-then-slots-eq0-clause-gives g c = λ map node.
    let old : PageMap = g.P.Pages.pages c.args.pages.now in
    let r = joined-read old c.args.tree.now.rows c.args.level c.args.node node in
    gives-none c.args.query.now.region c.args.query.now.ids.now (filter_in c.args.query.now.filter) old c.args.tree.now.rows c.args.node c.args.level c.looked.result.now c.gather.new.near.items
    c.in-Ok-gather.slots c.if-slots-eq0.true (c.looked.ensures ∙ c.in-Ok.ensures.gives r.told) node c.in-Ok-gather.ensures.near c.in-Ok-gather.ensures.slots

pub returns-clause-gives : goal.returns-clause-gives
returns-clause-gives g c = λ map node.
    let old : PageMap = g.P.Pages.pages c.args.pages.now in
    let rows : ℕ = c.args.tree.now.rows in
    let ids = c.args.query.now.ids.now in
    let filter = filter_in c.args.query.now.filter in
    let level : ℕ = c.args.level in
    let page : ℕ = c.args.node in
    let slots : ℕ = c.in-Ok-gather.slots in
    let r = joined-read old rows level page node in
    let marks = subst (λ (x : PageMap). IsMap rows_form x rows → IfOk c.admit.result (λ mask. Marks mask (λ i. has_slot slots i && admits_by level (byte_of ids (bytes_in x rows page) i) filter))) c.enter_at.ensures.frame.pages c.admit.ensures.slots map in
    IfOk-weaker c.admit.result _ _ (λ mask m. gives-node c.args.query.now.region ids filter old rows page level c.looked.result.now c.gather.new.near.items mask slots
    (c.looked.ensures ∙ c.in-Ok.ensures.gives r.told) node c.in-Ok-gather.ensures.near c.in-Ok-gather.ensures.slots m) marks

pub returns-clause-few : goal.returns-clause-few
returns-clause-few g c = ok-always c.admit.result _ (λ mask. kept-few c.args.query.now.region mask c.args.level c.looked.result.now c.gather.new.near.items c.in-Ok-gather.ensures.near)

pub returns-clause-children : goal.returns-clause-children
returns-clause-children g c = ok-always c.admit.result _ (λ mask. kept-children c.args.query.now.region mask c.args.level c.looked.result.now c.gather.new.near.items c.in-Ok-gather.ensures.near)

pub returns-clause-stand : goal.returns-clause-stand
returns-clause-stand g c = ok-always c.admit.result _ (λ mask.
    kept-stand c.args.query.now.region mask c.args.level c.looked.result.now (g.P.Pages.pages c.args.pages.now c.args.node) c.gather.new.near.items
    (λ some. c.looked.ensures ∙ c.in-Ok.ensures.gives some) (c.in-Ok.ensures.level ∙ ap level_in (sym c.looked.ensures)) c.in-Ok-gather.ensures.near)

-- the rows that were asked for behind the node
pub returns-clause-asks : goal.returns-clause-asks
returns-clause-asks g c = λ told.
    let old : PageMap = g.P.Pages.pages c.args.pages.now in
    let rows : ℕ = c.args.tree.now.rows in
    let mine = map_uses rows_form old rows in
    let mid : List ℕ = g.P.Pages.asked c.enter_at.new.pages in
    let new : List ℕ = g.P.Pages.asked c.admit.new.pages in
    let f = c.enter_at.ensures.frame in
    let more = subst (λ (k : ℕ). AreReadable old k → AsksFor [] mine mid new) f.count
    (subst (λ (x : PageMap). AreReadable x (g.P.Pages.count c.enter_at.new.pages) → AsksFor [] (map_uses rows_form x rows) mid new) f.pages c.admit.ensures.asks) told in
    asks-then (c.args.node ∷ []) mine _ _ _ (asks-page c.args.node mine _ mid c.enter_at.ensures.asks) (asks-wider [] (c.args.node ∷ []) mine _ _ (λ page h. absurd (contains-none page h)) more)

pub returns-clause-asked : goal.returns-clause-asked
returns-clause-asked g c = λ told.
    let old : PageMap = g.P.Pages.pages c.args.pages.now in
    let rows : ℕ = c.args.tree.now.rows in
    let mid : List ℕ = g.P.Pages.asked c.enter_at.new.pages in
    let new : List ℕ = g.P.Pages.asked c.admit.new.pages in
    let f = c.enter_at.ensures.frame in
    let more = subst (λ (k : ℕ). AreReadable old k → AsksFor [] (map_uses rows_form old rows) mid new) f.count
    (subst (λ (x : PageMap). AreReadable x (g.P.Pages.count c.enter_at.new.pages) → AsksFor [] (map_uses rows_form x rows) mid new) f.pages c.admit.ensures.asks) told in
    on-always c.admit.result _ (asked_before _ mid more.more new c.args.node c.in-Ok.ensures.here more.log)

pub returns-clause-damaged : goal.returns-clause-damaged
returns-clause-damaged g c = λ told damage e.
    let old : PageMap = g.P.Pages.pages c.args.pages.now in
    let rows : ℕ = c.args.tree.now.rows in
    let f = c.enter_at.ensures.frame in
    let mid : List ℕ = g.P.Pages.asked c.enter_at.new.pages in
    let new : List ℕ = g.P.Pages.asked c.admit.new.pages in
    let harm = subst (λ (k : ℕ). AreReadable old k → IsRowsDamage old k rows mid new damage) f.count
    (subst (λ (x : PageMap). AreReadable x (g.P.Pages.count c.enter_at.new.pages) → IsRowsDamage x (g.P.Pages.count c.enter_at.new.pages) rows mid new damage) f.pages (λ t. c.admit.ensures.damaged t damage e)) told in
    let first = c.enter_at.ensures.asks in
    inr (harm.0, asked_sooner (g.P.Pages.asked c.args.pages.now) first.more new damage.page (subst (λ (l : List ℕ). AskedSince l new damage.page) first.is harm.1))

pub returns-in-Err-clause-asks : goal.returns-in-Err-clause-asks
returns-in-Err-clause-asks g c = λ told. asks-page c.args.node (map_uses rows_form (g.P.Pages.pages c.args.pages.now) c.args.tree.now.rows) _ _ c.enter_at.ensures.asks

pub returns-in-Err-gather-clause-asks : goal.returns-in-Err-gather-clause-asks
returns-in-Err-gather-clause-asks g c = λ told. asks-page c.args.node (map_uses rows_form (g.P.Pages.pages c.args.pages.now) c.args.tree.now.rows) _ _ c.enter_at.ensures.asks

pub returns-then-slots-eq0-clause-asks : goal.returns-then-slots-eq0-clause-asks
returns-then-slots-eq0-clause-asks g c = λ told. asks-page c.args.node (map_uses rows_form (g.P.Pages.pages c.args.pages.now) c.args.tree.now.rows) _ _ c.enter_at.ensures.asks

pub returns-then-slots-eq0-clause-few : goal.returns-then-slots-eq0-clause-few
returns-then-slots-eq0-clause-few g c = kept-few c.args.query.now.region 0 c.args.level c.looked.result.now c.gather.new.near.items c.in-Ok-gather.ensures.near

pub returns-then-slots-eq0-clause-children : goal.returns-then-slots-eq0-clause-children
returns-then-slots-eq0-clause-children g c = kept-children c.args.query.now.region 0 c.args.level c.looked.result.now c.gather.new.near.items c.in-Ok-gather.ensures.near

pub returns-then-slots-eq0-clause-stand : goal.returns-then-slots-eq0-clause-stand
returns-then-slots-eq0-clause-stand g c =
    kept-stand c.args.query.now.region 0 c.args.level c.looked.result.now (g.P.Pages.pages c.args.pages.now c.args.node) c.gather.new.near.items
    (λ some. c.looked.ensures ∙ c.in-Ok.ensures.gives some) (c.in-Ok.ensures.level ∙ ap level_in (sym c.looked.ensures)) c.in-Ok-gather.ensures.near
