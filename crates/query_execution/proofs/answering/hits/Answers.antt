use Rattle.std.proofs.Common.{◌≡◌, ℕ, List, Option, Err, length, inl, inr, unwrap_or, sym, ap, subst, ◌∙◌}
use Rattle.std.proofs.lemmas.Result.{IfOk-weaker}
use Rattle.std.specs.List.{flat_map}
use Rattle.std.specs.Prelude.{Vec}
use Rattle.std.specs.declared.alloc.Global.{Global}
use Rattle.page_face.specs.FreeList.{PageMap}
use Rattle.page_face.specs.declared.fault.PageFault.TheVariants.{Damaged}
use Rattle.btree_nodes.specs.Damages.{AreReadable, AsksOnly}
use Rattle.paged_map.specs.Maps.{AreCounted}
use Rattle.place_values.specs.Answer.{answer_of, asked_of}
use Rattle.place_values.specs.Query.{IsWithinLimits}
use Rattle.place_values.specs.State.{Contents}
use Rattle.place_values.specs.declared.hit.Hit.{Hit}
use Rattle.place_values.specs.declared.query.Query.{Query}
use Rattle.rtree_nodes.specs.Pages.{node_of}
use Rattle.irtree_shape.specs.Made.{nodes_in}
use Rattle.node_filter.specs.Entries.{tree_places}
use Rattle.boolean_queries.specs.Opens.{Fits}
use Rattle.collective_query.specs.Searches.{IsSearchHarm}
use Rattle.store_model.specs.Stands.{state_in}
use Rattle.store_tables.specs.Holding.{Holds, table_uses}
use Rattle.query_execution.specs.Answers.{cut_by, hits_by, IsAnswer}
use Rattle.query_execution.specs.Damages.{IsWeighingHarm}
use Rattle.query_execution.specs.Opened.{AreFewOpened, FewOpened, IsRowsPage, count_uses}
use Rattle.query_execution.proofs.Kept.{kept-live, roots-kept}
use Rattle.query_execution.proofs.Members.{kept-answer}
use Rattle.query_execution.proofs.Opened.{hits-behind}
use Rattle.query_execution.proofs.answering.hits.Goals as goal

pub tree_hits-requires : goal.tree_hits-requires
tree_hits-requires g c = subst IsWithinLimits (sym c.asked_as.ensures) (c.in-Ok-weighed.ensures.limits c.requires)

pub returns-clause-answered : goal.returns-clause-answered
returns-clause-answered g c = λ state roots live told.
    let P = g.P.Pages in
    let old : PageMap = P.pages c.args.pages.now in
    let tables = c.args.tables.now in
    let tree = c.args.tree.now in
    let query = c.args.query.now in
    let kept = roots-kept old (P.count c.args.pages.now) (P.first c.args.pages.now) tables tree state roots in
    let f = c.ids_of.ensures.frame in
    let h = c.weighed.ensures.frame in
    let ids = c.in-Ok.ids in
    let asked : Query = c.asked_as.result.now in
    let known = c.in-Ok.ensures.known kept.entries kept.holds in
    let fits : Fits (P.pages c.weighed.new.pages) tree.rows (P.count c.weighed.new.pages) (P.first c.weighed.new.pages) tree.root = rw (h.pages, h.count, h.first, f.pages, f.count, f.first) kept.whole in
    let still : AreReadable (P.pages c.weighed.new.pages) (P.count c.weighed.new.pages) = rw (h.pages, h.count, f.pages, f.count) told in
    let holds : Holds (P.pages c.ids_of.new.pages) tables kept.entries = rw f.pages kept.holds in
    let is : asked ≡ asked_of (state_in kept.entries kept.serial kept.number) query =
    c.asked_as.ensures ∙ c.in-Ok-weighed.ensures.asked kept.entries holds known tables.next_word kept.serial kept.number kept.agree (kept-live old (P.count c.args.pages.now) (P.first c.args.pages.now) tables tree state kept c.args.live live) in
    IfOk-weaker c.tree_hits.result
    (λ (found : Vec Hit Global). found.items ≡ cut_by asked (flat_map (hits_by ids asked) (tree_places (nodes_in node_of (P.pages c.weighed.new.pages) tree.rows) tree.root)))
    (λ (found : Vec Hit Global). IsAnswer query (answer_of state query) found.items)
    (λ (found : Vec Hit Global) found_is.
    kept-answer old (P.count c.args.pages.now) (P.first c.args.pages.now) tables tree state kept ids query asked known is found.items
    (found_is ∙ ap (λ (pages : PageMap). cut_by asked (flat_map (hits_by ids asked) (tree_places (nodes_in node_of pages tree.rows) tree.root))) (h.pages ∙ f.pages)))
    (c.tree_hits.ensures.found fits.0 fits.1 still)

pub returns-clause-damaged : goal.returns-clause-damaged
returns-clause-damaged g c = λ told damage is.
    let P = g.P.Pages in
    let f = c.ids_of.ensures.frame in
    let h = c.weighed.ensures.frame in
    let old : PageMap = P.pages c.args.pages.now in
    let tables = c.args.tables.now in
    let tree = c.args.tree.now in
    let query = c.args.query.now in
    let between : List ℕ = P.asked c.ids_of.new.pages in
    let later : List ℕ = P.asked c.weighed.new.pages in
    let after : List ℕ = P.asked c.tree_hits.new.pages in
    let looked : AreReadable (P.pages c.ids_of.new.pages) (P.count c.ids_of.new.pages) = rw (f.pages, f.count) told in
    let still : AreReadable (P.pages c.weighed.new.pages) (P.count c.weighed.new.pages) = rw (h.pages, h.count, f.pages, f.count) told in
    let harm = c.tree_hits.ensures.damaged still damage is in
    inr (
      between,
      c.ids_of.ensures.own told,
      inr (
        later,
        subst (λ (pages : PageMap). AsksOnly (count_uses pages tables query) between later) f.pages (c.weighed.ensures.own looked),
        subst (λ (count : ℕ). IsSearchHarm old count tree later after damage) (h.count ∙ f.count)
            (subst (λ (pages : PageMap). IsSearchHarm pages (P.count c.weighed.new.pages) tree later after damage) (h.pages ∙ f.pages) harm),
      ),
    )

pub returns-in-Err-weighed-clause-damaged : goal.returns-in-Err-weighed-clause-damaged
returns-in-Err-weighed-clause-damaged g c = λ told damage is.
    let P = g.P.Pages in
    let f = c.ids_of.ensures.frame in
    let old : PageMap = P.pages c.args.pages.now in
    let tables = c.args.tables.now in
    let query = c.args.query.now in
    let between : List ℕ = P.asked c.ids_of.new.pages in
    let later : List ℕ = P.asked c.weighed.new.pages in
    let looked : AreReadable (P.pages c.ids_of.new.pages) (P.count c.ids_of.new.pages) = rw (f.pages, f.count) told in
    let same : c.in-Err-weighed.fault ≡ Damaged damage = cc is in
    let harm = c.in-Err-weighed.ensures.damaged looked damage (ap Err same) in
    inr (
      between,
      c.ids_of.ensures.own told,
      inl (subst (λ (count : ℕ). IsWeighingHarm old count c.args.live tables query between later damage) f.count
          (subst (λ (pages : PageMap). IsWeighingHarm pages (P.count c.ids_of.new.pages) c.args.live tables query between later damage) f.pages harm)),
    )

pub returns-in-Err-clause-no_false_damage : goal.returns-in-Err-clause-no_false_damage
returns-in-Err-clause-no_false_damage g c = λ state roots live told damage.
    let P = g.P.Pages in
    let kept = roots-kept (P.pages c.args.pages.now) (P.count c.args.pages.now) (P.first c.args.pages.now) c.args.tables.now c.args.tree.now state roots in
    λ e. (let same : c.in-Err.fault ≡ Damaged damage = cc e in c.in-Err.ensures.no_false_damage kept.entries kept.holds told kept.counted damage (ap Err same))

pub returns-in-Err-weighed-clause-no_false_damage : goal.returns-in-Err-weighed-clause-no_false_damage
returns-in-Err-weighed-clause-no_false_damage g c = λ state roots live told damage.
    let P = g.P.Pages in
    let old : PageMap = P.pages c.args.pages.now in
    let tables = c.args.tables.now in
    let f = c.ids_of.ensures.frame in
    let kept = roots-kept old (P.count c.args.pages.now) (P.first c.args.pages.now) tables c.args.tree.now state roots in
    let known = c.in-Ok.ensures.known kept.entries kept.holds in
    let holds : Holds (P.pages c.ids_of.new.pages) tables kept.entries = rw f.pages kept.holds in
    let looked : AreReadable (P.pages c.ids_of.new.pages) (P.count c.ids_of.new.pages) = rw (f.pages, f.count) told in
    let counted : AreCounted (table_uses (P.pages c.ids_of.new.pages) tables) (P.count c.ids_of.new.pages) = rw (f.pages, f.count) kept.counted in
    λ e. (let same : c.in-Err-weighed.fault ≡ Damaged damage = cc e in
    c.in-Err-weighed.ensures.no_false_damage kept.entries holds known tables.next_word kept.agree (kept-live old (P.count c.args.pages.now) (P.first c.args.pages.now) tables c.args.tree.now state kept c.args.live live) looked counted damage (ap Err same))

pub returns-clause-no_false_damage : goal.returns-clause-no_false_damage
returns-clause-no_false_damage g c = λ state roots live told damage.
    let P = g.P.Pages in
    let f = c.ids_of.ensures.frame in
    let h = c.weighed.ensures.frame in
    let tree = c.args.tree.now in
    let kept = roots-kept (P.pages c.args.pages.now) (P.count c.args.pages.now) (P.first c.args.pages.now) c.args.tables.now tree state roots in
    let fits : Fits (P.pages c.weighed.new.pages) tree.rows (P.count c.weighed.new.pages) (P.first c.weighed.new.pages) tree.root = rw (h.pages, h.count, h.first, f.pages, f.count, f.first) kept.whole in
    let still : AreReadable (P.pages c.weighed.new.pages) (P.count c.weighed.new.pages) = rw (h.pages, h.count, f.pages, f.count) told in
    c.tree_hits.ensures.no_false_damage fits.0 fits.1 still damage

pub returns-clause-opened : goal.returns-clause-opened
returns-clause-opened g c = λ state roots live told.
    let P = g.P.Pages in
    let old : PageMap = P.pages c.args.pages.now in
    let tree = c.args.tree.now in
    let tables = c.args.tables.now in
    let query = c.args.query.now in
    let kept = roots-kept old (P.count c.args.pages.now) (P.first c.args.pages.now) tables tree state roots in
    let f = c.ids_of.ensures.frame in
    let h = c.weighed.ensures.frame in
    let ids = c.in-Ok.ids in
    let asked : Query = c.asked_as.result.now in
    let known = c.in-Ok.ensures.known kept.entries kept.holds in
    let before : List ℕ = P.asked c.args.pages.now in
    let between : List ℕ = P.asked c.ids_of.new.pages in
    let later : List ℕ = P.asked c.weighed.new.pages in
    let after : List ℕ = P.asked c.tree_hits.new.pages in
    let looked : AreReadable (P.pages c.ids_of.new.pages) (P.count c.ids_of.new.pages) = rw (f.pages, f.count) told in
    let fits : Fits (P.pages c.weighed.new.pages) tree.rows (P.count c.weighed.new.pages) (P.first c.weighed.new.pages) tree.root = rw (h.pages, h.count, h.first, f.pages, f.count, f.first) kept.whole in
    let still : AreReadable (P.pages c.weighed.new.pages) (P.count c.weighed.new.pages) = rw (h.pages, h.count, f.pages, f.count) told in
    let holds : Holds (P.pages c.ids_of.new.pages) tables kept.entries = rw f.pages kept.holds in
    let is : asked ≡ asked_of (state_in kept.entries kept.serial kept.number) query =
    c.asked_as.ensures ∙ c.in-Ok-weighed.ensures.asked kept.entries holds known tables.next_word kept.serial kept.number kept.agree (kept-live old (P.count c.args.pages.now) (P.first c.args.pages.now) tables tree state kept c.args.live live) in
    let of_state : asked ≡ asked_of state query = is ∙ ap (λ (s : Contents). asked_of s query) (sym kept.is) in
    IfOk-weaker c.tree_hits.result
    (λ (found : Vec Hit Global). FewOpened (IsRowsPage (P.pages c.weighed.new.pages) tree) (P.pages c.weighed.new.pages) tree ids asked later after found.items)
    (λ (found : Vec Hit Global). AreFewOpened old tables tree state query before after found.items)
    (λ (found : Vec Hit Global) few.
    hits-behind old tables tree kept.entries kept.holds ids before between (c.ids_of.ensures.own told) state query asked known of_state later after found.items
    (subst (λ (pages : PageMap). AsksOnly (count_uses pages tables query) between later) f.pages (c.weighed.ensures.own looked))
    (subst (λ (pages : PageMap). FewOpened (IsRowsPage pages tree) pages tree ids asked later after found.items) (h.pages ∙ f.pages) few))
    (c.tree_hits.ensures.opened fits.0 fits.1 still)
