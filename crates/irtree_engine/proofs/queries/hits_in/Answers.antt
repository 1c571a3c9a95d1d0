use Rattle.std.proofs.Common.{◌≡◌, ℕ, List, Err, sym, ap, subst, ◌∙◌}
use Rattle.page_face.specs.declared.fault.PageFault.TheVariants.{Damaged}
use Rattle.place_values.specs.Answer.{answer_of}
use Rattle.place_values.specs.declared.hit.Hit.{Hit}
use Rattle.place_values.specs.declared.query.Query.{Query}
use Rattle.place_values.specs.declared.query.Query.TheVariants.{Range, Inside, Nearest, Top, Rare, Group, Gather}
use Rattle.place_values.specs.declared.query.Answer.{Answer}
use Rattle.place_values.specs.declared.query.Answer.TheVariants as answers
use Rattle.node_rows.specs.declared.roots.Tree.{Tree}
use Rattle.store_tables.specs.declared.tables.Tables.{Tables}
use Rattle.store_model.specs.Stands.{tables_in}
use Rattle.query_execution.specs.Answers.{IsAnswer}
use Rattle.query_execution.specs.Damages.{IsHitsHarm}
use Rattle.query_execution.specs.Opened.{AreFewOpened}
use Rattle.irtree_engine.specs.Changes.{tree_in}
use Rattle.irtree_engine.specs.Queries.{AsksForHits}
use Rattle.irtree_engine.proofs.Roots.{live-stands, roots-stand}
use Rattle.irtree_engine.proofs.queries.hits_in.Goals as goal

-- the answer to a query that asks for hits is its hits
answer-hits : (query : Query) (answer : Answer) (hits : List Hit) → AsksForHits query → IsAnswer query answer hits → answers.Hits hits ≡ answer
answer-hits (Range at scale radius filter) answer hits asks is = sym is
answer-hits (Inside rect filter) answer hits asks is = sym is
answer-hits (Nearest at scale k filter) answer hits asks is = sym is
answer-hits (Top at scale k alpha reach words) answer hits asks is = sym is
answer-hits (Rare at scale k alpha reach words) answer hits asks is = sym is
answer-hits (Group at scale words) answer hits asks is = absurd asks
answer-hits (Gather at scale words) answer hits asks is = absurd asks

pub returns-in-Ok-clause-answered : goal.returns-in-Ok-clause-answered
returns-in-Ok-clause-answered g c = λ state stand told.
    let P = g.P.Pages in
    let old = c.args.pages.now in
    let query = c.args.query.now in
    let roots = roots-stand (P.pages old) (P.count old) (P.first old) c.args.head.now c.tables_of-tables.result c.tree_of-tree.result state c.tables_of-tables.ensures c.tree_of-tree.ensures stand in
    let live = live-stands (P.pages old) (P.count old) (P.first old) c.args.head.now state stand in
    ap (λ (hits : List Hit). answers.Hits hits) c.from_vec.ensures ∙ answer-hits query (answer_of state query) c.in-Ok.found.items c.requires.hits (c.in-Ok.ensures.answered state roots live told)

pub returns-in-Ok-clause-opened : goal.returns-in-Ok-clause-opened
returns-in-Ok-clause-opened g c = λ state stand told.
    let P = g.P.Pages in
    let old = c.args.pages.now in
    let query = c.args.query.now in
    let before : List ℕ = P.asked old in
    let after : List ℕ = P.asked c.hits.new.pages in
    let roots = roots-stand (P.pages old) (P.count old) (P.first old) c.args.head.now c.tables_of-tables.result c.tree_of-tree.result state c.tables_of-tables.ensures c.tree_of-tree.ensures stand in
    let live = live-stands (P.pages old) (P.count old) (P.first old) c.args.head.now state stand in
    subst (λ (hits : List Hit). AreFewOpened (P.pages old) (tables_in c.args.head.now) (tree_in c.args.head.now) state query before after hits) (sym c.from_vec.ensures)
    (subst (λ (tables : Tables). AreFewOpened (P.pages old) tables (tree_in c.args.head.now) state query before after c.in-Ok.found.items) c.tables_of-tables.ensures
    (subst (λ (tree : Tree). AreFewOpened (P.pages old) c.tables_of-tables.result tree state query before after c.in-Ok.found.items) c.tree_of-tree.ensures
    (c.in-Ok.ensures.opened state roots live told)))

pub returns-in-Err-clause-no_false_damage : goal.returns-in-Err-clause-no_false_damage
returns-in-Err-clause-no_false_damage g c = λ state stand told damage.
    let P = g.P.Pages in
    let old = c.args.pages.now in
    let roots = roots-stand (P.pages old) (P.count old) (P.first old) c.args.head.now c.tables_of-tables.result c.tree_of-tree.result state c.tables_of-tables.ensures c.tree_of-tree.ensures stand in
    let live = live-stands (P.pages old) (P.count old) (P.first old) c.args.head.now state stand in
    λ e. (let same : c.in-Err.fault ≡ Damaged damage = cc e in c.in-Err.ensures.no_false_damage state roots live told damage (ap Err same))

pub returns-in-Err-clause-damaged : goal.returns-in-Err-clause-damaged
returns-in-Err-clause-damaged g c = λ told damage is.
    let P = g.P.Pages in
    let old = c.args.pages.now in
    let before : List ℕ = P.asked old in
    let after : List ℕ = P.asked c.hits.new.pages in
    let same : c.in-Err.fault ≡ Damaged damage = cc is in
    subst (λ (tables : Tables). IsHitsHarm (P.pages old) (P.count old) c.args.head.now.live tables (tree_in c.args.head.now) c.args.query.now before after damage) c.tables_of-tables.ensures
    (subst (λ (tree : Tree). IsHitsHarm (P.pages old) (P.count old) c.args.head.now.live c.tables_of-tables.result tree c.args.query.now before after damage) c.tree_of-tree.ensures
    (c.in-Err.ensures.damaged told damage (ap Err same)))
