use Rattle.std.proofs.Common.{◌≡◌, ℕ, inl, inr, ⊎_elim, List, [], Option, Err, refl, sym, ap, subst}
use Rattle.std.proofs.lemmas.List.{append-nil}
use Rattle.page_face.specs.FreeList.{PageMap}
use Rattle.page_face.specs.declared.fault.Damage.{Damage}
use Rattle.page_face.specs.declared.fault.PageFault.TheVariants.{Damaged}
use Rattle.page_store.specs.declared.superblock.Superblock.{Superblock}
use Rattle.store_tables.specs.declared.tables.Tables.{Tables}
use Rattle.node_rows.specs.declared.roots.Tree.{Tree}
use Rattle.place_values.specs.Answer.{answer_of}
use Rattle.place_values.specs.State.{Contents}
use Rattle.place_values.specs.declared.query.Answer.{Answer}
use Rattle.place_values.specs.declared.query.Answer.TheVariants as answers
use Rattle.place_values.specs.declared.query.Chosen.{Chosen}
use Rattle.place_values.specs.declared.query.Query.{Query}
use Rattle.place_values.specs.declared.query.Query.TheVariants.{Range, Inside, Nearest, Top, Rare, Group, Gather}
use Rattle.query_execution.specs.Answers.{IsChoice}
use Rattle.query_execution.specs.Damages.{IsAnswerHarm, IsHitsHarm}
use Rattle.query_execution.specs.Opened.{IsChosenByFew}
use Rattle.store_model.specs.Stands.{tables_in}
use Rattle.irtree_engine.specs.Changes.{block_with, tree_in}
use Rattle.irtree_engine.specs.Queries.{AsksForChoice, IsFoundByFew}
use Rattle.irtree_engine.proofs.Roots.{roots-stand}
use Rattle.irtree_engine.proofs.queries.choice_in.Goals as goal

-- the answer to a query that asks for a choice is its choice
answer-choice : (query : Query) (answer : Answer) (chosen : Option Chosen) → AsksForChoice query → IsChoice query answer chosen → answers.Group chosen ≡ answer
answer-choice (Range at scale radius filter) answer chosen asks is = absurd asks
answer-choice (Inside rect filter) answer chosen asks is = absurd asks
answer-choice (Nearest at scale k filter) answer chosen asks is = absurd asks
answer-choice (Top at scale k alpha reach words) answer chosen asks is = absurd asks
answer-choice (Rare at scale k alpha reach words) answer chosen asks is = absurd asks
answer-choice (Group at scale words) answer chosen asks is = sym is
answer-choice (Gather at scale words) answer chosen asks is = sym is

-- and was found by few nodes opened
found-few : (pages : PageMap) (block : Superblock) (state : Contents) (query : Query) (before after : List ℕ) (chosen : Option Chosen) → AsksForChoice query
    → IsChosenByFew pages (tables_in block.head) (tree_in block.head) query before after chosen → IsFoundByFew pages block state query before after (answers.Group chosen)
found-few pages block state (Range at scale radius filter) before after chosen asks few = absurd asks
found-few pages block state (Inside rect filter) before after chosen asks few = absurd asks
found-few pages block state (Nearest at scale k filter) before after chosen asks few = absurd asks
found-few pages block state (Top at scale k alpha reach words) before after chosen asks few = absurd asks
found-few pages block state (Rare at scale k alpha reach words) before after chosen asks few = absurd asks
found-few pages block state (Group at scale words) before after chosen asks few = few
found-few pages block state (Gather at scale words) before after chosen asks few = few

-- damage of the words by text, of the tree or of its rows is damage of a query
harm-of-query : (pages : PageMap) (count live : ℕ) (tables : Tables) (tree : Tree) (query : Query) (before after : List ℕ) (damage : Damage) → IsAnswerHarm pages count tables tree before after damage → IsHitsHarm pages count live tables tree query before after damage
harm-of-query pages count live tables tree query before after damage harm =
    ⊎_elim (λ text. inl text) (λ behind. inr (behind.0, behind.1, inr (behind.0, record { more = []; is = sym (append-nil behind.0); own = tt }, behind.2))) harm

pub returns-in-Ok-clause-answered : goal.returns-in-Ok-clause-answered
returns-in-Ok-clause-answered g c = λ state stand told.
    let P = g.P.Pages in
    let old = c.args.pages.now in
    let query = c.args.query.now in
    let roots = roots-stand (P.pages old) (P.count old) (P.first old) c.args.head.now c.tables_of-tables.result c.tree_of-tree.result state c.tables_of-tables.ensures c.tree_of-tree.ensures stand in
    answer-choice query (answer_of state query) c.in-Ok.choice c.requires.choice (c.in-Ok.ensures.answered state roots told)

pub returns-in-Ok-clause-opened : goal.returns-in-Ok-clause-opened
returns-in-Ok-clause-opened g c = λ state stand told.
    let P = g.P.Pages in
    let old = c.args.pages.now in
    let query = c.args.query.now in
    let before : List ℕ = P.asked old in
    let after : List ℕ = P.asked c.chosen.new.pages in
    let roots = roots-stand (P.pages old) (P.count old) (P.first old) c.args.head.now c.tables_of-tables.result c.tree_of-tree.result state c.tables_of-tables.ensures c.tree_of-tree.ensures stand in
    found-few (P.pages old) (block_with (P.count old) (P.first old) c.args.head.now) state query before after c.in-Ok.choice c.requires.choice
    (subst (λ (tables : Tables). IsChosenByFew (P.pages old) tables (tree_in c.args.head.now) query before after c.in-Ok.choice) c.tables_of-tables.ensures
    (subst (λ (tree : Tree). IsChosenByFew (P.pages old) c.tables_of-tables.result tree query before after c.in-Ok.choice) c.tree_of-tree.ensures
    (c.in-Ok.ensures.opened state roots told)))

pub returns-in-Err-clause-no_false_damage : goal.returns-in-Err-clause-no_false_damage
returns-in-Err-clause-no_false_damage g c = λ state stand told damage.
    let P = g.P.Pages in
    let old = c.args.pages.now in
    let roots = roots-stand (P.pages old) (P.count old) (P.first old) c.args.head.now c.tables_of-tables.result c.tree_of-tree.result state c.tables_of-tables.ensures c.tree_of-tree.ensures stand in
    λ e. (let same : c.in-Err.fault ≡ Damaged damage = cc e in c.in-Err.ensures.no_false_damage state roots told damage (ap Err same))

pub returns-in-Err-clause-damaged : goal.returns-in-Err-clause-damaged
returns-in-Err-clause-damaged g c = λ told damage is.
    let P = g.P.Pages in
    let old = c.args.pages.now in
    let before : List ℕ = P.asked old in
    let after : List ℕ = P.asked c.chosen.new.pages in
    let same : c.in-Err.fault ≡ Damaged damage = cc is in
    harm-of-query (P.pages old) (P.count old) c.args.head.now.live (tables_in c.args.head.now) (tree_in c.args.head.now) c.args.query.now before after damage
    (subst (λ (tables : Tables). IsAnswerHarm (P.pages old) (P.count old) tables (tree_in c.args.head.now) before after damage) c.tables_of-tables.ensures
    (subst (λ (tree : Tree). IsAnswerHarm (P.pages old) (P.count old) c.tables_of-tables.result tree before after damage) c.tree_of-tree.ensures
    (c.in-Err.ensures.damaged told damage (ap Err same))))
