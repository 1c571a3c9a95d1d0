use Rattle.std.proofs.Common.{◌≡◌, ℕ, List, Option, Err, inr, ap, subst, ◌∙◌}
use Rattle.std.proofs.lemmas.Result.{IfOk-weaker}
use Rattle.page_face.specs.FreeList.{PageMap}
use Rattle.page_face.specs.declared.fault.PageFault.TheVariants.{Damaged}
use Rattle.btree_nodes.specs.Damages.{AreReadable}
use Rattle.place_values.specs.Answer.{answer_of}
use Rattle.place_values.specs.declared.query.Chosen.{Chosen}
use Rattle.best_first.specs.Fits.{nodes_at}
use Rattle.boolean_queries.specs.Opens.{Fits}
use Rattle.collective_query.specs.Searches.{IsSearchHarm}
use Rattle.group_sum.specs.Named.{AreNamedOnce}
use Rattle.query_execution.specs.Answers.{choice_by, IsChoice}
use Rattle.query_execution.specs.Opened.{ChoosesByFew, IsChosenByFew}
use Rattle.query_execution.proofs.Choices.{kept-choice}
use Rattle.query_execution.proofs.Kept.{roots-kept}
use Rattle.query_execution.proofs.Named.{kept-named}
use Rattle.query_execution.proofs.Opened.{choice-behind}
use Rattle.query_execution.proofs.choosing.chosen.Goals as goal

pub returns-clause-answered : goal.returns-clause-answered
returns-clause-answered g c = λ state roots told.
    let P = g.P.Pages in
    let old : PageMap = P.pages c.args.pages.now in
    let tree = c.args.tree.now in
    let query = c.args.query.now in
    let kept = roots-kept old (P.count c.args.pages.now) (P.first c.args.pages.now) c.args.tables.now tree state roots in
    let f = c.ids_of.ensures.frame in
    let ids = c.in-Ok.ids in
    let fits : Fits (P.pages c.ids_of.new.pages) tree.rows (P.count c.ids_of.new.pages) (P.first c.ids_of.new.pages) tree.root = rw (f.pages, f.count, f.first) kept.whole in
    let still : AreReadable (P.pages c.ids_of.new.pages) (P.count c.ids_of.new.pages) = rw (f.pages, f.count) told in
    let once : AreNamedOnce (nodes_at (P.pages c.ids_of.new.pages) tree) tree.root = rw f.pages (kept-named old (P.count c.args.pages.now) (P.first c.args.pages.now) c.args.tables.now tree state kept) in
    IfOk-weaker c.tree_choice.result
    (λ (chosen : Option Chosen). chosen ≡ choice_by ids query (nodes_at (P.pages c.ids_of.new.pages) tree) tree.root)
    (λ (chosen : Option Chosen). IsChoice query (answer_of state query) chosen)
    (λ (chosen : Option Chosen) is.
    kept-choice old (P.count c.args.pages.now) (P.first c.args.pages.now) c.args.tables.now tree state kept ids query (c.in-Ok.ensures.known kept.entries kept.holds) chosen
    (is ∙ ap (λ (pages : PageMap). choice_by ids query (nodes_at pages tree) tree.root) f.pages))
    (c.tree_choice.ensures.chosen (fits.0, fits.1, still) once)

pub returns-clause-damaged : goal.returns-clause-damaged
returns-clause-damaged g c = λ told damage is.
    let P = g.P.Pages in
    let f = c.ids_of.ensures.frame in
    let old : PageMap = P.pages c.args.pages.now in
    let tree = c.args.tree.now in
    let between : List ℕ = P.asked c.ids_of.new.pages in
    let after : List ℕ = P.asked c.tree_choice.new.pages in
    let still : AreReadable (P.pages c.ids_of.new.pages) (P.count c.ids_of.new.pages) = rw (f.pages, f.count) told in
    let harm = c.tree_choice.ensures.damaged still damage is in
    inr (
      between,
      c.ids_of.ensures.own told,
      subst (λ (count : ℕ). IsSearchHarm old count tree between after damage) f.count
          (subst (λ (pages : PageMap). IsSearchHarm pages (P.count c.ids_of.new.pages) tree between after damage) f.pages harm),
    )

pub returns-in-Err-clause-no_false_damage : goal.returns-in-Err-clause-no_false_damage
returns-in-Err-clause-no_false_damage g c = λ state roots told damage.
    let P = g.P.Pages in
    let kept = roots-kept (P.pages c.args.pages.now) (P.count c.args.pages.now) (P.first c.args.pages.now) c.args.tables.now c.args.tree.now state roots in
    λ e. (let same : c.in-Err.fault ≡ Damaged damage = cc e in c.in-Err.ensures.no_false_damage kept.entries kept.holds told kept.counted damage (ap Err same))

pub returns-clause-no_false_damage : goal.returns-clause-no_false_damage
returns-clause-no_false_damage g c = λ state roots told damage.
    let P = g.P.Pages in
    let f = c.ids_of.ensures.frame in
    let tree = c.args.tree.now in
    let kept = roots-kept (P.pages c.args.pages.now) (P.count c.args.pages.now) (P.first c.args.pages.now) c.args.tables.now tree state roots in
    let fits : Fits (P.pages c.ids_of.new.pages) tree.rows (P.count c.ids_of.new.pages) (P.first c.ids_of.new.pages) tree.root = rw (f.pages, f.count, f.first) kept.whole in
    let still : AreReadable (P.pages c.ids_of.new.pages) (P.count c.ids_of.new.pages) = rw (f.pages, f.count) told in
    c.tree_choice.ensures.no_false_damage (fits.0, fits.1, still) damage

pub returns-clause-opened : goal.returns-clause-opened
returns-clause-opened g c = λ state roots told.
    let P = g.P.Pages in
    let old : PageMap = P.pages c.args.pages.now in
    let tree = c.args.tree.now in
    let tables = c.args.tables.now in
    let query = c.args.query.now in
    let kept = roots-kept old (P.count c.args.pages.now) (P.first c.args.pages.now) tables tree state roots in
    let f = c.ids_of.ensures.frame in
    let ids = c.in-Ok.ids in
    let before : List ℕ = P.asked c.args.pages.now in
    let between : List ℕ = P.asked c.ids_of.new.pages in
    let after : List ℕ = P.asked c.tree_choice.new.pages in
    let fits : Fits (P.pages c.ids_of.new.pages) tree.rows (P.count c.ids_of.new.pages) (P.first c.ids_of.new.pages) tree.root = rw (f.pages, f.count, f.first) kept.whole in
    let still : AreReadable (P.pages c.ids_of.new.pages) (P.count c.ids_of.new.pages) = rw (f.pages, f.count) told in
    IfOk-weaker c.tree_choice.result
    (λ (chosen : Option Chosen). ChoosesByFew (P.pages c.ids_of.new.pages) tree ids query between after chosen)
    (λ (chosen : Option Chosen). IsChosenByFew old tables tree query before after chosen)
    (λ (chosen : Option Chosen) few.
    choice-behind old tables tree kept.entries kept.holds ids before between (c.ids_of.ensures.own told) query (c.in-Ok.ensures.known kept.entries kept.holds) after chosen
    (subst (λ (pages : PageMap). ChoosesByFew pages tree ids query between after chosen) f.pages few))
    (c.tree_choice.ensures.opened (fits.0, fits.1, still))
