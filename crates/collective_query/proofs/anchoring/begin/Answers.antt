use Rattle.std.proofs.Common.{◌++◌, ◌∷◌, [], ℕ, List, None, get_or, rules}
use Rattle.std.proofs.lemmas.Result.{on_ok_weaker}
use Rattle.std.specs.List.{Contains}
use Rattle.page_face.specs.FreeList.{PageMap}
use Rattle.place_values.specs.declared.query.Pick.{Pick}
use Rattle.place_values.specs.declared.query.Chosen.{Chosen}
use Rattle.best_first.specs.Fits.{nodes_at}
use Rattle.group_search.specs.Leads.{led_by, AreLeads, IsWanted, Betters}
use Rattle.collective_query.specs.Opened.{FindsPicks}
use Rattle.collective_query.specs.TreePicks.{tree_lists}
use Rattle.collective_query.proofs.anchoring.begin.Goals as goal
use Rattle.boolean_queries.proofs.Histories.{all-contained}

pub returns-in-Some-clause-chosen : goal.returns-in-Some-clause-chosen
returns-in-Some-clause-chosen g c = λ fits same leads was before known has takes start.
    let P = g.P.Pages in
    let tree = c.args.tree.now in
    let ids = c.args.ids.now in
    let at = c.args.at.now in
    let own = c.args.own in
    let words : List (List ℕ) = c.args.words.now in
    let anchor : Pick = c.in-Some.anchor.now in
    let new : Chosen = c.try_beside.new.best in
    let old : PageMap = P.pages c.args.pages.now in
    let all : List (List Pick) = tree_lists ids at (nodes_at old tree) tree.root words in
    let member : Contains c.args.leads.now anchor = search rules in
    let one : AreLeads all own (anchor ∷ []) = record { inside = leads.inside; among = (all-contained (Contains (get_or all own [])) c.args.leads.now anchor leads.among member, tt) } in
    on_ok_weaker c.try_beside.result
    (λ (h : Betters at all (IsWanted at anchor None) (led_by own anchor all) c.args.best.now new × FindsPicks old tree ids at words before (P.asked c.try_beside.new.pages) (known ++ new.picks)). (h.0.chosen, h.1))
    (c.try_beside.ensures.tried fits same one was before known has (takes anchor member) start)
