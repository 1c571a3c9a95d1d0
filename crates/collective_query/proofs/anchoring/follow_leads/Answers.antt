use Rattle.std.proofs.Common.{◌++◌, ◌<◌, ℕ, List, length, arith}
use Rattle.std.proofs.lemmas.List.{length-map}
use Rattle.std.proofs.lemmas.Result.{on_ok_weaker}
use Rattle.page_face.specs.FreeList.{PageMap}
use Rattle.place_values.specs.declared.query.Pick.{Pick}
use Rattle.place_values.specs.declared.query.Chosen.{Chosen}
use Rattle.best_first.specs.Fits.{nodes_at}
use Rattle.collective_query.specs.Opened.{FindsPicks}
use Rattle.collective_query.specs.TreePicks.{tree_picks, tree_lists}
use Rattle.group_search.specs.Tried.{IsBest}
use Rattle.group_search.proofs.Blocks.{best-follows}
use Rattle.collective_query.proofs.anchoring.follow_leads.Goals as goal

pub returns-then-points-gt-MANY-clause-followed : goal.returns-then-points-gt-MANY-clause-followed
returns-then-points-gt-MANY-clause-followed g c = λ fits same are was before known has each start.
    let P = g.P.Pages in
    let tree = c.args.tree.now in
    let ids = c.args.ids.now in
    let at = c.args.at.now in
    let own = c.args.own in
    let words : List (List ℕ) = c.args.words.now in
    let best : Chosen = c.args.best.now in
    let new : Chosen = c.search_within.new.best in
    let old : PageMap = P.pages c.args.pages.now in
    let all : List (List Pick) = tree_lists ids at (nodes_at old tree) tree.root words in
    let mine : List ℕ → List Pick = tree_picks ids at (nodes_at old tree) tree.root in
    let wide = are.inside in
    let inside : own < length words = omega (arith, length-map words mine) in
    on_ok_weaker c.search_within.result
    (λ (h : IsBest at all best new × FindsPicks old tree ids at words before (P.asked c.search_within.new.pages) (known ++ new.picks)).
    (best-follows at all own c.args.leads.now best new are.among h.0, h.1))
    (c.search_within.ensures.least fits same inside was before known has start)
