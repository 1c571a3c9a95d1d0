use Rattle.std.proofs.Common.{◌≡◌, ℕ, List, subst}
use Rattle.std.specs.Prelude.{IfOk}
use Rattle.page_face.specs.FreeList.{PageMap}
use Rattle.spatial_base.specs.Point.{Viewpoint}
use Rattle.place_values.specs.Group.{least_by}
use Rattle.place_values.specs.Sum.{sum_cost}
use Rattle.best_first.specs.Fits.{nodes_at}
use Rattle.collective_query.specs.Opened.{FindsPicks, picks_in}
use Rattle.collective_query.specs.TreePicks.{tree_choices}
use Rattle.group_sum.proofs.query.group_sum.Goals as goal

pub returns-clause-chosen : goal.returns-clause-chosen
returns-clause-chosen g c = λ fits once.
    let tree = c.args.tree.now in
    let ids = c.args.ids.now in
    let words : List (List ℕ) = c.args.words.now in
    let pages : PageMap = g.P.Pages.pages c.args.pages.now in
    subst (λ (from : Viewpoint). IfOk c.least_sum.result (λ chosen. chosen ≡ least_by sum_cost (tree_choices ids from (nodes_at pages tree) tree.root words))) c.at.ensures
    (c.least_sum.ensures.chosen fits once)

pub returns-clause-opened : goal.returns-clause-opened
returns-clause-opened g c = λ fits.
    let P = g.P.Pages in
    let tree = c.args.tree.now in
    let ids = c.args.ids.now in
    let words : List (List ℕ) = c.args.words.now in
    let pages : PageMap = P.pages c.args.pages.now in
    let old : List ℕ = P.asked c.args.pages.now in
    let new : List ℕ = P.asked c.least_sum.new.pages in
    subst (λ (from : Viewpoint). IfOk c.least_sum.result (λ chosen. FindsPicks pages tree ids from words old new (picks_in chosen))) c.at.ensures
    (c.least_sum.ensures.opened fits)
