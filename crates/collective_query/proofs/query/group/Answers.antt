use Rattle.std.proofs.Common.{◌≡◌, ℕ, List, IfOk, subst}
use Rattle.page_face.specs.FreeList.{PageMap}
use Rattle.spatial_base.specs.Point.{Viewpoint}
use Rattle.place_values.specs.Group.{least_of}
use Rattle.best_first.specs.Fits.{nodes_at}
use Rattle.collective_query.specs.Opened.{FindsPicks, picks_in}
use Rattle.collective_query.specs.TreePicks.{tree_choices}
use Rattle.collective_query.proofs.query.group.Goals as goal

pub returns-clause-chosen : goal.returns-clause-chosen
returns-clause-chosen g c = λ fits.
    let tree = c.args.tree.now in
    let ids = c.args.ids.now in
    let words : List (List ℕ) = c.args.words.now in
    let pages : PageMap = g.P.Pages.pages c.args.pages.now in
    subst (λ (from : Viewpoint). IfOk c.least_group.result (λ chosen. chosen ≡ least_of from (tree_choices ids from (nodes_at pages tree) tree.root words))) c.at.ensures
    (c.least_group.ensures.chosen fits)

pub returns-clause-opened : goal.returns-clause-opened
returns-clause-opened g c = λ fits.
    let P = g.P.Pages in
    let tree = c.args.tree.now in
    let ids = c.args.ids.now in
    let words : List (List ℕ) = c.args.words.now in
    let pages : PageMap = P.pages c.args.pages.now in
    let old : List ℕ = P.asked c.args.pages.now in
    let new : List ℕ = P.asked c.least_group.new.pages in
    subst (λ (from : Viewpoint). IfOk c.least_group.result (λ chosen. FindsPicks pages tree ids from words old new (picks_in chosen))) c.at.ensures
    (c.least_group.ensures.opened fits)
