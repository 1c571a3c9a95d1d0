use Rattle.std.proofs.Common.{◌∙◌, ℕ}
use Rattle.page_face.specs.FreeList.{PageMap}
use Rattle.node_rows.specs.declared.roots.Tree.{Tree}
use Rattle.node_rows.specs.Rows.{bytes_in}
use Rattle.irtree_shape.specs.Whole.{level_at}
use Rattle.node_filter.specs.Numbers.{byte_of}
use Rattle.best_first.specs.Asks.{qualifies}
use Rattle.best_first.specs.NodeOpenings.{some_below}
use Rattle.best_first.specs.Fits.{nodes_at}
use Rattle.best_first.specs.Laws.{fits-map, fits-counted, root-sound, root-told, root-level}
use Rattle.best_first.proofs.searching.RankingRanked.start.Goals as goal

pub returns-in-Ok-clause-gives : goal.returns-in-Ok-clause-gives
returns-in-Ok-clause-gives g c = λ fits.
    let p : PageMap = g.P.Pages.pages c.args.pages.now in
    let n : ℕ = g.P.Pages.count c.args.pages.now in
    let b : ℕ = g.P.Pages.first c.args.pages.now in
    let t : Tree = c.args.self.now.tree in
    c.in-Ok.ensures.given (fits-map p n b t fits) (root-told p n b t fits)
    ∙ root-level p n b t (some_below 32 (λ i. qualifies c.args.self.now.ask 1 (byte_of c.args.self.now.ids.now (bytes_in p t.rows t.root) i))) fits

pub returns-in-Err-clause-no_false_damage : goal.returns-in-Err-clause-no_false_damage
returns-in-Err-clause-no_false_damage g c = λ fits damage e.
    let p : PageMap = g.P.Pages.pages c.args.pages.now in
    let n : ℕ = g.P.Pages.count c.args.pages.now in
    let b : ℕ = g.P.Pages.first c.args.pages.now in
    let t : Tree = c.args.self.now.tree in
    c.in-Err.ensures.no_false_damage (fits-map p n b t fits) (fits-counted p n b t fits) fits.2 (λ some. (level_at (nodes_at p t) t.root, root-sound p n b t fits some)) damage e
