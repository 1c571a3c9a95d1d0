use Rattle.std.proofs.Common.{ℕ}
use Rattle.page_face.specs.FreeList.{PageMap}
use Rattle.node_rows.specs.declared.roots.Tree.{Tree}
use Rattle.node_rows.specs.Rows.{bytes_in}
use Rattle.best_first.specs.Leaves.{page-given}
use Rattle.btree_nodes.specs.Tree.{IsMap}
use Rattle.rtree_nodes.specs.Stock.{rows_form}
use Rattle.rtree_nodes.specs.Pages.{stored_in}
use Rattle.node_filter.specs.Numbers.{byte_of}
use Rattle.best_first.specs.Fits.{FitsTree, HasNode, nodes_at}
use Rattle.best_first.specs.NodeOpenings.{given_by, given_at, spread, opened_in, IsSoundNode, StandsIn}
use Rattle.best_first.specs.Laws.{fits-map, fits-counted, node-sound}
use Rattle.best_first.proofs.Cutting.{gave-as}
use Rattle.best_first.proofs.searching.RankingRanked.open.Goals as goal

pub returns-in-Ok-clause-gives : goal.returns-in-Ok-clause-gives
returns-in-Ok-clause-gives g c =
    let p : PageMap = g.P.Pages.pages c.args.pages.now in
    let n : ℕ = g.P.Pages.count c.args.pages.now in
    let b : ℕ = g.P.Pages.first c.args.pages.now in
    let t : Tree = c.args.self.now.tree in
    let ask = c.args.self.now.ask in
    let at = c.args.self.now.at in
    let ids = c.args.self.now.ids.now in
    gave-as (StandsIn (p c.args.node) c.args.level) c.args.level (IsMap rows_form p t.rows × IsSoundNode p n c.args.node c.args.level) (FitsTree p n b t × HasNode p n t c.args.node c.args.level)
    (spread 32 (λ i. given_at (given_by at ask c.args.level (byte_of ids (bytes_in p t.rows c.args.node) i)) (stored_in (p c.args.node) i))) (opened_in ids at ask (nodes_at p t) c.args.node c.args.level) c.args.most c.in-Ok.items.items
    (λ w. (fits-map p n b t w.0, node-sound p n t c.args.node c.args.level w.1))
    (λ w. page-given ids at ask c.args.level (p c.args.node) (bytes_in p t.rows c.args.node) (node-sound p n t c.args.node c.args.level w.1).form)
    c.in-Ok.ensures.gave

pub returns-in-Err-clause-no_false_damage : goal.returns-in-Err-clause-no_false_damage
returns-in-Err-clause-no_false_damage g c = λ fits has damage e.
    let p : PageMap = g.P.Pages.pages c.args.pages.now in
    let n : ℕ = g.P.Pages.count c.args.pages.now in
    let b : ℕ = g.P.Pages.first c.args.pages.now in
    let t : Tree = c.args.self.now.tree in
    c.in-Err.ensures.no_false_damage (fits-map p n b t fits) (fits-counted p n b t fits) fits.2 (node-sound p n t c.args.node c.args.level has) damage e
