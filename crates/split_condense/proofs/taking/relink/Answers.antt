use Rattle.std.proofs.lemmas.Result.{on_ok_weaker}
use Rattle.rtree_nodes.specs.Stock.{view, plain}
use Rattle.node_rows.specs.Rows.{Bytes, bytes_in}
use Rattle.node_rows.specs.Impacts.{refreshed}
use Rattle.node_rows.specs.Refreshing.{on_words}
use Rattle.node_rows.proofs.Refreshes.{renewed-all}
use Rattle.node_rows.proofs.Turned.{turns-as}
use Rattle.split_condense.proofs.taking.relink.Goals as goal

pub returns-else-is_condensed-clause-turns : goal.returns-else-is_condensed-clause-turns
returns-else-is_condensed-clause-turns g c = λ free rows apart right.
    let b : Bytes = bytes_in (g.P.Pages.pages c.args.pages.now) c.args.tree.now.rows in
    on_ok_weaker c.renew.result
    (λ turn. turns-as (plain (view (g.P.Pages.pages c.args.pages.now) c.args.tree.now.rows (g.P.Pages.count c.args.pages.now) (g.P.Pages.first c.args.pages.now) free)) c.args.tree.now.rows
    (g.P.Pages.pages c.renew.new.pages) (g.P.Pages.count c.renew.new.pages) (g.P.Pages.first c.renew.new.pages) c.renew.new.tree.rows
    (on_words c.args.words.now (refreshed c.args.page c.args.at c.args.child b) b) (refreshed c.args.page c.args.at c.args.child b)
    (renewed-all c.args.page c.args.at c.args.child b c.args.words.now (right c.if-is_condensed.false)) turn)
    (c.renew.ensures.turns free rows apart)
