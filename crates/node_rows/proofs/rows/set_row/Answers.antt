use Rattle.std.proofs.Common.{◌∙◌, ◌^◌, sym}
use Rattle.std.proofs.lemmas.Result.{on_ok_weaker}
use Rattle.btree_nodes.specs.Supply.{View, view}
use Rattle.rtree_nodes.specs.Stock.{rows_form}
use Rattle.node_rows.proofs.Told.{map-within}
use Rattle.node_rows.proofs.Turned.{turned-put, turned-without}
use Rattle.node_rows.proofs.rows.set_row.Goals as goal

pub returns-then-is_clear-clause-turns : goal.returns-then-is_clear-clause-turns
returns-then-is_clear-clause-turns g c = λ free rows.
    let before : View = view (g.P.Pages.pages c.args.pages.now) (g.P.Pages.count c.args.pages.now) (g.P.Pages.first c.args.pages.now) free in
    on_ok_weaker c.remove_row.result (λ h. turned-without before (g.P.Pages.pages c.remove_row.new.pages) (g.P.Pages.count c.remove_row.new.pages) (g.P.Pages.first c.remove_row.new.pages) c.args.tree.now.rows c.remove_row.new.tree.rows
    c.args.node c.args.number c.args.row.now c.ranges.number.fits rows 0 (256 ^ rows_form.key) (sym c.is_clear.ensures ∙ c.if-is_clear.true) (map-within rows_form (g.P.Pages.pages c.args.pages.now) c.args.tree.now.rows rows.kept.map) h)
    (c.remove_row.ensures.removed free rows.kept)

pub returns-else-is_clear-clause-turns : goal.returns-else-is_clear-clause-turns
returns-else-is_clear-clause-turns g c = λ free rows.
    let before : View = view (g.P.Pages.pages c.args.pages.now) (g.P.Pages.count c.args.pages.now) (g.P.Pages.first c.args.pages.now) free in
    on_ok_weaker c.put_row.result (λ h. turned-put before (g.P.Pages.pages c.put_row.new.pages) (g.P.Pages.count c.put_row.new.pages) (g.P.Pages.first c.put_row.new.pages) c.args.tree.now.rows c.put_row.new.tree.rows
    c.args.node c.args.number c.args.row.now c.ranges.number.fits rows (sym c.is_clear.ensures ∙ c.if-is_clear.false) h)
    (c.put_row.ensures.put free rows.kept)
