use Rattle.std.proofs.Common.{◌∙◌, sym}
use Rattle.std.proofs.lemmas.Result.{on_ok_weaker}
use Rattle.btree_nodes.specs.Supply.{View, view}
use Rattle.node_rows.specs.Rows.{Bytes, bytes_in}
use Rattle.node_rows.specs.Turns.{with_row}
use Rattle.node_rows.specs.Impacts.{with_byte}
use Rattle.node_rows.proofs.Turned.{turns-same, turns-as}
use Rattle.node_rows.proofs.Impacts.{byte-same, byte-set}
use Rattle.node_inverted.proofs.raising.set_byte.Goals as goal

pub returns-then-row-slot-clause-turns : goal.returns-then-row-slot-clause-turns
returns-then-row-slot-clause-turns g c = λ free rows is.
    let before : View = view (g.P.Pages.pages c.args.pages.now) (g.P.Pages.count c.args.pages.now) (g.P.Pages.first c.args.pages.now) free in
    let b : Bytes = bytes_in (g.P.Pages.pages c.args.pages.now) c.args.tree.now.rows in
    turns-as before c.args.tree.now.rows (g.P.Pages.pages c.args.pages.now) (g.P.Pages.count c.args.pages.now) (g.P.Pages.first c.args.pages.now) c.args.tree.now.rows b
    (with_byte c.args.node c.args.number c.args.slot c.args.byte b)
    (byte-same c.args.node c.args.number c.args.slot c.args.byte b (sym (is c.args.slot) ∙ c.if-row-slot.true))
    (turns-same before c.args.tree.now.rows rows)

pub returns-clause-turns : goal.returns-clause-turns
returns-clause-turns g c = λ free rows is.
    let before : View = view (g.P.Pages.pages c.args.pages.now) (g.P.Pages.count c.args.pages.now) (g.P.Pages.first c.args.pages.now) free in
    let b : Bytes = bytes_in (g.P.Pages.pages c.args.pages.now) c.args.tree.now.rows in
    on_ok_weaker c.set_found.result (λ h. turns-as before c.args.tree.now.rows (g.P.Pages.pages c.set_found.new.pages) (g.P.Pages.count c.set_found.new.pages) (g.P.Pages.first c.set_found.new.pages) c.set_found.new.tree.rows
    (with_row c.args.node c.args.number c.put_byte.new.row b) (with_byte c.args.node c.args.number c.args.slot c.args.byte b)
    (byte-set c.args.node c.args.number c.args.slot c.args.byte b c.args.row.now c.put_byte.new.row is c.put_byte.ensures) h)
    (c.set_found.ensures.turns free rows)

pub returns-clause-no_false_damage : goal.returns-clause-no_false_damage
returns-clause-no_false_damage g c free rows damage = c.set_found.ensures.no_false_damage free rows.kept damage
