use Rattle.std.proofs.Common.{◌≡◌, ℕ, arith, ap, sym, ◌∙◌, subst, max, Err}
use Rattle.std.proofs.Math.Path.{fun_ext}
use Rattle.std.specs.Result.{OnOk}
use Rattle.std.proofs.lemmas.Result.{err_from_is_err_and}
use Rattle.page_face.proofs.Frames.{changes_then, reads_change}
use Rattle.page_face.specs.FreeList.{PageMap}
use Rattle.page_face.specs.declared.fault.PageFault.TheVariants.{Damaged}
use Rattle.btree_nodes.specs.Supply.{View, view}
use Rattle.btree_nodes.specs.Tree.{map_uses}
use Rattle.btree_nodes.proofs.Harms.{asks-further, asks-more}
use Rattle.paged_map.proofs.Maps.{kept-counted}
use Rattle.rtree_nodes.specs.Stock.{rows_form}
use Rattle.node_rows.specs.Rows.{Bytes, HasBytes, IsRows, bytes_in}
use Rattle.node_rows.specs.Turns.{Turns}
use Rattle.node_rows.specs.Impacts.{impact_at, raised, with_byte}
use Rattle.node_rows.proofs.Harms.{harm-later}
use Rattle.node_rows.proofs.Impacts.{byte-raised}
use Rattle.node_rows.proofs.Turned.{view-same}
use Rattle.node_inverted.specs.Drafts.{edited}
use Rattle.node_inverted.specs.declared.edits.RowEdit.{RowEdit}
use Rattle.node_inverted.proofs.drafting.edit_one.Goals as goal

pub returns-in_err-spot-in-Raise-clause-no_false_damage : goal.returns-in_err-spot-in-Raise-clause-no_false_damage
returns-in_err-spot-in-Raise-clause-no_false_damage g c free rows told damage =
    let before : View = view (g.P.Pages.pages c.args.pages.now) (g.P.Pages.count c.args.pages.now) (g.P.Pages.first c.args.pages.now) free in
    let p = err_from_is_err_and c.from_residual.result c.from_residual.ensures.1 in
    λ e. (let same : c.in_err-spot-in-Raise.field-0.0 ≡ Damaged damage = cc (p.1, p.2, e) in
    c.in_err-spot-in-Raise.ensures.no_false_damage rows.kept.map (kept-counted rows_form before c.args.tree.now.rows rows.kept) told damage (ap Err same))

pub returns-in_ok-spot-in-Raise-clause-turns : goal.returns-in_ok-spot-in-Raise-clause-turns
returns-in_ok-spot-in-Raise-clause-turns g c = λ free rows.
    let p = g.P.Pages in
    let old : PageMap = p.pages c.args.pages.now in
    let root : ℕ = c.args.tree.now.rows in
    let b : Bytes = bytes_in old root in
    let node : ℕ = c.args.node in
    let word : ℕ = c.args.number in
    let slot : ℕ = c.in-Raise.slot.at in
    let byte : ℕ = c.greater-byte.result in
    let r = c.find_row.ensures.frame in
    let v = view-same (p.pages c.find_row.new.pages) old (p.count c.find_row.new.pages) (p.count c.args.pages.now) (p.first c.find_row.new.pages) (p.first c.args.pages.now) free r.pages r.count r.first in
    let there = c.in_ok-spot-in-Raise.ensures.row rows.kept.map in
    let step = subst (λ (w : View). IsRows w root → HasBytes c.find_row.new.row (bytes_in w.pages root node word)
    → OnOk c.set_byte.result (Turns w root (p.pages c.set_byte.new.pages) (p.count c.set_byte.new.pages) (p.first c.set_byte.new.pages) c.set_byte.new.tree.rows
    (with_byte node word slot byte (bytes_in w.pages root)))) v (c.set_byte.ensures.turns free) in
    let same : with_byte node word slot byte b ≡ raised node slot (impact_at (word, c.in-Raise.impact)) b =
    fun_ext (λ n. fun_ext (λ w. fun_ext (λ i. byte-raised node word slot byte b c.in-Raise.impact (c.greater-byte.ensures ∙ ap (max c.in-Raise.impact) (there slot)) n w i))) in
    subst (λ (e : RowEdit). OnOk c.set_byte.result (Turns (view old (p.count c.args.pages.now) (p.first c.args.pages.now) free) root (p.pages c.set_byte.new.pages) (p.count c.set_byte.new.pages) (p.first c.set_byte.new.pages) c.set_byte.new.tree.rows (edited node word e b)))
    (sym c.in-Raise.is)
    (subst (λ (f : Bytes). OnOk c.set_byte.result (Turns (view old (p.count c.args.pages.now) (p.first c.args.pages.now) free) root (p.pages c.set_byte.new.pages) (p.count c.set_byte.new.pages) (p.first c.set_byte.new.pages) c.set_byte.new.tree.rows f))
    same (step rows there))

pub returns-in_ok-spot-in-Raise-clause-frame : goal.returns-in_ok-spot-in-Raise-clause-frame
returns-in_ok-spot-in-Raise-clause-frame g c = changes_then g.P.Pages g.met.P.Pages.goes_further _ _ _ (reads_change g.P.Pages _ _ c.find_row.ensures.frame) c.set_byte.ensures.frame

pub returns-in_ok-spot-in-Raise-clause-damaged : goal.returns-in_ok-spot-in-Raise-clause-damaged
returns-in_ok-spot-in-Raise-clause-damaged g c = λ told damage e.
    let p = g.P.Pages in
    let f = c.find_row.ensures.frame in
    harm-later _ (map_uses rows_form (p.pages c.args.pages.now) c.args.tree.now.rows) (p.pages c.set_byte.new.pages) (p.count c.set_byte.new.pages) (p.first c.set_byte.new.pages)
    (p.asked c.args.pages.now) (p.asked c.find_row.new.pages) (p.asked c.set_byte.new.pages) damage (c.find_row.ensures.own told) (c.set_byte.ensures.damaged (rw (f.pages, f.count) told) damage e)

pub returns-in_ok-spot-in-Raise-clause-more : goal.returns-in_ok-spot-in-Raise-clause-more
returns-in_ok-spot-in-Raise-clause-more g c = λ told.
    let p = g.P.Pages in
    let f = c.find_row.ensures.frame in
    asks-further (λ _. 1) (p.asked c.args.pages.now) (p.asked c.find_row.new.pages) (p.asked c.set_byte.new.pages)
    (asks-more (map_uses rows_form (p.pages c.args.pages.now) c.args.tree.now.rows) (λ _. 1) (p.asked c.args.pages.now) (p.asked c.find_row.new.pages) (λ n h. omega arith) (c.find_row.ensures.own told))
    (c.set_byte.ensures.more (rw (f.pages, f.count) told))
