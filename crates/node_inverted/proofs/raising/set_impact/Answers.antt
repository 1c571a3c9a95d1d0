use Rattle.std.proofs.Common.{◌≡◌, ℕ, arith, ap, subst, Err}
use Rattle.std.proofs.lemmas.Result.{err_from_is_err_and}
use Rattle.std.specs.Result.{OnOk}
use Rattle.page_face.specs.FreeList.{PageMap}
use Rattle.page_face.specs.declared.fault.PageFault.TheVariants.{Damaged}
use Rattle.btree_nodes.specs.Supply.{View, view}
use Rattle.btree_nodes.specs.Tree.{map_uses}
use Rattle.btree_nodes.proofs.Harms.{asks-further, asks-more}
use Rattle.paged_map.proofs.Maps.{kept-counted}
use Rattle.rtree_nodes.specs.Stock.{rows_form}
use Rattle.node_rows.specs.Rows.{HasBytes, IsRows, bytes_in}
use Rattle.node_rows.specs.Turns.{Turns}
use Rattle.node_rows.specs.Impacts.{with_byte}
use Rattle.node_rows.proofs.Harms.{harm-later}
use Rattle.node_rows.proofs.Turned.{view-same}
use Rattle.node_inverted.proofs.raising.set_impact.Goals as goal

pub returns-clause-turns : goal.returns-clause-turns
returns-clause-turns g c = λ free rows.
    let old : PageMap = g.P.Pages.pages c.args.pages.now in
    let root : ℕ = c.args.tree.now.rows in
    let r = c.find_row.ensures.frame in
    let v = view-same (g.P.Pages.pages c.find_row.new.pages) old (g.P.Pages.count c.find_row.new.pages) (g.P.Pages.count c.args.pages.now) (g.P.Pages.first c.find_row.new.pages) (g.P.Pages.first c.args.pages.now) free r.pages r.count r.first in
    let word : ℕ = c.args.number in
    let there = c.in_ok-spot.ensures.row rows.kept.map in
    let step = subst (λ (w : View). IsRows w root → HasBytes c.find_row.new.row (bytes_in w.pages root c.args.node word)
    → OnOk c.set_byte.result (Turns w root (g.P.Pages.pages c.set_byte.new.pages) (g.P.Pages.count c.set_byte.new.pages) (g.P.Pages.first c.set_byte.new.pages) c.set_byte.new.tree.rows
    (with_byte c.args.node word c.args.slot c.args.impact (bytes_in w.pages root)))) v (c.set_byte.ensures.turns free) in
    step rows there

pub returns-in_err-spot-clause-no_false_damage : goal.returns-in_err-spot-clause-no_false_damage
returns-in_err-spot-clause-no_false_damage g c free rows told damage =
    let before : View = view (g.P.Pages.pages c.args.pages.now) (g.P.Pages.count c.args.pages.now) (g.P.Pages.first c.args.pages.now) free in
    let p = err_from_is_err_and c.from_residual.result c.from_residual.ensures.1 in
    λ e. (let same : c.in_err-spot.field-0.0 ≡ Damaged damage = cc (p.1, p.2, e) in
    c.in_err-spot.ensures.no_false_damage rows.kept.map (kept-counted rows_form before c.args.tree.now.rows rows.kept) told damage (ap Err same))

pub returns-clause-no_false_damage : goal.returns-clause-no_false_damage
returns-clause-no_false_damage g c free rows told damage =
    let r = c.find_row.ensures.frame in
    let kept : IsRows (view (g.P.Pages.pages c.find_row.new.pages) (g.P.Pages.count c.find_row.new.pages) (g.P.Pages.first c.find_row.new.pages) free) c.args.tree.now.rows = rw (r.pages, r.count, r.first) rows in
    c.set_byte.ensures.no_false_damage free kept damage

pub returns-clause-damaged : goal.returns-clause-damaged
returns-clause-damaged g c = λ told damage e.
    let p = g.P.Pages in
    let f = c.find_row.ensures.frame in
    harm-later _ (map_uses rows_form (p.pages c.args.pages.now) c.args.tree.now.rows) (p.pages c.set_byte.new.pages) (p.count c.set_byte.new.pages) (p.first c.set_byte.new.pages)
    (p.asked c.args.pages.now) (p.asked c.find_row.new.pages) (p.asked c.set_byte.new.pages) damage (c.find_row.ensures.own told) (c.set_byte.ensures.damaged (rw (f.pages, f.count) told) damage e)

pub returns-clause-more : goal.returns-clause-more
returns-clause-more g c = λ told.
    let p = g.P.Pages in
    let f = c.find_row.ensures.frame in
    asks-further (λ _. 1) (p.asked c.args.pages.now) (p.asked c.find_row.new.pages) (p.asked c.set_byte.new.pages)
    (asks-more (map_uses rows_form (p.pages c.args.pages.now) c.args.tree.now.rows) (λ _. 1) (p.asked c.args.pages.now) (p.asked c.find_row.new.pages) (λ n h. omega arith) (c.find_row.ensures.own told))
    (c.set_byte.ensures.more (rw (f.pages, f.count) told))
