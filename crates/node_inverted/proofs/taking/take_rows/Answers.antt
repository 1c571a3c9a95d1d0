use Rattle.std.proofs.Common.{◌≡◌, ℕ, arith, ap, subst, Err}
use Rattle.std.proofs.lemmas.Result.{err_from_is_err_and}
use Rattle.page_face.specs.FreeList.{PageMap}
use Rattle.page_face.specs.declared.fault.PageFault.TheVariants.{Damaged}
use Rattle.btree_nodes.specs.Supply.{View, view}
use Rattle.btree_nodes.specs.Damages.{AreReadable}
use Rattle.btree_nodes.specs.Tree.{map_uses}
use Rattle.btree_nodes.proofs.Harms.{asks-further, asks-more}
use Rattle.paged_map.proofs.Maps.{kept-counted}
use Rattle.rtree_nodes.specs.Stock.{rows_form}
use Rattle.node_rows.specs.Rows.{IsRows, bytes_in}
use Rattle.node_rows.specs.Turns.{Turns, dropped}
use Rattle.node_rows.proofs.Harms.{harm-later}
use Rattle.node_rows.proofs.Turned.{view-same}
use Rattle.node_inverted.proofs.taking.take_rows.Goals as goal

pub returns-clause-taken : goal.returns-clause-taken
returns-clause-taken g c = λ free rows.
    let old : PageMap = g.P.Pages.pages c.args.pages.now in
    let mid : PageMap = g.P.Pages.pages c.list_rows.new.pages in
    let root : ℕ = c.args.tree.now.rows in
    let f = c.list_rows.ensures.frame in
    let there : IsRows (view mid (g.P.Pages.count c.list_rows.new.pages) (g.P.Pages.first c.list_rows.new.pages) free) root = rw (f.pages, f.count, f.first) rows in
    record {
      turn = subst (λ (v : View). Turns v root (g.P.Pages.pages c.drop_node.new.pages) (g.P.Pages.count c.drop_node.new.pages) (g.P.Pages.first c.drop_node.new.pages) c.drop_node.new.tree.rows (dropped c.args.node (bytes_in v.pages root)))
          (view-same mid old (g.P.Pages.count c.list_rows.new.pages) (g.P.Pages.count c.args.pages.now) (g.P.Pages.first c.list_rows.new.pages) (g.P.Pages.first c.args.pages.now) free f.pages f.count f.first)
          (c.in_ok-drop_node.ensures.turns free there);
      lifted = c.in_ok-rows.ensures.listed rows.kept.map;
    }

pub returns-in_err-rows-clause-no_false_damage : goal.returns-in_err-rows-clause-no_false_damage
returns-in_err-rows-clause-no_false_damage g c free rows told damage =
    let before : View = view (g.P.Pages.pages c.args.pages.now) (g.P.Pages.count c.args.pages.now) (g.P.Pages.first c.args.pages.now) free in
    let p = err_from_is_err_and c.from_residual.result c.from_residual.ensures.1 in
    λ e. (let same : c.in_err-rows.field-0.0 ≡ Damaged damage = cc (p.1, p.2, e) in
    c.in_err-rows.ensures.no_false_damage rows.kept.map (kept-counted rows_form before c.args.tree.now.rows rows.kept) told damage (ap Err same))

pub returns-in_err-drop_node-clause-no_false_damage : goal.returns-in_err-drop_node-clause-no_false_damage
returns-in_err-drop_node-clause-no_false_damage g c free rows told damage =
    let f = c.list_rows.ensures.frame in
    let there : IsRows (view (g.P.Pages.pages c.list_rows.new.pages) (g.P.Pages.count c.list_rows.new.pages) (g.P.Pages.first c.list_rows.new.pages) free) c.args.tree.now.rows = rw (f.pages, f.count, f.first) rows in
    let told' : AreReadable (g.P.Pages.pages c.list_rows.new.pages) (g.P.Pages.count c.list_rows.new.pages) = rw (f.pages, f.count) told in
    let p = err_from_is_err_and c.from_residual-in_err-drop_node.result c.from_residual-in_err-drop_node.ensures.1 in
    λ e. (let same : c.in_err-drop_node.field-0.0 ≡ Damaged damage = cc (p.1, p.2, e) in
    c.in_err-drop_node.ensures.no_false_damage free there told' damage (ap Err same))

pub returns-in_err-rows-clause-damaged : goal.returns-in_err-rows-clause-damaged
returns-in_err-rows-clause-damaged g c = λ told damage.
    let p = g.P.Pages in
    let r = err_from_is_err_and c.from_residual.result c.from_residual.ensures.1 in
    λ e. (let same : c.in_err-rows.field-0.0 ≡ Damaged damage = cc (r.1, r.2, e) in
    c.in_err-rows.ensures.damaged told damage (ap Err same))

pub returns-in_err-rows-clause-more : goal.returns-in_err-rows-clause-more
returns-in_err-rows-clause-more g c = λ told.
    let p = g.P.Pages in
    (asks-more (map_uses rows_form (p.pages c.args.pages.now) c.args.tree.now.rows) (λ _. 1) (p.asked c.args.pages.now) (p.asked c.list_rows.new.pages) (λ n h. omega arith) (c.list_rows.ensures.own told))

pub returns-in_err-drop_node-clause-damaged : goal.returns-in_err-drop_node-clause-damaged
returns-in_err-drop_node-clause-damaged g c = λ told damage.
    let p = g.P.Pages in
    let f = c.list_rows.ensures.frame in
    let r = err_from_is_err_and c.from_residual-in_err-drop_node.result c.from_residual-in_err-drop_node.ensures.1 in
    λ e. (let same : c.in_err-drop_node.field-0.0 ≡ Damaged damage = cc (r.1, r.2, e) in
    harm-later _ (map_uses rows_form (p.pages c.args.pages.now) c.args.tree.now.rows) (p.pages c.drop_node.new.pages) (p.count c.drop_node.new.pages) (p.first c.drop_node.new.pages)
    (p.asked c.args.pages.now) (p.asked c.list_rows.new.pages) (p.asked c.drop_node.new.pages) damage (c.list_rows.ensures.own told) (c.in_err-drop_node.ensures.damaged (rw (f.pages, f.count) told) damage (ap Err same)))

pub returns-in_err-drop_node-clause-more : goal.returns-in_err-drop_node-clause-more
returns-in_err-drop_node-clause-more g c = λ told.
    let p = g.P.Pages in
    let f = c.list_rows.ensures.frame in
    asks-further (λ _. 1) (p.asked c.args.pages.now) (p.asked c.list_rows.new.pages) (p.asked c.drop_node.new.pages) (asks-more (map_uses rows_form (p.pages c.args.pages.now) c.args.tree.now.rows) (λ _. 1) (p.asked c.args.pages.now) (p.asked c.list_rows.new.pages) (λ n h. omega arith) (c.list_rows.ensures.own told)) (c.drop_node.ensures.more (rw (f.pages, f.count) told))

pub returns-clause-more : goal.returns-clause-more
returns-clause-more g c = λ told.
    let p = g.P.Pages in
    let f = c.list_rows.ensures.frame in
    asks-further (λ _. 1) (p.asked c.args.pages.now) (p.asked c.list_rows.new.pages) (p.asked c.drop_node.new.pages) (asks-more (map_uses rows_form (p.pages c.args.pages.now) c.args.tree.now.rows) (λ _. 1) (p.asked c.args.pages.now) (p.asked c.list_rows.new.pages) (λ n h. omega arith) (c.list_rows.ensures.own told)) (c.drop_node.ensures.more (rw (f.pages, f.count) told))

pub returns-clause-told : goal.returns-clause-told
returns-clause-told g c = λ told. let f = c.list_rows.ensures.frame in c.in_ok-drop_node.ensures.told (rw (f.pages, f.count) told)
