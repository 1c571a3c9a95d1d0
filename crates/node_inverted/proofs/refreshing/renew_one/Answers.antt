use Rattle.std.proofs.Common.{◌≡◌, ℕ, arith, ap, subst, List, [], ◌∷◌, ◌++◌, Err}
use Rattle.std.proofs.lemmas.Result.{err_from_is_err_and}
use Rattle.page_face.specs.declared.fault.PageFault.TheVariants.{Damaged}
use Rattle.btree_nodes.specs.Supply.{View, view}
use Rattle.btree_nodes.specs.Damages.{AreReadable}
use Rattle.btree_nodes.specs.Tree.{map_uses}
use Rattle.btree_nodes.proofs.Harms.{asks-further, asks-more}
use Rattle.paged_map.proofs.Maps.{kept-counted}
use Rattle.rtree_nodes.specs.Stock.{rows_form}
use Rattle.node_rows.specs.Rows.{IsRows, bytes_in}
use Rattle.node_rows.specs.Turns.{Turns}
use Rattle.node_rows.proofs.Harms.{harm-later}
use Rattle.node_inverted.specs.Drafts.{with_rows}
use Rattle.node_inverted.specs.declared.taking.NodeRow.{NodeRow}
use Rattle.node_inverted.proofs.Gathers.{renewing-none, renewing-set}
use Rattle.node_inverted.proofs.refreshing.renew_one.Goals as goal

pub returns-then-len-lt-ROWS_AT_ONCE-clause-renewing : goal.returns-then-len-lt-ROWS_AT_ONCE-clause-renewing
returns-then-len-lt-ROWS_AT_ONCE-clause-renewing g c = λ before root impact b words apart h. c.in_ok-renew_next.ensures.renewing before root impact b words apart h

pub returns-clause-renewing : goal.returns-clause-renewing
returns-clause-renewing g c = λ before root impact b words apart h.
    let more : List (ℕ × ℕ) = words ++ (c.args.number, impact) ∷ [] in
    let k = c.in_ok-renew_next.ensures.renewing before root impact b words apart h in
    renewing-none before root (g.P.Pages.pages c.set_rows.new.pages) (g.P.Pages.count c.set_rows.new.pages) (g.P.Pages.first c.set_rows.new.pages) c.set_rows.new.tree.rows c.args.node c.args.slot c.args.child b more
    c.clear.new.self.items c.renew_next.new.below c.none.result apart c.clear.ensures.items k.low (λ d. c.none.ensures.copy d c.args.node)
    (renewing-set before root (g.P.Pages.pages c.renew_next.new.pages) (g.P.Pages.count c.renew_next.new.pages) (g.P.Pages.first c.renew_next.new.pages) c.args.tree.now.rows c.args.node c.args.slot c.args.child b more
    c.renew_next.new.rows.items c.renew_next.new.below c.renew_next.new.above k
    (g.P.Pages.pages c.set_rows.new.pages) (g.P.Pages.count c.set_rows.new.pages) (g.P.Pages.first c.set_rows.new.pages) c.set_rows.new.tree.rows
    (subst (λ (rs : List NodeRow). Turns (view (g.P.Pages.pages c.renew_next.new.pages) (g.P.Pages.count c.renew_next.new.pages) (g.P.Pages.first c.renew_next.new.pages) k.turn.free) c.args.tree.now.rows
    (g.P.Pages.pages c.set_rows.new.pages) (g.P.Pages.count c.set_rows.new.pages) (g.P.Pages.first c.set_rows.new.pages) c.set_rows.new.tree.rows (with_rows c.args.node rs (bytes_in (g.P.Pages.pages c.renew_next.new.pages) c.args.tree.now.rows)))
    c.deref.ensures.value (c.in_ok-set_rows.ensures.turns k.turn.free k.turn.rows)))

pub returns-in_err-renew_next-clause-no_false_damage : goal.returns-in_err-renew_next-clause-no_false_damage
returns-in_err-renew_next-clause-no_false_damage g c free rows told damage =
    let before : View = view (g.P.Pages.pages c.args.pages.now) (g.P.Pages.count c.args.pages.now) (g.P.Pages.first c.args.pages.now) free in
    let p = err_from_is_err_and c.from_residual.result c.from_residual.ensures.1 in
    λ e. (let same : c.in_err-renew_next.field-0.0 ≡ Damaged damage = cc (p.1, p.2, e) in
    c.in_err-renew_next.ensures.no_false_damage rows.kept.map (kept-counted rows_form before c.args.tree.now.rows rows.kept) told damage (ap Err same))

pub returns-in_err-set_rows-clause-no_false_damage : goal.returns-in_err-set_rows-clause-no_false_damage
returns-in_err-set_rows-clause-no_false_damage g c free rows told damage =
    let r = c.renew_next.ensures.frame in
    let kept : IsRows (view (g.P.Pages.pages c.renew_next.new.pages) (g.P.Pages.count c.renew_next.new.pages) (g.P.Pages.first c.renew_next.new.pages) free) c.args.tree.now.rows = rw (r.pages, r.count, r.first) rows in
    let told' : AreReadable (g.P.Pages.pages c.renew_next.new.pages) (g.P.Pages.count c.renew_next.new.pages) = rw (r.pages, r.count) told in
    let p = err_from_is_err_and c.from_residual-in_err-set_rows.result c.from_residual-in_err-set_rows.ensures.1 in
    λ e. (let same : c.in_err-set_rows.field-0.0 ≡ Damaged damage = cc (p.1, p.2, e) in
    c.in_err-set_rows.ensures.no_false_damage free kept told' damage (ap Err same))

pub returns-in_err-renew_next-clause-damaged : goal.returns-in_err-renew_next-clause-damaged
returns-in_err-renew_next-clause-damaged g c = λ told damage.
    let p = g.P.Pages in
    let r = err_from_is_err_and c.from_residual.result c.from_residual.ensures.1 in
    λ e. (let same : c.in_err-renew_next.field-0.0 ≡ Damaged damage = cc (r.1, r.2, e) in
    c.in_err-renew_next.ensures.damaged told damage (ap Err same))

pub returns-in_err-renew_next-clause-more : goal.returns-in_err-renew_next-clause-more
returns-in_err-renew_next-clause-more g c = λ told.
    let p = g.P.Pages in
    (asks-more (map_uses rows_form (p.pages c.args.pages.now) c.args.tree.now.rows) (λ _. 1) (p.asked c.args.pages.now) (p.asked c.renew_next.new.pages) (λ n h. omega arith) (c.renew_next.ensures.own told))

pub returns-then-len-lt-ROWS_AT_ONCE-clause-more : goal.returns-then-len-lt-ROWS_AT_ONCE-clause-more
returns-then-len-lt-ROWS_AT_ONCE-clause-more g c = λ told.
    let p = g.P.Pages in
    (asks-more (map_uses rows_form (p.pages c.args.pages.now) c.args.tree.now.rows) (λ _. 1) (p.asked c.args.pages.now) (p.asked c.renew_next.new.pages) (λ n h. omega arith) (c.renew_next.ensures.own told))

pub returns-in_err-set_rows-clause-damaged : goal.returns-in_err-set_rows-clause-damaged
returns-in_err-set_rows-clause-damaged g c = λ told damage.
    let p = g.P.Pages in
    let f = c.renew_next.ensures.frame in
    let r = err_from_is_err_and c.from_residual-in_err-set_rows.result c.from_residual-in_err-set_rows.ensures.1 in
    λ e. (let same : c.in_err-set_rows.field-0.0 ≡ Damaged damage = cc (r.1, r.2, e) in
    harm-later _ (map_uses rows_form (p.pages c.args.pages.now) c.args.tree.now.rows) (p.pages c.set_rows.new.pages) (p.count c.set_rows.new.pages) (p.first c.set_rows.new.pages)
    (p.asked c.args.pages.now) (p.asked c.renew_next.new.pages) (p.asked c.set_rows.new.pages) damage (c.renew_next.ensures.own told) (c.in_err-set_rows.ensures.damaged (rw (f.pages, f.count) told) damage (ap Err same)))

pub returns-in_err-set_rows-clause-more : goal.returns-in_err-set_rows-clause-more
returns-in_err-set_rows-clause-more g c = λ told.
    let p = g.P.Pages in
    let f = c.renew_next.ensures.frame in
    asks-further (λ _. 1) (p.asked c.args.pages.now) (p.asked c.renew_next.new.pages) (p.asked c.set_rows.new.pages) (asks-more (map_uses rows_form (p.pages c.args.pages.now) c.args.tree.now.rows) (λ _. 1) (p.asked c.args.pages.now) (p.asked c.renew_next.new.pages) (λ n h. omega arith) (c.renew_next.ensures.own told)) (c.set_rows.ensures.more (rw (f.pages, f.count) told))

pub returns-clause-more : goal.returns-clause-more
returns-clause-more g c = λ told.
    let p = g.P.Pages in
    let f = c.renew_next.ensures.frame in
    asks-further (λ _. 1) (p.asked c.args.pages.now) (p.asked c.renew_next.new.pages) (p.asked c.set_rows.new.pages) (asks-more (map_uses rows_form (p.pages c.args.pages.now) c.args.tree.now.rows) (λ _. 1) (p.asked c.args.pages.now) (p.asked c.renew_next.new.pages) (λ n h. omega arith) (c.renew_next.ensures.own told)) (c.set_rows.ensures.more (rw (f.pages, f.count) told))

pub returns-clause-told : goal.returns-clause-told
returns-clause-told g c = λ told. let f = c.renew_next.ensures.frame in c.in_ok-set_rows.ensures.told (rw (f.pages, f.count) told)
