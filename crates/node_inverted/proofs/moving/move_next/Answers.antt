use Rattle.std.proofs.Common.{◌≡◌, arith, ap, Err}
use Rattle.std.proofs.lemmas.Result.{err_from_is_err_and}
use Rattle.page_face.specs.declared.fault.PageFault.TheVariants.{Damaged}
use Rattle.btree_nodes.specs.Supply.{View, view}
use Rattle.btree_nodes.specs.Damages.{AreReadable}
use Rattle.btree_nodes.specs.Tree.{map_uses}
use Rattle.btree_nodes.proofs.Harms.{asks-further, asks-more}
use Rattle.paged_map.proofs.Maps.{kept-counted}
use Rattle.rtree_nodes.specs.Stock.{rows_form}
use Rattle.node_rows.specs.Rows.{IsRows}
use Rattle.node_rows.specs.Ascents.{reached}
use Rattle.node_rows.proofs.Harms.{harm-later, harm-looked}
use Rattle.node_inverted.proofs.Gathers.{moving-none}
use Rattle.node_inverted.proofs.moving.move_next.Goals as goal

pub returns-then-len-lt-ROWS_AT_ONCE-clause-moving : goal.returns-then-len-lt-ROWS_AT_ONCE-clause-moving
returns-then-len-lt-ROWS_AT_ONCE-clause-moving g c = λ before root b apart clear held h. c.in_ok-next.ensures.parted before root c.args.to b apart clear held h

pub returns-clause-moving : goal.returns-clause-moving
returns-clause-moving g c = λ before root b apart clear held h.
    let parted = c.in_ok-next.ensures.parted before root c.args.to b apart clear held h in
    moving-none before root (g.P.Pages.pages c.set_parts.new.pages) (g.P.Pages.count c.set_parts.new.pages) (g.P.Pages.first c.set_parts.new.pages) c.set_parts.new.tree.rows c.args.node c.args.slots c.args.to b (reached c.in_ok-next.next)
    c.set_parts.new.stays.items c.set_parts.new.goes.items c.in_ok-set_parts.ensures.stays c.in_ok-set_parts.ensures.goes
    (c.in_ok-set_parts.ensures.turns before root c.args.slots (reached c.in_ok-next.next) b parted)

pub returns-then-len-lt-ROWS_AT_ONCE-clause-copy : goal.returns-then-len-lt-ROWS_AT_ONCE-clause-copy
returns-then-len-lt-ROWS_AT_ONCE-clause-copy g c = λ before root b held h. c.in_ok-next.ensures.copy before root c.args.to b held h

pub returns-clause-copy : goal.returns-clause-copy
returns-clause-copy g c = λ before root b held h. c.in_ok-next.ensures.copy before root c.args.to b held h

pub returns-in_err-next-clause-no_false_damage : goal.returns-in_err-next-clause-no_false_damage
returns-in_err-next-clause-no_false_damage g c free rows told damage =
    let before : View = view (g.P.Pages.pages c.args.pages.now) (g.P.Pages.count c.args.pages.now) (g.P.Pages.first c.args.pages.now) free in
    let p = err_from_is_err_and c.from_residual.result c.from_residual.ensures.1 in
    λ e. (let same : c.in_err-next.field-0.0 ≡ Damaged damage = cc (p.1, p.2, e) in
    c.in_err-next.ensures.no_false_damage rows.kept.map (kept-counted rows_form before c.args.tree.now.rows rows.kept) told damage (ap Err same))

pub returns-in_err-set_parts-clause-no_false_damage : goal.returns-in_err-set_parts-clause-no_false_damage
returns-in_err-set_parts-clause-no_false_damage g c free rows told damage =
    let r = c.part_next.ensures.frame in
    let kept : IsRows (view (g.P.Pages.pages c.part_next.new.pages) (g.P.Pages.count c.part_next.new.pages) (g.P.Pages.first c.part_next.new.pages) free) c.args.tree.now.rows = rw (r.pages, r.count, r.first) rows in
    let told' : AreReadable (g.P.Pages.pages c.part_next.new.pages) (g.P.Pages.count c.part_next.new.pages) = rw (r.pages, r.count) told in
    let p = err_from_is_err_and c.from_residual-in_err-set_parts.result c.from_residual-in_err-set_parts.ensures.1 in
    λ e. (let same : c.in_err-set_parts.field-0.0 ≡ Damaged damage = cc (p.1, p.2, e) in
    c.in_err-set_parts.ensures.no_false_damage free kept told' damage (ap Err same))

pub returns-in_err-next-clause-damaged : goal.returns-in_err-next-clause-damaged
returns-in_err-next-clause-damaged g c = λ told damage.
    let p = g.P.Pages in
    let f = c.part_next.ensures.frame in
    let r = err_from_is_err_and c.from_residual.result c.from_residual.ensures.1 in
    λ e. (let same : c.in_err-next.field-0.0 ≡ Damaged damage = cc (r.1, r.2, e) in
    harm-looked (p.pages c.args.pages.now) (p.pages c.part_next.new.pages) (p.count c.args.pages.now) (p.count c.part_next.new.pages) (p.first c.part_next.new.pages) c.args.tree.now.rows (p.asked c.args.pages.now) (p.asked c.part_next.new.pages) damage
    f.pages f.count (c.in_err-next.ensures.damaged told damage (ap Err same)))

pub returns-in_err-next-clause-more : goal.returns-in_err-next-clause-more
returns-in_err-next-clause-more g c = λ told.
    let p = g.P.Pages in
    (asks-more (map_uses rows_form (p.pages c.args.pages.now) c.args.tree.now.rows) (λ _. 1) (p.asked c.args.pages.now) (p.asked c.part_next.new.pages) (λ n h. omega arith) (c.part_next.ensures.own told))

pub returns-then-len-lt-ROWS_AT_ONCE-clause-more : goal.returns-then-len-lt-ROWS_AT_ONCE-clause-more
returns-then-len-lt-ROWS_AT_ONCE-clause-more g c = λ told.
    let p = g.P.Pages in
    (asks-more (map_uses rows_form (p.pages c.args.pages.now) c.args.tree.now.rows) (λ _. 1) (p.asked c.args.pages.now) (p.asked c.part_next.new.pages) (λ n h. omega arith) (c.part_next.ensures.own told))

pub returns-in_err-set_parts-clause-damaged : goal.returns-in_err-set_parts-clause-damaged
returns-in_err-set_parts-clause-damaged g c = λ told damage.
    let p = g.P.Pages in
    let f = c.part_next.ensures.frame in
    let r = err_from_is_err_and c.from_residual-in_err-set_parts.result c.from_residual-in_err-set_parts.ensures.1 in
    λ e. (let same : c.in_err-set_parts.field-0.0 ≡ Damaged damage = cc (r.1, r.2, e) in
    harm-later _ (map_uses rows_form (p.pages c.args.pages.now) c.args.tree.now.rows) (p.pages c.set_parts.new.pages) (p.count c.set_parts.new.pages) (p.first c.set_parts.new.pages)
    (p.asked c.args.pages.now) (p.asked c.part_next.new.pages) (p.asked c.set_parts.new.pages) damage (c.part_next.ensures.own told) (c.in_err-set_parts.ensures.damaged (rw (f.pages, f.count) told) damage (ap Err same)))

pub returns-in_err-set_parts-clause-more : goal.returns-in_err-set_parts-clause-more
returns-in_err-set_parts-clause-more g c = λ told.
    let p = g.P.Pages in
    let f = c.part_next.ensures.frame in
    asks-further (λ _. 1) (p.asked c.args.pages.now) (p.asked c.part_next.new.pages) (p.asked c.set_parts.new.pages) (asks-more (map_uses rows_form (p.pages c.args.pages.now) c.args.tree.now.rows) (λ _. 1) (p.asked c.args.pages.now) (p.asked c.part_next.new.pages) (λ n h. omega arith) (c.part_next.ensures.own told)) (c.set_parts.ensures.more (rw (f.pages, f.count) told))

pub returns-clause-more : goal.returns-clause-more
returns-clause-more g c = λ told.
    let p = g.P.Pages in
    let f = c.part_next.ensures.frame in
    asks-further (λ _. 1) (p.asked c.args.pages.now) (p.asked c.part_next.new.pages) (p.asked c.set_parts.new.pages) (asks-more (map_uses rows_form (p.pages c.args.pages.now) c.args.tree.now.rows) (λ _. 1) (p.asked c.args.pages.now) (p.asked c.part_next.new.pages) (λ n h. omega arith) (c.part_next.ensures.own told)) (c.set_parts.ensures.more (rw (f.pages, f.count) told))

pub returns-clause-told : goal.returns-clause-told
returns-clause-told g c = λ told. let f = c.part_next.ensures.frame in c.in_ok-set_parts.ensures.told (rw (f.pages, f.count) told)
