use Rattle.std.proofs.Common.{◌≡◌, ℕ, List, ap, subst, Err}
use Rattle.std.proofs.lemmas.Result.{err_from_is_err_and}
use Rattle.page_face.specs.FreeList.{PageMap}
use Rattle.page_face.specs.declared.fault.PageFault.TheVariants.{Damaged}
use Rattle.btree_nodes.specs.Supply.{View, view}
use Rattle.btree_nodes.proofs.Harms.{asks-further}
use Rattle.node_rows.specs.Rows.{bytes_in}
use Rattle.node_rows.specs.Turns.{Turns}
use Rattle.node_inverted.specs.Drafts.{with_rows}
use Rattle.node_inverted.specs.declared.taking.NodeRow.{NodeRow}
use Rattle.node_inverted.proofs.Gathers.{moving-set}
use Rattle.node_rows.proofs.Harms.{harm-later}
use Rattle.node_rows.proofs.Told.{told-turned}
use Rattle.node_inverted.proofs.moving.set_parts.Goals as goal

pub returns-clause-turns : goal.returns-clause-turns
returns-clause-turns g c = λ before root slots at b h.
    let old : PageMap = g.P.Pages.pages c.args.pages.now in
    let mid : PageMap = g.P.Pages.pages c.set_rows.new.pages in
    let new : PageMap = g.P.Pages.pages c.set_rows-2.new.pages in
    let rows : ℕ = c.args.tree.now.rows in
    let one = subst (λ (rs : List NodeRow). Turns (view old (g.P.Pages.count c.args.pages.now) (g.P.Pages.first c.args.pages.now) h.turn.free) rows mid (g.P.Pages.count c.set_rows.new.pages) (g.P.Pages.first c.set_rows.new.pages) c.set_rows.new.tree.rows
    (with_rows c.args.node rs (bytes_in old rows))) c.deref.ensures.value (c.in_ok-set_rows.ensures.turns h.turn.free h.turn.rows) in
    let two = subst (λ (rs : List NodeRow). Turns (view mid (g.P.Pages.count c.set_rows.new.pages) (g.P.Pages.first c.set_rows.new.pages) one.free) c.set_rows.new.tree.rows new (g.P.Pages.count c.set_rows-2.new.pages) (g.P.Pages.first c.set_rows-2.new.pages) c.set_rows-2.new.tree.rows
    (with_rows c.args.to rs (bytes_in mid c.set_rows.new.tree.rows))) c.deref-2.ensures.value (c.in_ok-set_rows-2.ensures.turns one.free one.rows) in
    moving-set before root old (g.P.Pages.count c.args.pages.now) (g.P.Pages.first c.args.pages.now) rows c.args.node slots c.args.to b at c.args.stays.now.items c.args.goes.now.items h
    mid (g.P.Pages.count c.set_rows.new.pages) (g.P.Pages.first c.set_rows.new.pages) c.set_rows.new.tree.rows one
    new (g.P.Pages.count c.set_rows-2.new.pages) (g.P.Pages.first c.set_rows-2.new.pages) c.set_rows-2.new.tree.rows two

pub returns-in_err-set_rows-clause-no_false_damage : goal.returns-in_err-set_rows-clause-no_false_damage
returns-in_err-set_rows-clause-no_false_damage g c free rows told damage =
    let p = err_from_is_err_and c.from_residual.result c.from_residual.ensures.1 in
    λ e. (let same : c.in_err-set_rows.field-0.0 ≡ Damaged damage = cc (p.1, p.2, e) in
    c.in_err-set_rows.ensures.no_false_damage free rows told damage (ap Err same))

pub returns-in_err-set_rows-2-clause-no_false_damage : goal.returns-in_err-set_rows-2-clause-no_false_damage
returns-in_err-set_rows-2-clause-no_false_damage g c free rows told damage =
    let before : View = view (g.P.Pages.pages c.args.pages.now) (g.P.Pages.count c.args.pages.now) (g.P.Pages.first c.args.pages.now) free in
    let one = c.in_ok-set_rows.ensures.turns free rows in
    let told' = told-turned before c.args.tree.now.rows (g.P.Pages.pages c.set_rows.new.pages) (g.P.Pages.count c.set_rows.new.pages) (g.P.Pages.first c.set_rows.new.pages) c.set_rows.new.tree.rows
    (with_rows c.args.node c.deref.result.now (bytes_in (g.P.Pages.pages c.args.pages.now) c.args.tree.now.rows)) one told in
    let p = err_from_is_err_and c.from_residual-in_err-set_rows-2.result c.from_residual-in_err-set_rows-2.ensures.1 in
    λ e. (let same : c.in_err-set_rows-2.field-0.0 ≡ Damaged damage = cc (p.1, p.2, e) in
    c.in_err-set_rows-2.ensures.no_false_damage one.free one.rows told' damage (ap Err same))

pub returns-in_err-set_rows-2-clause-damaged : goal.returns-in_err-set_rows-2-clause-damaged
returns-in_err-set_rows-2-clause-damaged g c = λ told damage.
    let p = g.P.Pages in
    let r = err_from_is_err_and c.from_residual-in_err-set_rows-2.result c.from_residual-in_err-set_rows-2.ensures.1 in
    λ e. (let same : c.in_err-set_rows-2.field-0.0 ≡ Damaged damage = cc (r.1, r.2, e) in
    harm-later _ (λ _. 1) (p.pages c.set_rows-2.new.pages) (p.count c.set_rows-2.new.pages) (p.first c.set_rows-2.new.pages) (p.asked c.args.pages.now) (p.asked c.set_rows.new.pages) (p.asked c.set_rows-2.new.pages) damage
    (c.set_rows.ensures.more told) (c.in_err-set_rows-2.ensures.damaged (c.in_ok-set_rows.ensures.told told) damage (ap Err same)))

pub returns-in_err-set_rows-2-clause-more : goal.returns-in_err-set_rows-2-clause-more
returns-in_err-set_rows-2-clause-more g c = λ told. asks-further (λ _. 1) _ _ _ (c.set_rows.ensures.more told) (c.set_rows-2.ensures.more (c.in_ok-set_rows.ensures.told told))

pub returns-clause-more : goal.returns-clause-more
returns-clause-more g c = λ told. asks-further (λ _. 1) _ _ _ (c.set_rows.ensures.more told) (c.set_rows-2.ensures.more (c.in_ok-set_rows.ensures.told told))

pub returns-clause-told : goal.returns-clause-told
returns-clause-told g c = λ told. c.in_ok-set_rows-2.ensures.told (c.in_ok-set_rows.ensures.told told)
