use Rattle.std.proofs.Common.{◌≡◌, Err, ap}
use Rattle.std.proofs.lemmas.Result.{err_from_is_err_and}
use Rattle.page_face.specs.declared.fault.PageFault.TheVariants.{Damaged}
use Rattle.btree_nodes.specs.Supply.{View, view}
use Rattle.store_tables.proofs.FrameLemmas.{kept-places}
use Rattle.store_tables.proofs.ChangeLemmas.{place-put}
use Rattle.store_tables.proofs.LookupLemmas.{number-key}
use Rattle.store_tables.proofs.tables.Tables.put_place.Goals as goal

pub returns-clause-put : goal.returns-clause-put
returns-clause-put g c entries free holds apart =
    let before : View = view (g.P.Pages.pages c.args.pages.now) (g.P.Pages.count c.args.pages.now) (g.P.Pages.first c.args.pages.now) free in
    let put = c.in_ok-put.ensures.put free (kept-places before c.args.self.now entries holds apart) in
    place-put before c.args.self.now entries holds apart c.args.key.now c.args.stored.now _ _ c.bytes.ensures.name (c.encode.ensures.value, c.requires) (number-key c.bytes.result c.args.key.now c.bytes.ensures.form) c.encode.ensures.bytes
    (g.P.Pages.pages c.put_row.new.pages) (g.P.Pages.count c.put_row.new.pages) (g.P.Pages.first c.put_row.new.pages) c.in_ok-put.put.root c.in_ok-put.put.was put.0 put.1

pub returns-in_err-put-clause-no_false_damage : goal.returns-in_err-put-clause-no_false_damage
returns-in_err-put-clause-no_false_damage g c entries free holds apart damage =
    let before : View = view (g.P.Pages.pages c.args.pages.now) (g.P.Pages.count c.args.pages.now) (g.P.Pages.first c.args.pages.now) free in
    let p = err_from_is_err_and c.from_residual.result c.from_residual.ensures.1 in
    λ e. (let same : c.in_err-put.field-0.0 ≡ Damaged damage = cc (p.1, p.2, e) in
    c.in_err-put.ensures.no_false_damage free (kept-places before c.args.self.now entries holds apart) damage (ap Err same))
