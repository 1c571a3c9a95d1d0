use Rattle.std.proofs.Common.{◌≡◌, Err, ap, rules}
use Rattle.std.proofs.lemmas.Result.{err_from_is_err_and}
use Rattle.page_face.specs.declared.fault.PageFault.TheVariants.{Damaged}
use Rattle.btree_nodes.specs.Supply.{View, view}
use Rattle.store_tables.proofs.FrameLemmas.{kept-numbers, texts-stay}
use Rattle.store_tables.proofs.ChangeLemmas.{number-put}
use Rattle.store_tables.proofs.LookupLemmas.{number-of_number}
use Rattle.store_tables.proofs.tables.Tables.put_number.Goals as goal

pub returns-clause-put : goal.returns-clause-put
returns-clause-put g c entries free holds apart =
    let before : View = view (g.P.Pages.pages c.args.pages.now) (g.P.Pages.count c.args.pages.now) (g.P.Pages.first c.args.pages.now) free in
    let put = c.in_ok-put.ensures.put free (kept-numbers before c.args.self.now entries holds apart) in
    number-put before c.args.self.now entries holds apart c.args.number c.args.counted.now _ _ (search rules) c.encode.ensures.value (number-of_number c.number_bytes-key.result c.args.number (search rules) c.number_bytes-key.ensures) c.encode.ensures.bytes
    (g.P.Pages.pages c.put_row.new.pages) (g.P.Pages.count c.put_row.new.pages) (g.P.Pages.first c.put_row.new.pages) c.in_ok-put.put.root c.in_ok-put.put.was put.0 put.1

pub returns-clause-texts : goal.returns-clause-texts
returns-clause-texts g c entries free holds apart =
    let before : View = view (g.P.Pages.pages c.args.pages.now) (g.P.Pages.count c.args.pages.now) (g.P.Pages.first c.args.pages.now) free in
    let put = c.in_ok-put.ensures.put free (kept-numbers before c.args.self.now entries holds apart) in
    texts-stay before c.args.self.now (g.P.Pages.pages c.put_row.new.pages) (g.P.Pages.count c.put_row.new.pages) (g.P.Pages.first c.put_row.new.pages) c.in_ok-put.put.root _ entries holds apart put.1

pub returns-in_err-put-clause-no_false_damage : goal.returns-in_err-put-clause-no_false_damage
returns-in_err-put-clause-no_false_damage g c entries free holds apart damage =
    let before : View = view (g.P.Pages.pages c.args.pages.now) (g.P.Pages.count c.args.pages.now) (g.P.Pages.first c.args.pages.now) free in
    let p = err_from_is_err_and c.from_residual.result c.from_residual.ensures.1 in
    λ e. (let same : c.in_err-put.field-0.0 ≡ Damaged damage = cc (p.1, p.2, e) in
    c.in_err-put.ensures.no_false_damage free (kept-numbers before c.args.self.now entries holds apart) damage (ap Err same))
