use Rattle.std.proofs.Common.{◌≡◌, Err, ap, rules}
use Rattle.std.proofs.lemmas.Result.{err_from_is_err_and}
use Rattle.page_face.specs.declared.fault.PageFault.TheVariants.{Damaged}
use Rattle.btree_nodes.specs.Supply.{View, view}
use Rattle.store_tables.proofs.FrameLemmas.{kept-numbers, texts-stay}
use Rattle.store_tables.proofs.ChangeLemmas.{number-removed}
use Rattle.store_tables.proofs.LookupLemmas.{number-of_number}
use Rattle.store_tables.proofs.tables.Tables.remove_number.Goals as goal

pub returns-clause-removed : goal.returns-clause-removed
returns-clause-removed g c entries free holds apart =
    let before : View = view (g.P.Pages.pages c.args.pages.now) (g.P.Pages.count c.args.pages.now) (g.P.Pages.first c.args.pages.now) free in
    let removed = c.in_ok-removed.ensures.removed free (kept-numbers before c.args.self.now entries holds apart) in
    number-removed before c.args.self.now entries holds apart c.args.number _ (search rules) (number-of_number c.number_bytes.result c.args.number (search rules) c.number_bytes.ensures)
    (g.P.Pages.pages c.remove_row.new.pages) (g.P.Pages.count c.remove_row.new.pages) (g.P.Pages.first c.remove_row.new.pages) c.in_ok-removed.removed.root c.in_ok-removed.removed.was removed.0 removed.1

pub returns-clause-texts : goal.returns-clause-texts
returns-clause-texts g c entries free holds apart =
    let before : View = view (g.P.Pages.pages c.args.pages.now) (g.P.Pages.count c.args.pages.now) (g.P.Pages.first c.args.pages.now) free in
    let removed = c.in_ok-removed.ensures.removed free (kept-numbers before c.args.self.now entries holds apart) in
    texts-stay before c.args.self.now (g.P.Pages.pages c.remove_row.new.pages) (g.P.Pages.count c.remove_row.new.pages) (g.P.Pages.first c.remove_row.new.pages) c.in_ok-removed.removed.root _ entries holds apart removed.1

pub returns-in_err-removed-clause-no_false_damage : goal.returns-in_err-removed-clause-no_false_damage
returns-in_err-removed-clause-no_false_damage g c entries free holds apart damage =
    let before : View = view (g.P.Pages.pages c.args.pages.now) (g.P.Pages.count c.args.pages.now) (g.P.Pages.first c.args.pages.now) free in
    let p = err_from_is_err_and c.from_residual.result c.from_residual.ensures.1 in
    λ e. (let same : c.in_err-removed.field-0.0 ≡ Damaged damage = cc (p.1, p.2, e) in
    c.in_err-removed.ensures.no_false_damage free (kept-numbers before c.args.self.now entries holds apart) damage (ap Err same))
