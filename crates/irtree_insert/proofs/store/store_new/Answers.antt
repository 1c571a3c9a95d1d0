use Rattle.std.proofs.lemmas.Result.{err_from_is_err_and}
use Rattle.std.proofs.Common.{◌∙◌, ◌≡◌, ap, Err}
use Rattle.rtree_nodes.specs.Stock.{view}
use Rattle.irtree_shape.proofs.Stocks.{take-no_false_damage}
use Rattle.irtree_shape.proofs.Stepping.{steps-take}
use Rattle.page_face.specs.declared.fault.PageFault.TheVariants.{Damaged}
use Rattle.irtree_insert.proofs.store.store_new.Goals as goal

pub returns-in_err-page-clause-no_false_damage : goal.returns-in_err-page-clause-no_false_damage
returns-in_err-page-clause-no_false_damage g c =
    let passed = err_from_is_err_and c.from_residual.result c.from_residual.ensures.1 in
    rw (passed.1, passed.2) (λ rows free supplied damage e. take-no_false_damage (view (g.P.Pages.pages c.args.pages.now) rows (g.P.Pages.count c.args.pages.now) (g.P.Pages.first c.args.pages.now) free) damage supplied
    (c.take.ensures.damaged damage (c.in_err-page.was ∙ e)))

pub returns-clause-taken : goal.returns-clause-taken
returns-clause-taken g c = λ rows free supplied.
    let t = c.in_ok-page.ensures in
    steps-take (g.P.Pages.pages c.args.pages.now) (g.P.Pages.pages c.take.new.self) (g.P.Pages.pages c.store.new.pages) c.args.bytes.now rows
    (g.P.Pages.count c.args.pages.now) (g.P.Pages.count c.take.new.self) (g.P.Pages.first c.args.pages.now) (g.P.Pages.first c.take.new.self) _ _ c.in_ok-page.page free
    supplied t.counts_one t.takes_free t.others t.counted.0 c.in_ok-store.ensures.written c.in_ok-store.ensures.frame.count c.in_ok-store.ensures.first

pub returns-in_err-page-clause-damaged : goal.returns-in_err-page-clause-damaged
returns-in_err-page-clause-damaged g c = λ damage.
    let r = err_from_is_err_and c.from_residual.result c.from_residual.ensures.1 in
    λ e. (let same : c.in_err-page.field-0.0 ≡ Damaged damage = cc (r.1, r.2, e) in
    let kept = c.in_err-page.ensures.kept in
    rw (kept.0, kept.1, kept.2) (c.in_err-page.ensures.damaged damage (ap Err same)))
