use Rattle.rtree_nodes.specs.Stock.{view}
use Rattle.irtree_shape.proofs.Stepping.{steps-paired}
use Rattle.irtree_insert.proofs.Counted.{counted-some}
use Rattle.std.proofs.Common.{◌≡◌, ap, Err}
use Rattle.std.proofs.lemmas.Result.{err_from_is_err_and}
use Rattle.page_face.specs.declared.fault.PageFault.TheVariants.{Damaged}
use Rattle.irtree_insert.proofs.store.store_two.Goals as goal

pub returns-clause-split : goal.returns-clause-split
returns-clause-split g c = λ rows free supplied unused.
    steps-paired (view (g.P.Pages.pages c.args.pages.now) rows (g.P.Pages.count c.args.pages.now) (g.P.Pages.first c.args.pages.now) free)
    (g.P.Pages.pages c.store_new.new.pages) (g.P.Pages.pages c.store.new.pages) c.args.front.now c.args.back.now (g.P.Pages.count c.store_new.new.pages) (g.P.Pages.first c.store_new.new.pages)
    (g.P.Pages.count c.store.new.pages) (g.P.Pages.first c.store.new.pages) c.args.page c.in_ok-right.right supplied unused (counted-some _ c.args.page c.requires.counted)
    (c.in_ok-right.ensures.taken rows free supplied) c.in_ok-store.ensures.written c.in_ok-store.ensures.frame.count c.in_ok-store.ensures.first

pub returns-in_err-right-clause-damaged : goal.returns-in_err-right-clause-damaged
returns-in_err-right-clause-damaged g c = λ damage.
    let r = err_from_is_err_and c.from_residual.result c.from_residual.ensures.1 in
    λ e. (let same : c.in_err-right.field-0.0 ≡ Damaged damage = cc (r.1, r.2, e) in
    c.in_err-right.ensures.damaged damage (ap Err same))
