use Rattle.std.proofs.Common.{◌≡◌, ap, Err, arith}
use Rattle.std.proofs.lemmas.Result.{err_from_is_err_and}
use Rattle.page_face.specs.declared.fault.PageFault.TheVariants.{Damaged}
use Rattle.btree_nodes.specs.Tree.{map_uses}
use Rattle.btree_nodes.proofs.Harms.{asks-more}
use Rattle.rtree_nodes.specs.Stock.{rows_form}
use Rattle.node_rows.proofs.Harms.{harm-looked}
use Rattle.irtree_insert.proofs.part.ask.Goals as goal

pub returns-in_err-like-clause-damaged : goal.returns-in_err-like-clause-damaged
returns-in_err-like-clause-damaged g c = λ told damage.
    let p = g.P.Pages in
    let f = c.like.ensures.frame in
    let r = err_from_is_err_and c.from_residual.result c.from_residual.ensures.1 in
    λ e. (let same : c.in_err-like.field-0.0 ≡ Damaged damage = cc (r.1, r.2, e) in
    harm-looked (p.pages c.args.pages.now) (p.pages c.like.new.pages) (p.count c.args.pages.now) (p.count c.like.new.pages) (p.first c.like.new.pages) c.args.tree.now.rows (p.asked c.args.pages.now) (p.asked c.like.new.pages) damage
    f.pages f.count (c.in_err-like.ensures.damaged told damage (ap Err same)))

pub returns-in_err-like-clause-more : goal.returns-in_err-like-clause-more
returns-in_err-like-clause-more g c = λ told.
    let p = g.P.Pages in
    asks-more (map_uses rows_form (p.pages c.args.pages.now) c.args.tree.now.rows) (λ _. 1) (p.asked c.args.pages.now) (p.asked c.like.new.pages) (λ n h. omega arith) (c.like.ensures.own told)

pub returns-clause-more : goal.returns-clause-more
returns-clause-more g c = λ told.
    let p = g.P.Pages in
    asks-more (map_uses rows_form (p.pages c.args.pages.now) c.args.tree.now.rows) (λ _. 1) (p.asked c.args.pages.now) (p.asked c.like.new.pages) (λ n h. omega arith) (c.like.ensures.own told)
