use Rattle.std.proofs.Common.{◌≡◌, ◌≤◌, ◌+◌, ◌^◌, ◌∙◌, ℕ, sym, ap, subst, arith, Err}
use Rattle.std.proofs.lemmas.Result.{err_from_is_err_and}
use Rattle.page_face.specs.declared.fault.PageFault.TheVariants.{Damaged}
use Rattle.btree_nodes.specs.Tree.{map_rows}
use Rattle.rtree_nodes.specs.Stock.{rows_form}
use Rattle.node_rows.specs.Rows.{bytes_in}
use Rattle.node_rows.specs.Turns.{Next}
use Rattle.node_rows.proofs.Bytes.{bytes-large}
use Rattle.node_rows.proofs.Harms.{harm-looked}
use Rattle.node_inverted.proofs.ahead.pass.Goals as goal

pub returns-in-None-clause-ahead : goal.returns-in-None-clause-ahead
returns-in-None-clause-ahead g c = λ b k map same on next held. (
  λ v i l.
      let e = c.in-None.ensures.reached in
      let big : 2 ^ 64 ≤ v = omega arith in
      sym (same v i (omega arith)) ∙ bytes-large (map_rows rows_form (g.P.Pages.pages c.args.pages.now) c.args.tree.now.rows) c.args.node v i big,
  held,
)

pub returns-in_ok-next-in-Some-clause-ahead : goal.returns-in_ok-next-in-Some-clause-ahead
returns-in_ok-next-in-Some-clause-ahead g c = λ b k map same on next held.
    let node : ℕ = c.args.node in
    let is : c.in-Some.from ≡ c.args.number + 1 = c.in-Some.ensures.reached in
    let later : (w i : ℕ) → c.in-Some.from ≤ w → bytes_in (g.P.Pages.pages c.args.pages.now) c.args.tree.now.rows node w i ≡ b node w i = λ w i l. same w i (omega arith) in (
      subst (λ (m : ℕ). Next b node m c.in_ok-next-in-Some.next) is (c.in_ok-next-in-Some.ensures.next b map later held),
      c.in_ok-next-in-Some.ensures.copy b map later held,
    )

pub returns-in_err-next-in-Some-clause-damaged : goal.returns-in_err-next-in-Some-clause-damaged
returns-in_err-next-in-Some-clause-damaged g c = λ told damage.
    let p = g.P.Pages in
    let f = c.next_in.ensures.frame in
    let r = err_from_is_err_and c.from_residual.result c.from_residual.ensures.1 in
    λ e. (let same : c.in_err-next-in-Some.field-0.0 ≡ Damaged damage = cc (r.1, r.2, e) in
    harm-looked (p.pages c.args.pages.now) (p.pages c.next_in.new.pages) (p.count c.args.pages.now) (p.count c.next_in.new.pages) (p.first c.next_in.new.pages) c.args.tree.now.rows (p.asked c.args.pages.now) (p.asked c.next_in.new.pages) damage
    f.pages f.count (c.in_err-next-in-Some.ensures.damaged told damage (ap Err same)))
