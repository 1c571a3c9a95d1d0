use Rattle.std.proofs.Common.{◌≡◌, ◌+◌, ℕ, List, ap, ◌∙◌, subst, refl, sym, Err, true≢false, arith}
use Rattle.std.proofs.lemmas.Result.{err_from_is_err_and}
use Rattle.page_face.specs.declared.fault.PageFault.TheVariants.{Damaged}
use Rattle.rtree_nodes.specs.Slots.{filled, one}
use Rattle.rtree_nodes.specs.Stock.{View, view}
use Rattle.rtree_nodes.specs.Loose.{total_loose}
use Rattle.rtree_nodes.specs.Pages.{stored_in}
use Rattle.node_rows.specs.Damages.{IsRowsHarm}
use Rattle.node_rows.specs.Rows.{bytes_in}
use Rattle.node_inverted.specs.Lifts.{lifted_at}
use Rattle.node_inverted.specs.declared.taking.NodeRow.{NodeRow}
use Rattle.irtree_shape.specs.Words.{words_on}
use Rattle.irtree_shape.proofs.Words.{words-filled}
use Rattle.split_condense.specs.Orphans.{IsUnread, loose_in}
use Rattle.split_condense.proofs.Dissolves.{moves-dropped, dropped-none}
use Rattle.split_condense.proofs.Keeps.{loose-many}
use Rattle.split_condense.proofs.condensing.dissolve.Goals as goal

pub returns-clause-dissolved : goal.returns-clause-dissolved
returns-clause-dissolved g c = λ free supplied unused.
    let v : View = view (g.P.Pages.pages c.args.pages.now) c.args.tree.now.rows (g.P.Pages.count c.args.pages.now) (g.P.Pages.first c.args.pages.now) free in
    let taken = c.in_ok-rows.ensures.taken free supplied.rows in
    let b : ℕ → ℕ → ℕ = bytes_in v.pages v.rows c.args.page in
    let lifted : (w i : ℕ) → lifted_at c.deref.result.now w i ≡ bytes_in v.pages v.rows c.args.page w i = λ w i. ap (λ (rs : List NodeRow). lifted_at rs w i) c.deref.ensures.value ∙ taken.lifted w i in
    record {
      free = taken.turn.free;
      moves = moves-dropped v (g.P.Pages.pages c.take_rows.new.pages) c.take_rows.new.tree.rows (g.P.Pages.count c.take_rows.new.pages) (g.P.Pages.first c.take_rows.new.pages) c.args.page supplied unused taken.turn;
      none = dropped-none v (bytes_in v.pages v.rows) (g.P.Pages.pages c.take_rows.new.pages) c.take_rows.new.tree.rows c.args.page taken.turn.is;
      sums = λ F. c.in_ok-let_all_go.ensures.sums F b lifted;
      items = λ nodes e all. c.in_ok-let_all_go.ensures.items nodes b lifted e all;
    }

pub returns-in_err-rows-clause-no_false_damage : goal.returns-in_err-rows-clause-no_false_damage
returns-in_err-rows-clause-no_false_damage g c = λ free rows told form damage e.
    let p = err_from_is_err_and c.from_residual.result c.from_residual.ensures.1 in
    let same : c.in_err-rows.field-0.0 ≡ Damaged damage = cc (p.1, p.2, e) in
    c.in_err-rows.ensures.no_false_damage free rows told damage (ap Err same)

pub returns-in_err-let_all_go-clause-no_false_damage : goal.returns-in_err-let_all_go-clause-no_false_damage
returns-in_err-let_all_go-clause-no_false_damage g c = λ free rows told form damage e.
    let p = err_from_is_err_and c.from_residual-in_err-let_all_go.result c.from_residual-in_err-let_all_go.ensures.1 in
    let same : c.in_err-let_all_go.field-0.0 ≡ Damaged damage = cc (p.1, p.2, e) in
    let unread = subst (IsUnread c.args.page c.args.bytes.now) same c.in_err-let_all_go.ensures.refuses in
    true≢false (sym form ∙ unread.1)

pub returns-clause-many : goal.returns-clause-many
returns-clause-many g c =
    let b : ℕ → ℕ → ℕ = λ w i. lifted_at c.deref.result.now w i in
    let grew : total_loose (λ l y. one y) (loose_in c.let_all_go.new.orphans.items) ≡ total_loose (λ l y. one y) (loose_in c.args.orphans.now.items) + filled (words_on b (stored_in c.args.bytes.now))
    = c.in_ok-let_all_go.ensures.sums (λ l y. one y) b (λ w i. refl) in
    let n = loose-many c.let_all_go.new.orphans.items in
    let o = loose-many c.args.orphans.now.items in
    let w = words-filled b (stored_in c.args.bytes.now) in
    omega arith

pub returns-in_err-rows-clause-damaged : goal.returns-in_err-rows-clause-damaged
returns-in_err-rows-clause-damaged g c = λ form told damage e.
    let p = err_from_is_err_and c.from_residual.result c.from_residual.ensures.1 in
    let same : c.in_err-rows.field-0.0 ≡ Damaged damage = cc (p.1, p.2, e) in
    c.in_err-rows.ensures.damaged told damage (ap Err same)

pub returns-in_err-let_all_go-clause-damaged : goal.returns-in_err-let_all_go-clause-damaged
returns-in_err-let_all_go-clause-damaged g c = λ form told damage e.
    let p = g.P.Pages in
    let r = err_from_is_err_and c.from_residual-in_err-let_all_go.result c.from_residual-in_err-let_all_go.ensures.1 in
    let same : c.in_err-let_all_go.field-0.0 ≡ Damaged damage = cc (r.1, r.2, e) in
    let unread = subst (IsUnread c.args.page c.args.bytes.now) same c.in_err-let_all_go.ensures.refuses in
    absurd {A = IsRowsHarm (p.pages c.take_rows.new.pages) (p.count c.take_rows.new.pages) (p.first c.take_rows.new.pages) _ (p.asked c.args.pages.now) (p.asked c.take_rows.new.pages) damage} (true≢false (sym form ∙ unread.1))
