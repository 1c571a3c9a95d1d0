use Rattle.std.proofs.Common.{◌≡◌, ◌∙◌, Err, ap, arith, inr}
use Rattle.std.proofs.lemmas.Result.{err_from_is_err_and}
use Rattle.btree_nodes.proofs.Walks.{same-fault}
use Rattle.rtree_nodes.specs.Slots.{Item}
use Rattle.rtree_nodes.specs.Stock.{View, view}
use Rattle.rtree_nodes.specs.Reach.{item_of}
use Rattle.node_rows.specs.Impacts.{impact_in}
use Rattle.irtree_shape.specs.Words.{worded}
use Rattle.irtree_insert.proofs.Lands.{place-fits, first-planted, empty-whole, standing-some}
use Rattle.page_face.specs.declared.fault.PageFault.TheVariants.{Damaged}
use Rattle.irtree_insert.proofs.insert.insert_at.Goals as goal

pub returns-in_err-root-clause-no_false_damage_standing : goal.returns-in_err-root-clause-no_false_damage_standing
returns-in_err-root-clause-no_false_damage_standing g c = λ before free level rest mine sums start standing fits told damage e.
    let now : View = view (g.P.Pages.pages c.args.pages.now) c.args.tree.now.rows (g.P.Pages.count c.args.pages.now) (g.P.Pages.first c.args.pages.now) free in
    let x : Item = worded (impact_in c.args.words.now) (item_of c.args.slot.now) in
    let some = standing-some before now level c.args.tree.now.root (c.args.goal, x) rest mine sums start standing in
    let zero_is : c.args.tree.now.root ≡ 0 = c.if-tree-eq0.true in
    absurd (omega arith)

pub returns-in_err-root-2-clause-no_false_damage_standing : goal.returns-in_err-root-2-clause-no_false_damage_standing
returns-in_err-root-2-clause-no_false_damage_standing g c =
    let passed = err_from_is_err_and c.from_residual-in_err-root-2.result c.from_residual-in_err-root-2.ensures.1 in
    rw (passed.1, passed.2) (λ before free level rest mine sums start standing fits told damage e.
    c.insert_below.ensures.no_false_damage_standing before free level rest mine sums start standing fits told damage (c.in_err-root-2.was ∙ ap Err (same-fault {T = Unit {0}} _ _ e)))

pub returns-then-tree-eq0-clause-planted : goal.returns-then-tree-eq0-clause-planted
returns-then-tree-eq0-clause-planted g c = λ free low fits whole.
    let before : View = view (g.P.Pages.pages c.args.pages.now) c.args.tree.now.rows (g.P.Pages.count c.args.pages.now) (g.P.Pages.first c.args.pages.now) free in
    let zero_is : c.args.tree.now.root ≡ 0 = c.if-tree-eq0.true in
    first-planted _ zero_is (c.in_ok-root.ensures.planted free (place-fits c.args.goal c.args.slot.now low fits) (empty-whole before c.args.tree.now.root zero_is whole))

pub returns-then-tree-eq0-clause-standing : goal.returns-then-tree-eq0-clause-standing
returns-then-tree-eq0-clause-standing g c = λ before free level rest mine sums start standing fits.
    let now : View = view (g.P.Pages.pages c.args.pages.now) c.args.tree.now.rows (g.P.Pages.count c.args.pages.now) (g.P.Pages.first c.args.pages.now) free in
    let x : Item = worded (impact_in c.args.words.now) (item_of c.args.slot.now) in
    let some = standing-some before now level c.args.tree.now.root (c.args.goal, x) rest mine sums start standing in
    let zero_is : c.args.tree.now.root ≡ 0 = c.if-tree-eq0.true in
    absurd (omega arith)

pub returns-in_err-root-clause-damaged : goal.returns-in_err-root-clause-damaged
returns-in_err-root-clause-damaged g c = λ told damage.
    let r = err_from_is_err_and c.from_residual.result c.from_residual.ensures.1 in
    λ e. (let same : c.in_err-root.field-0.0 ≡ Damaged damage = cc (r.1, r.2, e) in
    inr (c.in_err-root.ensures.damaged told damage (ap Err same)))

pub returns-in_err-root-2-clause-damaged : goal.returns-in_err-root-2-clause-damaged
returns-in_err-root-2-clause-damaged g c = λ told damage.
    let r = err_from_is_err_and c.from_residual-in_err-root-2.result c.from_residual-in_err-root-2.ensures.1 in
    λ e. (let same : c.in_err-root-2.field-0.0 ≡ Damaged damage = cc (r.1, r.2, e) in
    c.in_err-root-2.ensures.damaged told damage (ap Err same))
