use Rattle.std.proofs.Common.{◌≡◌, ℕ, Bool, if◌then◌else◌, ap, sym, ◌∙◌, subst, Err}
use Rattle.std.proofs.lemmas.Result.{IfOk-weaker, err_from_is_err_and}
use Rattle.page_face.specs.FreeList.{PageMap}
use Rattle.btree_nodes.specs.Supply as supply
use Rattle.rtree_nodes.specs.Stock.{View, view, plain}
use Rattle.node_rows.specs.Rows.{bytes_in}
use Rattle.node_rows.specs.Turns.{Turns, moved}
use Rattle.node_rows.specs.Impacts.{impact_in, raised}
use Rattle.node_rows.proofs.Told.{told-turned}
use Rattle.irtree_shape.proofs.Stepping.{steps-parted}
use Rattle.page_face.specs.declared.fault.PageFault.TheVariants.{Damaged}
use Rattle.btree_nodes.proofs.Harms.{asks-further}
use Rattle.node_rows.proofs.Harms.{harm-later}
use Rattle.irtree_insert.proofs.add.part_words.Goals as goal
use Rattle.irtree_insert.proofs.add.part_words.Goals.{then-is_moved, else-is_moved}

pub returns-clause-steps : goal.returns-clause-steps
returns-clause-steps g c = λ free supplied y z apart none.
    let v : View = view (g.P.Pages.pages c.args.pages.now) c.args.tree.now.rows (g.P.Pages.count c.args.pages.now) (g.P.Pages.first c.args.pages.now) free in
    let mid : PageMap = g.P.Pages.pages c.move_slots.new.pages in
    let r1 : ℕ = c.move_slots.new.tree.rows in
    let turn = c.in_ok-move_slots.ensures.turns free apart supplied.rows none in
    let home : c.if-is_moved.home ≡ (if c.args.is_moved then c.args.right else c.args.page) =
    elim c.if-is_moved.branch [
      | then-is_moved w ↦ w.home-is ∙ ap (λ (b : Bool). if b then c.args.right else c.args.page) (sym w.if-is_moved.true)
      | else-is_moved w ↦ w.home-is ∙ ap (λ (b : Bool). if b then c.args.right else c.args.page) (sym w.if-is_moved.false)
    ] in
    IfOk-weaker c.raise.result _ _
    (λ u next. steps-parted v mid (g.P.Pages.pages c.raise.new.pages) r1 (g.P.Pages.count c.move_slots.new.pages) (g.P.Pages.first c.move_slots.new.pages)
    c.raise.new.tree.rows (g.P.Pages.count c.raise.new.pages) (g.P.Pages.first c.raise.new.pages) c.args.page c.args.moves c.args.right c.args.at c.args.is_moved (impact_in c.args.words.now) supplied y z turn
    (subst (λ (h : ℕ). Turns (supply.view mid (g.P.Pages.count c.move_slots.new.pages) (g.P.Pages.first c.move_slots.new.pages) turn.free) r1 (g.P.Pages.pages c.raise.new.pages) (g.P.Pages.count c.raise.new.pages)
    (g.P.Pages.first c.raise.new.pages) c.raise.new.tree.rows (raised h c.args.at (impact_in c.args.words.now) (bytes_in mid r1))) home next))
    (c.raise.ensures.turns turn.free turn.rows)

pub returns-clause-no_false_damage : goal.returns-clause-no_false_damage
returns-clause-no_false_damage g c = λ free supplied y z apart none told damage.
    let v : View = view (g.P.Pages.pages c.args.pages.now) c.args.tree.now.rows (g.P.Pages.count c.args.pages.now) (g.P.Pages.first c.args.pages.now) free in
    let turn = c.in_ok-move_slots.ensures.turns free apart supplied.rows none in
    let told' = told-turned (plain v) c.args.tree.now.rows (g.P.Pages.pages c.move_slots.new.pages) (g.P.Pages.count c.move_slots.new.pages) (g.P.Pages.first c.move_slots.new.pages) c.move_slots.new.tree.rows
    (moved c.args.page c.args.moves c.args.right (bytes_in (g.P.Pages.pages c.args.pages.now) c.args.tree.now.rows)) turn told in
    c.raise.ensures.no_false_damage turn.free turn.rows told' damage

pub returns-in_err-move_slots-clause-damaged : goal.returns-in_err-move_slots-clause-damaged
returns-in_err-move_slots-clause-damaged g c = λ told damage.
    let r = err_from_is_err_and c.from_residual.result c.from_residual.ensures.1 in
    λ e. (let same : c.in_err-move_slots.field-0.0 ≡ Damaged damage = cc (r.1, r.2, e) in
    c.in_err-move_slots.ensures.damaged told damage (ap Err same))

pub returns-clause-damaged : goal.returns-clause-damaged
returns-clause-damaged g c = λ told damage e.
    let p = g.P.Pages in
    harm-later c.raise.new.tree.rows (λ _. 1) (p.pages c.raise.new.pages) (p.count c.raise.new.pages) (p.first c.raise.new.pages) (p.asked c.args.pages.now) (p.asked c.move_slots.new.pages) (p.asked c.raise.new.pages) damage
    (c.move_slots.ensures.more told) (c.raise.ensures.damaged (c.in_ok-move_slots.ensures.told told) damage e)

pub returns-clause-told : goal.returns-clause-told
returns-clause-told g c = λ told. c.raise.ensures.told (c.in_ok-move_slots.ensures.told told)

pub returns-clause-more : goal.returns-clause-more
returns-clause-more g c = λ told. asks-further (λ _. 1) _ _ _ (c.move_slots.ensures.more told) (c.raise.ensures.more (c.in_ok-move_slots.ensures.told told))
