use Rattle.std.proofs.Common.{◌≡◌, sym, Some, subst, true, false}
use Rattle.std.specs.Prelude.{IfOk}
use Rattle.rtree_nodes.specs.declared.content.Slot.{Slot}
use Rattle.node_rows.specs.Rows.{Bytes, bytes_in}
use Rattle.node_rows.specs.Impacts.{impact_in}
use Rattle.tree_check.specs.Agreement.{IsRightSlot, IsEntryIn, IsMissingIn}
use Rattle.tree_check.proofs.words.are_right_in.Goals as goal

pub returns-in-Place-clause-right : goal.returns-in-Place-clause-right
returns-in-Place-clause-right g c = λ entries sound.
    let b : Bytes = bytes_in (g.P.Pages.pages c.args.pages.now) c.args.tree.now.rows in
    subst (λ (s : Slot). IfOk c.are_of_place.result (λ right. right ≡ true → IsRightSlot b entries.places (λ w. impact_in c.args.words.now w) (Some s))) (sym c.in-Place.is)
    (c.are_of_place.ensures.right entries sound.holds)

pub returns-in-Place-clause-wrong : goal.returns-in-Place-clause-wrong
returns-in-Place-clause-wrong g c = λ entries sound.
    let b : Bytes = bytes_in (g.P.Pages.pages c.args.pages.now) c.args.tree.now.rows in
    subst (λ (s : Slot). IfOk c.are_of_place.result (λ right. right ≡ false → IsRightSlot b entries.places (λ w. impact_in c.args.words.now w) (Some s) → ⊥)) (sym c.in-Place.is)
    (c.are_of_place.ensures.wrong entries sound.holds)

pub returns-in-Place-clause-held : goal.returns-in-Place-clause-held
returns-in-Place-clause-held g c = λ entries sound.
    subst (λ (s : Slot). IfOk c.are_of_place.result (λ right. IsEntryIn entries.places (Some s))) (sym c.in-Place.is) (c.are_of_place.ensures.held entries sound.holds)

pub returns-in-Place-clause-damaged : goal.returns-in-Place-clause-damaged
returns-in-Place-clause-damaged g c = λ entries sound damage e.
    subst (λ (s : Slot). IsMissingIn entries.places (Some s) damage) (sym c.in-Place.is)
    (c.are_of_place.ensures.damaged entries sound.holds sound.readable sound.tables_counted damage e)
