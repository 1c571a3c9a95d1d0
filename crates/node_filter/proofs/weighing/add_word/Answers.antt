use Rattle.std.proofs.Common.{ℕ, ◌∙◌, ◌||◌, Bool, ap, sym, nat_lt}
use Rattle.node_rows.specs.Rows.{Bytes, bytes_in}
use Rattle.node_filter.specs.Masks.{has_slot}
use Rattle.node_filter.specs.Numbers.{by_number}
use Rattle.node_filter.proofs.Marking.{slot-or}
use Rattle.node_filter.proofs.weighing.add_word.Goals as goal

pub returns-in-Ok-clause-slots : goal.returns-in-Ok-clause-slots
returns-in-Ok-clause-slots g c = λ map i l.
    let b : Bytes = bytes_in (g.P.Pages.pages c.args.pages.now) c.args.tree.now.rows in
    let known = sym c.number.ensures ∙ c.in-Some.is in
    slot-or c.args.marks.now.slots c.above_zero.result i
    ∙ ap (λ (b : Bool). has_slot c.args.marks.now.slots i || b)
    (c.above_zero.ensures i l ∙ ap (λ (n : ℕ). nat_lt 0 n) (c.in-Ok.ensures.row map i ∙ sym (ap (by_number (λ n. b c.args.node n i)) known)))
