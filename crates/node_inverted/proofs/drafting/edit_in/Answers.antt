use Rattle.std.proofs.Common.{◌≡◌, ◌∙◌, sym, ap, subst, max, ℕ}
use Rattle.std.proofs.Math.Path.{fun_ext}
use Rattle.node_rows.specs.Rows.{Bytes}
use Rattle.node_rows.specs.Turns.{with_row}
use Rattle.node_rows.specs.Impacts.{impact_at, raised}
use Rattle.node_inverted.specs.Drafts.{IsDrafting, edited}
use Rattle.node_inverted.specs.declared.edits.RowEdit.{RowEdit}
use Rattle.node_rows.proofs.Impacts.{byte-raised, byte-same, byte-set}
use Rattle.node_inverted.proofs.drafting.edit_in.Goals as goal

pub returns-in-Set-clause-sound : goal.returns-in-Set-clause-sound
returns-in-Set-clause-sound c = λ count s. c.set.ensures.sound count s (c.holds.ensures c.if-not-holds.false)

pub returns-in-Set-clause-edited : goal.returns-in-Set-clause-edited
returns-in-Set-clause-edited c = λ count pages root b s d yes.
    subst (λ (e : RowEdit). IsDrafting pages root (edited c.args.node c.args.number e b) c.set.new.self) (sym c.in-Set.is) (c.set.ensures.set count pages root b s (c.holds.ensures c.if-not-holds.false) d yes)

pub returns-then-row-slot-clause-edited : goal.returns-then-row-slot-clause-edited
returns-then-row-slot-clause-edited c = λ count pages root b s d yes.
    let is_row = c.row-row.ensures count pages root b s (c.holds.ensures c.if-not-holds.false) d in
    let node : ℕ = c.args.node in
    let word : ℕ = c.args.number in
    let slot : ℕ = c.in-Raise.slot.at in
    let same : b ≡ raised node slot (impact_at (word, c.in-Raise.impact)) b =
    fun_ext (λ n. fun_ext (λ w. fun_ext (λ i. byte-same node word slot c.greater-byte.result b (sym (is_row slot) ∙ c.if-row-slot.true) n w i
    ∙ byte-raised node word slot c.greater-byte.result b c.in-Raise.impact (c.greater-byte.ensures ∙ ap (max c.in-Raise.impact) (is_row slot)) n w i))) in
    subst (λ (e : RowEdit). IsDrafting pages root (edited node word e b) c.args.draft.now) (sym c.in-Raise.is) (subst (λ (f : Bytes). IsDrafting pages root f c.args.draft.now) same d)

pub returns-else-row-slot-clause-sound : goal.returns-else-row-slot-clause-sound
returns-else-row-slot-clause-sound c = λ count s. c.set-in-Raise.ensures.sound count s (c.holds.ensures c.if-not-holds.false)

pub returns-else-row-slot-clause-edited : goal.returns-else-row-slot-clause-edited
returns-else-row-slot-clause-edited c = λ count pages root b s d yes.
    let here = c.holds.ensures c.if-not-holds.false in
    let is_row = c.row-row.ensures count pages root b s here d in
    let node : ℕ = c.args.node in
    let word : ℕ = c.args.number in
    let slot : ℕ = c.in-Raise.slot.at in
    let same : with_row node word c.put_byte.new.row b ≡ raised node slot (impact_at (word, c.in-Raise.impact)) b =
    fun_ext (λ n. fun_ext (λ w. fun_ext (λ i. byte-set node word slot c.greater-byte.result b c.row-row.result c.put_byte.new.row is_row c.put_byte.ensures n w i
    ∙ byte-raised node word slot c.greater-byte.result b c.in-Raise.impact (c.greater-byte.ensures ∙ ap (max c.in-Raise.impact) (is_row slot)) n w i))) in
    subst (λ (e : RowEdit). IsDrafting pages root (edited node word e b) c.set-in-Raise.new.self) (sym c.in-Raise.is)
    (subst (λ (f : Bytes). IsDrafting pages root f c.set-in-Raise.new.self) same (c.set-in-Raise.ensures.set count pages root b s here d yes))
