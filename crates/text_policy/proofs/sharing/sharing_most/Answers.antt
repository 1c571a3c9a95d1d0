use Rattle.std.proofs.Common.{ℕ, ◌+◌, arith, sym, ap, ◌∙◌, subst, bit_or}
use Rattle.text_policy.specs.Choices.{IsMostShared}
use Rattle.text_policy.proofs.Marks.{MarksBelow, marks-next, marks-kept, most-same, both-same, not-both}
use Rattle.text_policy.proofs.sharing.sharing_most.Goals as goal
use Rattle.text_policy.proofs.sharing.sharing_most.Goals.{then-is_sharing, else-is_sharing}

pub loop-slot-preserved : goal.loop-slot-preserved
loop-slot-preserved c =
    let slot = c.loop-slot.slot in
    let P : ℕ → Type 0 = λ i. IsMostShared c.args.used c.args.shared.now i in
    let Q : ℕ → Type 0 = λ mask. MarksBelow (slot + 1) P mask in
    let same = most-same c.args.used c.args.shared.now c.most_shared.result slot c.most_shared.ensures in
    elim c.if-is_sharing.branch [
      | then-is_sharing w ↦
          let both = both-same _ _ _ _ (sym c.is_sharing.ensures ∙ w.if-is_sharing.true) in
          let is = w.mask-is ∙ ap (bit_or c.loop-slot.mask) w.bit-mask.ensures in
          subst Q (sym is) (marks-next slot P c.loop-slot.mask (omega arith) c.loop-slot.invariant (same.1 ((omega arith, both.0), both.1)))
      | else-is_sharing w ↦
          subst Q (sym w.mask-is) (marks-kept slot P c.loop-slot.mask c.loop-slot.invariant (λ is.
          let its = same.0 is in
          not-both _ _ _ _ (sym c.is_sharing.ensures ∙ w.if-is_sharing.false) its.0.1 its.1))
    ]
