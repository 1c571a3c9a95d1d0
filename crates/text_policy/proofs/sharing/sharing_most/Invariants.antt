use Rattle.text_policy.specs.Choices.{IsMostShared}
use Rattle.text_policy.proofs.Marks.{MarksBelow}
use Rattle.text_policy.proofs.sharing.sharing_most.Given as goal

abbrev pub invariant-loop-slot : goal.invariant-loop-slot
invariant-loop-slot l = MarksBelow l.slot (λ i. IsMostShared l.used l.shared i) l.mask
