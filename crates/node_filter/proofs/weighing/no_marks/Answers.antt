use Rattle.std.proofs.Common.{refl, [], ◌∷◌}
use Rattle.node_rows.proofs.Bytes.{zero-at}
use Rattle.node_filter.proofs.Marking.{slot-none}
use Rattle.node_filter.proofs.weighing.no_marks.Goals as goal

pub returns-clause-slots : goal.returns-clause-slots
returns-clause-slots c = λ i. slot-none i

pub returns-clause-texts : goal.returns-clause-texts
returns-clause-texts c = λ i. zero-at (0 ∷ 0 ∷ 0 ∷ 0 ∷ 0 ∷ 0 ∷ 0 ∷ 0 ∷ 0 ∷ 0 ∷ 0 ∷ 0 ∷ 0 ∷ 0 ∷ 0 ∷ 0 ∷ 0 ∷ 0 ∷ 0 ∷ 0 ∷ 0 ∷ 0 ∷ 0 ∷ 0 ∷ 0 ∷ 0 ∷ 0 ∷ 0 ∷ 0 ∷ 0 ∷ 0 ∷ 0 ∷ []) i refl
