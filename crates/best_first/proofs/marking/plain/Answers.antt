use Rattle.std.proofs.Common.{refl, [], ◌∷◌}
use Rattle.node_rows.proofs.Bytes.{zero-at}
use Rattle.best_first.proofs.marking.plain.Goals as goal

pub returns-clause-texts : goal.returns-clause-texts
returns-clause-texts c = λ i. zero-at (0 ∷ 0 ∷ 0 ∷ 0 ∷ 0 ∷ 0 ∷ 0 ∷ 0 ∷ 0 ∷ 0 ∷ 0 ∷ 0 ∷ 0 ∷ 0 ∷ 0 ∷ 0 ∷ 0 ∷ 0 ∷ 0 ∷ 0 ∷ 0 ∷ 0 ∷ 0 ∷ 0 ∷ 0 ∷ 0 ∷ 0 ∷ 0 ∷ 0 ∷ 0 ∷ 0 ∷ 0 ∷ []) i refl
