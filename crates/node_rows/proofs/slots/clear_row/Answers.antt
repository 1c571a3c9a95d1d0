use Rattle.std.proofs.Common.{refl, [], ◌∷◌}
use Rattle.node_rows.proofs.Bytes.{zero-at}
use Rattle.node_rows.proofs.slots.clear_row.Goals as goal

pub returns-clause-none : goal.returns-clause-none
returns-clause-none c = λ i. zero-at (0 ∷ 0 ∷ 0 ∷ 0 ∷ 0 ∷ 0 ∷ 0 ∷ 0 ∷ 0 ∷ 0 ∷ 0 ∷ 0 ∷ 0 ∷ 0 ∷ 0 ∷ 0 ∷ 0 ∷ 0 ∷ 0 ∷ 0 ∷ 0 ∷ 0 ∷ 0 ∷ 0 ∷ 0 ∷ 0 ∷ 0 ∷ 0 ∷ 0 ∷ 0 ∷ 0 ∷ 0 ∷ []) i refl
