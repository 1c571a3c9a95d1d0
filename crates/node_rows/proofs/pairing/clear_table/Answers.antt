use Rattle.std.proofs.Common.{ℕ, refl, List, [], ◌∷◌}
use Rattle.node_rows.proofs.Counts.{cell-clear}
use Rattle.node_rows.proofs.pairing.clear_table.Goals as goal

pub returns : goal.returns
returns c =
    let line : List ℕ = 0 ∷ 0 ∷ 0 ∷ 0 ∷ 0 ∷ 0 ∷ 0 ∷ 0 ∷ 0 ∷ 0 ∷ 0 ∷ 0 ∷ 0 ∷ 0 ∷ 0 ∷ 0 ∷ 0 ∷ 0 ∷ 0 ∷ 0 ∷ 0 ∷ 0 ∷ 0 ∷ 0 ∷ 0 ∷ 0 ∷ 0 ∷ 0 ∷ 0 ∷ 0 ∷ 0 ∷ 0 ∷ 0 ∷ [] in
    let table : List (List ℕ) = line ∷ line ∷ line ∷ line ∷ line ∷ line ∷ line ∷ line ∷ line ∷ line ∷ line ∷ line ∷ line ∷ line ∷ line ∷ line ∷ line ∷ line ∷ line ∷ line ∷ line ∷ line ∷ line ∷ line ∷ line ∷ line ∷ line ∷ line ∷ line ∷ line ∷ line ∷ line ∷ line ∷ [] in
    λ i j. cell-clear table i j refl
