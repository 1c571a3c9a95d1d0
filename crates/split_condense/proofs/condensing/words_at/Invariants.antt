use Rattle.std.proofs.Common.{◌≡◌, ℕ, take}
use Rattle.node_rows.specs.Impacts.{impact_in}
use Rattle.node_inverted.specs.Lifts.{lifted_at}
use Rattle.split_condense.proofs.condensing.words_at.Given as goal

-- the words of the rows so far
abbrev pub invariant-loop-row : goal.invariant-loop-row
invariant-loop-row l = record { words : (w : ℕ) → impact_in l.words.items w ≡ lifted_at (take l.row-index l.rows) w l.at }
