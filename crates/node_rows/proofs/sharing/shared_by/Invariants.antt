use Rattle.std.proofs.Common.{◌≡◌, ℕ, ◌<◌, min, slice_index, take}
use Rattle.node_rows.specs.Counts.{most}
use Rattle.node_rows.proofs.Known.{signs_in}
use Rattle.node_rows.proofs.sharing.shared_by.Given as goal

-- the rows so far are counted
abbrev pub invariant-loop-row : goal.invariant-loop-row
invariant-loop-row l = (i : ℕ) → i < 32 → slice_index l.counts i ≡ min (signs_in (take l.row-index l.rows) i) most
