use Rattle.std.proofs.Common.{◌≡◌, ◌+◌, ℕ, ◌<◌, ◌≤◌, min, slice_index}
use Rattle.node_rows.specs.Counts.{sign, most}
use Rattle.node_rows.proofs.sharing.add_signs.Given as goal

abbrev pub invariant-loop-i : goal.invariant-loop-i
invariant-loop-i l = record {
  done : (j : ℕ) → j < l.i → slice_index l.counts j ≡ min (slice_index l.initial.counts j + sign (slice_index l.row j)) most;
  rest : (j : ℕ) → l.i ≤ j → slice_index l.counts j ≡ slice_index l.initial.counts j;
}
