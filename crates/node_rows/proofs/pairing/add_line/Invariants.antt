use Rattle.std.proofs.Common.{◌≡◌, ◌+◌, ℕ, ◌<◌, ◌≤◌, min, slice_index, length}
use Rattle.node_rows.specs.Counts.{sign, most}
use Rattle.node_rows.proofs.pairing.add_line.Given as goal

abbrev pub invariant-loop-j : goal.invariant-loop-j
invariant-loop-j l = record {
  long : length l.out ≡ 33;
  done : (j : ℕ) → j < l.j → slice_index l.out j ≡ min (slice_index l.initial.out j + sign (slice_index l.row j)) most;
  rest : (j : ℕ) → l.j ≤ j → slice_index l.out j ≡ slice_index l.initial.out j;
}
