use Rattle.std.proofs.Common.{◌≡◌, ℕ, ◌<◌, ◌≤◌, slice_index, slice_index_or, length, []}
use Rattle.node_rows.specs.Counts.{cell, counted_on}
use Rattle.node_rows.proofs.pairing.add_pairs.Given as goal

abbrev pub invariant-loop-i : goal.invariant-loop-i
invariant-loop-i l = record {
  long : length l.table ≡ 33;
  done : (i j : ℕ) → i < l.i → j < 33 → cell l.table i j ≡ counted_on (cell l.initial.table i j) (slice_index l.row i) (slice_index l.row j);
  rest : (i : ℕ) → l.i ≤ i → slice_index_or l.table i [] ≡ slice_index_or l.initial.table i [];
}
