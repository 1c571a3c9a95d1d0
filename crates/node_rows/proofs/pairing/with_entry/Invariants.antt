use Rattle.std.proofs.Common.{◌≡◌, ℕ, ◌<◌, slice_index, length}
use Rattle.node_rows.proofs.pairing.with_entry.Given as goal

abbrev pub invariant-loop-i : goal.invariant-loop-i
invariant-loop-i l = record {
  long : length l.all ≡ 33;
  done : (j : ℕ) → j < l.i → slice_index l.all j ≡ slice_index l.row j;
}
