use Rattle.std.proofs.Common.{◌≡◌, ℕ, ◌<◌, ◌≤◌, length, slice_index, if◌then◌else◌, ◌==◌}
use Rattle.std.specs.Int.{bit_at}
use Rattle.node_rows.proofs.slots.moving.Given as goal

abbrev pub invariant-loop-i : goal.invariant-loop-i
invariant-loop-i l = record {
  long : length l.out ≡ 32;
  done : (j : ℕ) → j < l.i → slice_index l.out j ≡ (if bit_at l.slots j == 1 then slice_index l.row j else 0);
  rest : (j : ℕ) → l.i ≤ j → slice_index l.out j ≡ 0;
}
