use Rattle.std.proofs.Common.{◌≡◌, ℕ, ◌+◌, ◌*◌, ◌^◌, ◌<◌, ◌≤◌, length, slice_index}
use Rattle.node_filter.proofs.weighing.add_weighed.Given as goal

-- the sums so far are the new ones
abbrev pub invariant-loop-at : goal.invariant-loop-at
invariant-loop-at l = record {
  long : length l.sums ≡ 32;
  done : (i : ℕ) → i < l.at → slice_index l.fn.sums i + 65025 < 2 ^ 32 → slice_index l.sums i ≡ slice_index l.fn.sums i + l.weight * slice_index l.row i;
  rest : (i : ℕ) → l.at ≤ i → slice_index l.sums i ≡ slice_index l.fn.sums i;
  small : (i : ℕ) → slice_index l.sums i ≤ slice_index l.fn.sums i + 65025;
}
