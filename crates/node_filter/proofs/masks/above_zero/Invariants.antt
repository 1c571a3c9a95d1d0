use Rattle.std.proofs.Common.{◌≡◌, ℕ, ◌<◌, ◌≤◌, false, nat_lt, slice_index}
use Rattle.node_filter.specs.Masks.{has_slot}
use Rattle.node_filter.proofs.masks.above_zero.Given as goal

-- the slots so far are told
abbrev pub invariant-loop-at : goal.invariant-loop-at
invariant-loop-at l = record {
  done : (i : ℕ) → i < l.at → has_slot l.mask i ≡ nat_lt 0 (slice_index l.row i);
  rest : (i : ℕ) → l.at ≤ i → has_slot l.mask i ≡ false;
}
