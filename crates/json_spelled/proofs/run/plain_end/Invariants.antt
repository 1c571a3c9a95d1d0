use Rattle.std.proofs.Common.{ℕ, ◌<◌, ◌≤◌, slice_index}
use Rattle.json_spelled.specs.Feeding.{IsTaken}
use Rattle.json_spelled.proofs.run.plain_end.Given as goal

-- the bytes so far are taken as they are
abbrev pub invariant-loop-end : goal.invariant-loop-end
invariant-loop-end l = record {
  from : l.start ≤ l.end;
  taken : (k : ℕ) → l.start ≤ k → k < l.end → IsTaken (slice_index l.text k);
}
