use Rattle.std.proofs.Common.{ℕ}
use Rattle.split_policy.specs.Divided.{IsDivided}
use Rattle.split_policy.specs.Quadratic.{EndsWith, remaining}
use Rattle.split_policy.proofs.quadratic.quadratic_split.Given as goal

abbrev pub invariant-loop-division : goal.invariant-loop-division
invariant-loop-division l = record {
  divided : IsDivided l.division;
  ends : (mask : ℕ) → EndsWith l.rects l.division mask → EndsWith l.rects l.initial.division mask;
}

abbrev pub decreases-loop-division : goal.decreases-loop-division
decreases-loop-division l = remaining l.division
