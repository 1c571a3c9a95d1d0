use Rattle.std.proofs.Common.{ℕ}
use Rattle.split_policy.specs.Divided.{IsDivided}
use Rattle.split_policy.specs.Quadratic.{remaining}
use Rattle.text_policy.specs.Splits.{EndsByWords}
use Rattle.text_policy.proofs.joining.divide.Given as goal

abbrev pub invariant-loop-division : goal.invariant-loop-division
invariant-loop-division l = record {
  divided : IsDivided l.division;
  ends : (mask : ℕ) → EndsByWords l.rects l.like l.first l.second l.division mask → EndsByWords l.rects l.like l.first l.second l.initial.division mask;
}

abbrev pub decreases-loop-division : goal.decreases-loop-division
decreases-loop-division l = remaining l.division
