use Rattle.std.proofs.Common.{◌≡◌}
use Rattle.split_policy.specs.Areas.{rect_at}
use Rattle.split_policy.specs.Masks.{IsAmong}
use Rattle.split_policy.specs.Quadratic.{preference_of}
use Rattle.split_policy.proofs.Best.{GreatestBelow}
use Rattle.split_policy.proofs.division.Division.pick_next.Given as goal

abbrev pub invariant-loop-entry : goal.invariant-loop-entry
invariant-loop-entry l = record {
  greatest : l.greatest ≡ preference_of l.self (rect_at l.rects l.best);
  best : GreatestBelow l.entry (IsAmong l.self.left) (λ i. preference_of l.self (rect_at l.rects i)) l.best;
}
