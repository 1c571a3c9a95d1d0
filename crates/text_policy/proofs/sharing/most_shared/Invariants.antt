use Rattle.std.proofs.Common.{◌≡◌}
use Rattle.split_policy.specs.Masks.{IsUsed}
use Rattle.split_policy.proofs.Best.{GreatestBelow}
use Rattle.text_policy.specs.Words.{shared_at}
use Rattle.text_policy.proofs.sharing.most_shared.Given as goal

abbrev pub invariant-loop-slot : goal.invariant-loop-slot
invariant-loop-slot l = record {
  most : l.most ≡ shared_at l.shared l.best;
  best : GreatestBelow l.slot (IsUsed l.used) (λ i. shared_at l.shared i) l.best;
}
