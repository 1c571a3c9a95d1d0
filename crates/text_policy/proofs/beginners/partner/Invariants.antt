use Rattle.std.proofs.Common.{◌≡◌}
use Rattle.text_policy.specs.Words.{like_at}
use Rattle.text_policy.proofs.Pairs.{PartnerBelow}
use Rattle.text_policy.proofs.beginners.partner.Given as goal

abbrev pub invariant-loop-second : goal.invariant-loop-second
invariant-loop-second l = record {
  first : l.best.first ≡ l.first;
  shared : l.best.shared ≡ like_at l.like l.first l.best.second;
  best : PartnerBelow l.second l.like l.first l.best.second;
}
