use Rattle.std.proofs.Common.{◌≡◌}
use Rattle.split_policy.proofs.Partners.{PartnerBelow, pair_waste}
use Rattle.split_policy.proofs.seeds.partner.Given as goal

abbrev pub invariant-loop-second : goal.invariant-loop-second
invariant-loop-second l = record {
  first : l.best.first ≡ l.first;
  waste : l.best.waste ≡ pair_waste l.rects l.first l.best.second;
  best : PartnerBelow l.second l.rects l.first l.best.second;
}
