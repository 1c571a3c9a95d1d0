use Rattle.split_policy.proofs.Partners.{IsBest}
use Rattle.split_policy.proofs.seeds.pick_seeds.Given as goal

abbrev pub invariant-loop-first : goal.invariant-loop-first
invariant-loop-first l = IsBest l.first l.rects l.best
