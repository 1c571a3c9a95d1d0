use Rattle.text_policy.proofs.Pairs.{IsBest}
use Rattle.text_policy.proofs.beginners.beginners.Given as goal

abbrev pub invariant-loop-first : goal.invariant-loop-first
invariant-loop-first l = IsBest l.first l.like l.best
