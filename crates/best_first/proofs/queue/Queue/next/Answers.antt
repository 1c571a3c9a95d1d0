use Rattle.std.proofs.Common.{refl}
use Rattle.best_first.specs.contracts.queue.WaitingOrd.TheImpl as order
use Rattle.best_first.proofs.Queues.{top_next}
use Rattle.best_first.proofs.queue.Queue.next.Goals as goal

pub returns-in-Some-clause-some : goal.returns-in-Some-clause-some
returns-in-Some-clause-some c = top_next (λ x y. order.ghosts.cmp y.0 x.0) (λ x y. refl) _ _ _ c.in-Some.ensures.permutation (c.in-Some.ensures.below_top c.args.self.now.ordered)
