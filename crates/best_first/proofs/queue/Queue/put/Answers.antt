use Rattle.std.proofs.lemmas.List.Sorted.{IsPermutation-map}
use Rattle.std.specs.declared.cmp.Reverse.{Reverse}
use Rattle.best_first.specs.declared.queue.Waiting.{Waiting}
use Rattle.best_first.specs.Queue.{item_of}
use Rattle.best_first.proofs.queue.Queue.put.Goals as goal

pub returns : goal.returns
returns c = IsPermutation-map (λ (r : Reverse Waiting). item_of r.0) _ _ c.in_ok-push.ensures.permutation
