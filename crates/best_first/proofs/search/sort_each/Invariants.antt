use Rattle.std.proofs.Common.{◌≡◌, ◌++◌, take, IsPermutation}
use Rattle.std.specs.BinaryHeap.{heap_items}
use Rattle.place_values.specs.First.{first}
use Rattle.place_values.specs.Hit.{comes_before}
use Rattle.best_first.specs.Cuts.{affordable}
use Rattle.best_first.specs.Items.{nodes_of, places_of}
use Rattle.best_first.specs.Queue.{waiting}
use Rattle.best_first.proofs.search.sort_each.Given as goal

abbrev pub invariant-loop-item : goal.invariant-loop-item
invariant-loop-item l = record {
  queue : IsPermutation (nodes_of (take l.item-index l.items) ++ waiting (heap_items l.initial.queue.heap)) (waiting (heap_items l.queue.heap));
  found : l.found.items ≡ first comes_before l.k (l.initial.found.items ++ affordable l.limit (places_of (take l.item-index l.items)));
}
