use Rattle.std.proofs.Common.{◌≡◌, ◌++◌, take}
use Rattle.best_first.specs.Items.{nodes_of, places_of}
use Rattle.boolean_queries.specs.Near.{kept}
use Rattle.boolean_queries.specs.Waiting.{waits}
use Rattle.boolean_queries.proofs.sorting.sort_each.Given as goal

abbrev pub invariant-loop-one : goal.invariant-loop-one
invariant-loop-one l = record {
  waiting : waits l.waiting.items ≡ waits l.initial.waiting.items ++ nodes_of (kept l.mask (take l.one-index l.near));
  found : l.found.items ≡ l.initial.found.items ++ places_of (kept l.mask (take l.one-index l.near));
}
