use Rattle.std.proofs.Common.{◌++◌, take}
use Rattle.std.proofs.lemmas.List.Sorted.{IsPermutation-refl}
use Rattle.best_first.specs.Items.{places_of}
use Rattle.best_first.specs.Cuts.{affordable}
use Rattle.best_first.proofs.Firsts.{kept_ranked, kept_short}
use Rattle.best_first.proofs.Queued.{found_begun, found_more, queue_more}
use Rattle.best_first.proofs.search.sort_each.Goals as goal

pub sort_one-requires-clause-ranked : goal.sort_one-requires-clause-ranked
sort_one-requires-clause-ranked c = kept_ranked c.args.k (c.args.found.now.items ++ affordable c.args.limit (places_of (take c.loop-item.item-index c.args.items.now))) _ c.loop-item.invariant.found

pub sort_one-requires-clause-short : goal.sort_one-requires-clause-short
sort_one-requires-clause-short c = kept_short c.args.k (c.args.found.now.items ++ affordable c.args.limit (places_of (take c.loop-item.item-index c.args.items.now))) _ c.loop-item.invariant.found

pub loop-item-init : goal.loop-item-init
loop-item-init c = record { queue = IsPermutation-refl _; found = found_begun _ _ c.requires.ranked c.requires.short }

pub loop-item-preserved : goal.loop-item-preserved
loop-item-preserved c = record {
  queue = queue_more c.args.items.now c.loop-item.item-index _ _ _ _ _ c.loop-item-test.true c.item-item.is c.loop-item.invariant.queue c.in_ok-sort_one.ensures.queue;
  found = found_more c.args.k c.args.limit c.args.items.now c.loop-item.item-index _ _ c.args.found.now.items _ _ c.loop-item-test.true c.item-item.is c.loop-item.invariant.found c.in_ok-sort_one.ensures.found;
}
