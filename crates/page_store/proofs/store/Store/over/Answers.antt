use Rattle.std.proofs.Common.{refl, arith}
use Rattle.page_journal.proofs.Gates.{ready_0}
use Rattle.page_cache.proofs.Sealed.{true_none}
use Rattle.page_store.proofs.Overlays.{cleared_sized}
use Rattle.page_store.proofs.Holds.{cached_none}
use Rattle.page_store.proofs.Kept.{bare_none, images_at_front, kept_none}
use Rattle.page_store.proofs.store.Store.over.Goals as goal

pub invariant_of-result : goal.invariant_of-result
invariant_of-result g c = record {
  current_first = c.requires.in_range;
  last_first = c.requires.in_range;
  few = omega (arith, c.new.ensures.len);
  sized = cleared_sized c.new.result c.new.ensures.empty;
  in_order = kept_none c.new-2.result c.new-3.result c.new-2.ensures.empty c.new-3.ensures.ordered;
  bare = λ on n. bare_none c.new-3.result n c.new-3.ensures.empty;
  ready = λ t on. c.requires.committed t;
  images = λ t on. images_at_front c.new-2.result _ c.new-2.ensures.empty (ready_0 _ (c.requires.committed t).ready);
  cached = λ t on. cached_none c.new-2.result c.cache_of.result _ c.cache_of.ensures.pairs;
  sealed = true_none c.new-5.result c.new.result c.new-2.result c.cache_of.result c.new-5.ensures;
  lies = λ ne. absurd (ne refl);
}
