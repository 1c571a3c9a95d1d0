use Rattle.page_cache.proofs.Sealed.{true_same}
use Rattle.page_store.proofs.Holds.{cached_same}
use Rattle.page_store.proofs.store.Store.find.Goals as goal

pub invariant_of-self : goal.invariant_of-self
invariant_of-self g c = let self = c.args.self.now in record {
  current_first = self.current_first;
  last_first = self.last_first;
  few = self.few;
  sized = self.sized;
  in_order = self.in_order;
  bare = self.bare;
  ready = self.ready;
  images = self.images;
  cached = λ t on. cached_same self.journal self.cache c.find-self.new.cache _ c.find-self.ensures.same (self.cached t on);
  sealed = true_same self.seals self.overlay self.journal self.cache c.find-self.new.cache c.find-self.ensures.same self.sealed;
  lies = λ held. c.find-self.ensures.some held self.spare;
}
