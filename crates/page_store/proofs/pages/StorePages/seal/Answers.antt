use Rattle.page_cache.specs.Places.{looked_page}
use Rattle.page_cache.proofs.Sealed.{true_noted}
use Rattle.page_store.proofs.pages.StorePages.seal.Goals as goal

pub invariant_of-self : goal.invariant_of-self
invariant_of-self g c = let self = c.args.self.now in record {
  current_first = self.current_first;
  last_first = self.last_first;
  few = self.few;
  sized = self.sized;
  in_order = self.in_order;
  bare = self.bare;
  ready = self.ready;
  images = self.images;
  cached = self.cached;
  sealed = true_noted self.seals c.note.new.self self.overlay self.journal self.cache self.at c.args.seal (looked_page self.place self.overlay self.journal self.cache self.spare)
      (self.lies (c.is_held.ensures.0 c.if-is_held.true)) c.requires c.note.ensures self.sealed;
  lies = self.lies;
}
