use Rattle.page_store.proofs.Committed.{committed_rests, images_rest}
use Rattle.page_cache.proofs.Sealed.{kept_lies, true_read}
use Rattle.page_store.proofs.Holds.{cached_alike, cached_read}
use Rattle.page_store.proofs.store.Store.load.Goals as goal

pub invariant_of-self : goal.invariant_of-self
invariant_of-self g c = let self = c.args.self.now in let kept = c.keep-self.new.cache in let bytes = c.read_page.new.page in record {
  current_first = self.current_first;
  last_first = self.last_first;
  few = self.few;
  sized = self.sized;
  in_order = self.in_order;
  bare = self.bare;
  ready = λ t on. committed_rests (self.ready t on) (c.read_page.ensures.reads t).rests;
  images = λ t on. images_rest (self.images t on) (c.read_page.ensures.reads t).rests;
  cached = λ t on. cached_alike self.journal kept _ _ (c.read_page.ensures.reads t).rests.seen
      (cached_read self.journal self.cache kept _ c.args.page bytes (c.in-Ok.ensures.gives t) c.keep-self.ensures.here c.keep-self.ensures.others (self.cached t on));
  sealed = true_read self.seals c.forget.new.self self.overlay self.journal self.cache kept c.args.page c.forget.ensures.gone c.forget.ensures.others c.keep-self.ensures.others self.sealed;
  lies = λ held. kept_lies c.keep-self.result c.args.page self.overlay self.journal self.cache kept bytes c.requires.none c.keep-self.ensures.place c.keep-self.ensures.some held;
}
