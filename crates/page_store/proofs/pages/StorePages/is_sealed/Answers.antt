use Rattle.page_cache.specs.Places.{looked_page}
use Rattle.page_store.proofs.pages.StorePages.is_sealed.Goals as goal

pub returns-then-is_held : goal.returns-then-is_held
returns-then-is_held g c = λ yes. let self = c.args.self.now in
    self.sealed.each self.at c.args.seal (looked_page self.place self.overlay self.journal self.cache self.spare) (c.has.ensures yes) (self.lies (c.is_held.ensures.0 c.if-is_held.true))
