use Rattle.std.proofs.Common.{Option, ap, ℕ, List}
use Rattle.page_cache.specs.Pages.{first_page}
use Rattle.page_cache.specs.Places.{page_behind}
use Rattle.page_cache.proofs.Sealed.{true_noted}
use Rattle.page_cache.proofs.written.write_sealed.Goals as goal

pub returns-in-Ok-clause-sealed : goal.returns-in-Ok-clause-sealed
returns-in-Ok-clause-sealed c = λ journal cache are.
    true_noted c.write.new.seals c.note.new.self c.write.new.overlay journal cache c.args.number c.args.seal c.args.bytes.now
    (ap (λ (o : Option (List ℕ)). first_page o (page_behind journal cache c.args.number)) c.in-Ok.ensures.put) c.requires.sound c.note.ensures (c.in-Ok.ensures.sealed journal cache are)
