use Rattle.page_cache.proofs.Sealed.{true_put}
use Rattle.page_cache.proofs.written.write.Goals as goal

pub returns-clause-sealed : goal.returns-clause-sealed
returns-clause-sealed c = λ journal cache are. true_put c.args.seals.now c.forget.new.self c.args.overlay.now c.put.new.table c.args.number c.forget.ensures.gone c.forget.ensures.others c.put.ensures.others journal cache are
