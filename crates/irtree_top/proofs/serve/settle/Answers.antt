use Rattle.std.proofs.Common.{◌≡◌, ◌∙◌, ℕ, false, ap, subst, sym}
use Rattle.page_journal.specs.Record.{IsReady}
use Rattle.page_store.specs.Contents as pages
use Rattle.irtree_top.proofs.serve.settle.Goals as goal

pub returns-in-Ok-clause-alike : goal.returns-in-Ok-clause-alike
returns-in-Ok-clause-alike g c = λ told. ap pages.contents_in (c.in-Ok.ensures.same told)

pub returns-in-Ok-clause-at_rest : goal.returns-in-Ok-clause-at_rest
returns-in-Ok-clause-at_rest g c = λ told on.
    let new = c.settle.new.self in
    let still : new.stopped ≡ false = c.in-Ok.ensures.fails.goes_on (λ e. absurd (cc)) ∙ on in
    subst (λ (at : ℕ). IsReady at (g.T.Disk.world new.store.disk.now)) c.in-Ok.ensures.front (new.store.ready told (sym new.stops ∙ still)).ready
