use Rattle.std.proofs.Common.{◌≡◌, ◌<◌, List, ℕ, length, sym, subst, ◌∙◌}
use Rattle.std.proofs.lemmas.Result.{on_ok_weaker}
use Rattle.page_journal.specs.Record.{applied}
use Rattle.page_store.specs.Contents.{shown}
use Rattle.page_cache.specs.Places.{looked_page}
use Rattle.page_store.proofs.Holds.{shown_held, shown_unheld}
use Rattle.page_store.proofs.store.Store.fetch.Goals as goal

pub returns-then-find-clause-gives : goal.returns-then-find-clause-gives
returns-then-find-clause-gives g c = λ some. let self = c.args.self.now in let found = c.find.new.self in
    shown_held g.D.Disk.readable self.overlay self.journal self.cache (g.D.Disk.world self.disk.now).seen c.args.page (looked_page found.place found.overlay found.journal found.cache found.spare)
    (λ t. self.images t c.requires.on) (λ t. self.cached t c.requires.on) (c.find.ensures.gives c.if-find.true) some

pub returns-clause-gives : goal.returns-clause-gives
returns-clause-gives g c =
    let self = c.args.self.now in
    let found = c.find.new.self in
    let loaded = c.load.new.self in
    let on = c.find.ensures.stopped ∙ c.requires.on in
    let same : shown g.D.Disk.readable (applied (g.D.Disk.world found.disk.now).seen) found.overlay c.args.page ≡ shown g.D.Disk.readable (applied (g.D.Disk.world self.disk.now).seen) self.overlay c.args.page =
    λ i. shown g.D.Disk.readable (applied (g.D.Disk.world (c.find.ensures.disk i).now).seen) (c.find.ensures.overlay i) c.args.page in
    on_ok_weaker c.load.result
    (λ is some. shown_unheld g.D.Disk.readable found.overlay found.journal found.cache (g.D.Disk.world found.disk.now).seen c.args.page
    (looked_page loaded.place loaded.overlay loaded.journal loaded.cache loaded.spare) (λ t. found.images t on) (c.find.ensures.none c.if-find.false) is
    (subst (λ (l : List ℕ). 0 < length l) (sym same) some) ∙ same)
    c.load.ensures.gives
