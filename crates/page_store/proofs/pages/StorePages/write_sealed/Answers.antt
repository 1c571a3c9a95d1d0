use Rattle.page_journal.specs.Record.{applied}
use Rattle.page_store.proofs.Overlays.{on_ok, put_shows}
use Rattle.page_store.proofs.pages.StorePages.write_sealed.Goals as goal

pub returns-clause-written : goal.returns-clause-written
returns-clause-written g c = on_ok c.write_sealed.result c.write_sealed.ensures.put
    (λ here. put_shows g.D.Disk.readable (applied (g.D.Disk.world c.args.self.now.disk.now).seen) c.args.self.now.overlay c.write_sealed.new.overlay c.args.self.now.current.counted c.args.page c.args.bytes.now
    (λ u. let z = c.is_uncounted.ensures.1 u in cc) here c.write_sealed.ensures.others)
