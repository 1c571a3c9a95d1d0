use Rattle.page_journal.specs.Record.{applied}
use Rattle.page_store.proofs.Overlays.{cleared_contents}
use Rattle.page_store.proofs.store.Store.abandon.Goals as goal

pub returns-clause-committed : goal.returns-clause-committed
returns-clause-committed g c = λ t on. cleared_contents c.clear.new.overlay (applied (g.D.Disk.world c.args.self.now.disk.now).seen) c.args.self.now.last c.clear.ensures.empty (c.args.self.now.ready t on).head
