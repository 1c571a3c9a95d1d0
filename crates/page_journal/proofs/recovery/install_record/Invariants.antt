use Rattle.std.proofs.Common.{◌≡◌, IsTrue, length}
use Rattle.disk_model.specs.declared.disk.Area.TheVariants.{Pages, Journal}
use Rattle.page_journal.specs.Record.{batch_at, AllButPages, Spares, written_up_to}
use Rattle.page_journal.proofs.recovery.install_record.Given as goal

abbrev pub invariant-loop-k : goal.invariant-loop-k
invariant-loop-k g l =
    record {
      size : length l.page ≡ 4096;
      spares : IsTrue g.D.Disk.readable → Spares (AllButPages (batch_at ((g.D.Disk.world l.fn.disk).seen Journal) l.at)) (g.D.Disk.world l.fn.disk) (g.D.Disk.world l.disk);
      done : IsTrue g.D.Disk.readable → (g.D.Disk.world l.disk).seen Pages ≡ written_up_to (batch_at ((g.D.Disk.world l.fn.disk).seen Journal) l.at) l.k ((g.D.Disk.world l.fn.disk).seen Pages);
      faults : (g.D.Disk.world l.disk).faults ≡ (g.D.Disk.world l.fn.disk).faults;
      room : g.D.Disk.room_of l.disk ≡ g.D.Disk.room_of l.fn.disk;
      sink : (g.D.Disk.world l.disk).sink_faults ≡ (g.D.Disk.world l.fn.disk).sink_faults;
    }
