use Rattle.std.proofs.Common.{◌≡◌, ◌<◌, ◌+◌, ◌^◌, IsTrue}
use Rattle.disk_model.specs.World.{Keeps}
use Rattle.disk_model.specs.declared.disk.Area.TheVariants.{Pages, Journal}
use Rattle.page_journal.specs.Record.{AllButRecords, gate_of, with_records}
use Rattle.page_journal.proofs.recovery.install_all.Given as goal

abbrev pub invariant-loop-n : goal.invariant-loop-n
invariant-loop-n g l =
    record {
      fits : l.at + 1 < 2 ^ 48;
      place : IsTrue g.D.Disk.readable → l.at ≡ gate_of ((g.D.Disk.world l.fn.disk).seen Journal) l.n;
      keeps : IsTrue g.D.Disk.readable → Keeps (AllButRecords ((g.D.Disk.world l.fn.disk).seen Journal) l.records) (g.D.Disk.world l.fn.disk) (g.D.Disk.world l.disk);
      done : IsTrue g.D.Disk.readable → (g.D.Disk.world l.disk).seen Pages ≡ with_records ((g.D.Disk.world l.fn.disk).seen Journal) l.n ((g.D.Disk.world l.fn.disk).seen Pages);
      faults : (g.D.Disk.world l.disk).faults ≡ (g.D.Disk.world l.fn.disk).faults;
      room : g.D.Disk.room_of l.disk ≡ g.D.Disk.room_of l.fn.disk;
      sink : (g.D.Disk.world l.disk).sink_faults ≡ (g.D.Disk.world l.fn.disk).sink_faults;
    }
