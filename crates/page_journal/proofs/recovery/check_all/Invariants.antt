use Rattle.std.proofs.Common.{◌≡◌, ◌≤◌, ◌<◌, ◌+◌, ◌-◌, ◌^◌, ℕ, IsTrue}
use Rattle.disk_model.specs.World.{WritesNothing}
use Rattle.disk_model.specs.declared.disk.Area.TheVariants.{Journal}
use Rattle.page_journal.specs.Record.{gate_of, IsRecordAt}
use Rattle.page_journal.proofs.recovery.check_all.Given as goal

abbrev pub invariant-loop-gate : goal.invariant-loop-gate
invariant-loop-gate g l =
    record {
      fits : l.at + 1 < 2 ^ 48;
      few : l.records ≤ l.at;
      rested : IsTrue g.D.Disk.readable → WritesNothing (g.D.Disk.world l.fn.disk) (g.D.Disk.world l.disk);
      place : IsTrue g.D.Disk.readable → l.at ≡ gate_of ((g.D.Disk.world l.fn.disk).seen Journal) l.records;
      gate : IsTrue g.D.Disk.readable → l.gate ≡ (g.D.Disk.world l.fn.disk).seen Journal l.at;
      records : IsTrue g.D.Disk.readable → (k : ℕ) → k < l.records → IsRecordAt ((g.D.Disk.world l.fn.disk).seen Journal) (gate_of ((g.D.Disk.world l.fn.disk).seen Journal) k);
      faults : (g.D.Disk.world l.disk).faults ≡ (g.D.Disk.world l.fn.disk).faults;
      room : g.D.Disk.room_of l.disk ≡ g.D.Disk.room_of l.fn.disk;
      sink : (g.D.Disk.world l.disk).sink_faults ≡ (g.D.Disk.world l.fn.disk).sink_faults;
    }

abbrev pub decreases-loop-gate : goal.decreases-loop-gate
decreases-loop-gate g l = 2 ^ 48 - l.at
