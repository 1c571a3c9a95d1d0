use Rattle.std.proofs.Common.{◌≡◌, ◌≤◌, ◌<◌, ◌+◌, ◌-◌, ℕ, IsTrue}
use Rattle.disk_model.specs.World.{WritesNothing}
use Rattle.disk_model.specs.declared.disk.Area.TheVariants.{Journal}
use Rattle.page_journal.specs.Record.{batch_at}
use Rattle.page_journal.proofs.recovery.check_numbers.Given as goal

abbrev pub invariant-loop-k : goal.invariant-loop-k
invariant-loop-k g l =
    record {
      low : 0 < l.k;
      high : l.k ≤ l.count;
      rested : IsTrue g.D.Disk.readable → WritesNothing (g.D.Disk.world l.fn.disk) (g.D.Disk.world l.disk);
      last : IsTrue g.D.Disk.readable → l.last ≡ (batch_at ((g.D.Disk.world l.fn.disk).seen Journal) l.at).number (l.k - 1);
      ascends : IsTrue g.D.Disk.readable → (k : ℕ) → k + 1 < l.k → (batch_at ((g.D.Disk.world l.fn.disk).seen Journal) l.at).number k < (batch_at ((g.D.Disk.world l.fn.disk).seen Journal) l.at).number (k + 1);
      faults : (g.D.Disk.world l.disk).faults ≡ (g.D.Disk.world l.fn.disk).faults;
      room : g.D.Disk.room_of l.disk ≡ g.D.Disk.room_of l.fn.disk;
      sink : (g.D.Disk.world l.disk).sink_faults ≡ (g.D.Disk.world l.fn.disk).sink_faults;
    }

abbrev pub decreases-loop-k : goal.decreases-loop-k
decreases-loop-k g l = l.count - l.k
