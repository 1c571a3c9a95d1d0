use Rattle.std.proofs.Common.{◌≡◌, ◌≤◌, ◌+◌, ◌^◌, ℕ, IsTrue, length}
use Rattle.disk_model.specs.World.{Keeps}
use Rattle.disk_model.specs.declared.disk.Area.TheVariants.{Pages}
use Rattle.page_journal.specs.Record.{batch_of, kept, AllButPages, with_batch}
use Rattle.page_journal.specs.Runs.{LeadsTo, IsWithin}
use Rattle.page_journal.proofs.checkpointing.install.Given as goal

abbrev pub invariant-loop-number : goal.invariant-loop-number
invariant-loop-number g l =
    record {
      can : (goal.iterator-loop-number g).can_next l.number-iterator;
      ends : (goal.iterator-loop-number g).is_finite l.number-iterator;
      apart : (i : ℕ) → AllButPages (batch_of (kept l.pages.entries)) Pages i → AllButPages (batch_of (kept l.number-iterator)) Pages i;
      fits : l.run.at + length l.run.bytes.items ≤ 2 ^ 44;
      inside : IsWithin (batch_of (kept l.pages.entries)) l.run.at (length l.run.bytes.items);
      keeps : IsTrue g.D.Disk.readable → Keeps (AllButPages (batch_of (kept l.pages.entries))) (g.D.Disk.world l.fn.disk) (g.D.Disk.world l.disk);
      done : IsTrue g.D.Disk.readable → LeadsTo l.run.at l.run.bytes.items (kept l.number-iterator) (g.D.Disk.world l.disk).seen (with_batch (batch_of (kept l.pages.entries)) ((g.D.Disk.world l.fn.disk).seen Pages));
      faults : (g.D.Disk.world l.disk).faults ≡ (g.D.Disk.world l.fn.disk).faults;
      reads : IsTrue g.D.Disk.readable → (g.D.Disk.world l.disk).reads ≡ (g.D.Disk.world l.fn.disk).reads;
      room : g.D.Disk.room_of l.disk ≡ g.D.Disk.room_of l.fn.disk;
      sink : (g.D.Disk.world l.disk).sink_faults ≡ (g.D.Disk.world l.fn.disk).sink_faults;
    }
