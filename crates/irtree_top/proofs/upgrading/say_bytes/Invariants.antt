use Rattle.std.proofs.Common.{◌≡◌, ◌≤◌, ◌-◌, length}
use Rattle.std.specs.Prelude.{IsTrue}
use Rattle.disk_model.specs.World.{LeavesOnlySeen}
use Rattle.run_outcome.proofs.Saying.{SaysSome}
use Rattle.irtree_top.proofs.upgrading.say_bytes.Given as goal

abbrev pub invariant-loop-at : goal.invariant-loop-at
invariant-loop-at g l = record {
  within : l.at ≤ length l.bytes;
  said : IsTrue g.T.Disk.readable → SaysSome l.at l.bytes (g.T.Disk.world l.fn.station) (g.T.Disk.world l.station);
  quiet : IsTrue g.T.Disk.readable → LeavesOnlySeen (g.T.Disk.world l.station);
  later : (g.T.Disk.world l.fn.station).sink_faults ≤ (g.T.Disk.world l.station).sink_faults;
  stays : (g.T.Disk.world l.station).sink_faults ≡ (g.T.Disk.world l.fn.station).sink_faults;
  disk : (g.T.Disk.world l.station).faults ≡ (g.T.Disk.world l.fn.station).faults;
}

abbrev pub decreases-loop-at : goal.decreases-loop-at
decreases-loop-at g l = length l.bytes - l.at
