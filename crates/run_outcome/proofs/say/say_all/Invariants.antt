use Rattle.std.proofs.Common.{◌≡◌, ◌≤◌, ◌-◌, false, length}
use Rattle.std.specs.Prelude.{IsTrue}
use Rattle.run_outcome.proofs.Saying.{SaysSome}
use Rattle.run_outcome.proofs.say.say_all.Given as goal

abbrev pub invariant-loop-at : goal.invariant-loop-at
invariant-loop-at g l = record {
  within : l.at ≤ length l.bytes;
  on : l.engine.stopped ≡ false;
  loan : l.engine.store.disk.ghost_name ≡ l.fn.engine.store.disk.ghost_name;
  said : IsTrue g.T.Disk.readable → SaysSome l.at l.bytes (g.T.Disk.world l.fn.engine.store.disk.now) (g.T.Disk.world l.engine.store.disk.now);
  reads : IsTrue g.T.Disk.readable → (g.T.Disk.world l.engine.store.disk.now).reads ≡ (g.T.Disk.world l.fn.engine.store.disk.now).reads;
  later : (g.T.Disk.world l.fn.engine.store.disk.now).sink_faults ≤ (g.T.Disk.world l.engine.store.disk.now).sink_faults;
  stays : (g.T.Disk.world l.engine.store.disk.now).sink_faults ≡ (g.T.Disk.world l.fn.engine.store.disk.now).sink_faults;
  disk : (g.T.Disk.world l.engine.store.disk.now).faults ≡ (g.T.Disk.world l.fn.engine.store.disk.now).faults;
  head : l.engine.store.current ≡ l.fn.engine.store.current;
  room : g.T.Disk.room_of l.engine.store.disk.now ≡ g.T.Disk.room_of l.fn.engine.store.disk.now;
}

abbrev pub decreases-loop-at : goal.decreases-loop-at
decreases-loop-at g l = length l.bytes - l.at
