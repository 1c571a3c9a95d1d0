use Rattle.std.proofs.Common.{◌≡◌, ◌+◌, ◌-◌, ◌≤◌, false, length, Ok}
use Rattle.std.specs.Prelude.{IsTrue, vec_len}
use Rattle.place_values.specs.State.{Contents}
use Rattle.irtree_engine.specs.Holding.{HoldsState}
use Rattle.run_outcome.specs.Causes.{HasJobEnd}
use Rattle.script_run.specs.Standing.{Standing}
use Rattle.script_run.proofs.Untouched.{Untouched}
use Rattle.script_run.proofs.run.run_script.Given as goal

abbrev pub invariant-pieces : goal.invariant-pieces
invariant-pieces g l = record {
  on : l.engine.stopped ≡ false;
  loan : l.engine.store.disk.ghost_name ≡ l.fn.engine.store.disk.ghost_name;
  taken : l.taken ≤ 268435456;
  room : vec_len l.piece ≡ 65536;
  short : length l.script.line.items ≤ 65537;
  came : IsTrue g.S.Source.readable → length (g.S.Source.left l.fn.source) ≡ l.taken + length (g.S.Source.left l.source);
  standing : IsTrue g.S.Source.readable → IsTrue g.T.Disk.readable → (state : Contents) → HoldsState (g.T.Disk.world l.fn.engine.store.disk.now) state
      → Standing state (g.S.Source.left l.fn.source) (g.S.Source.left l.source) (g.T.Disk.world l.fn.engine.store.disk.now) (g.T.Disk.world l.engine.store.disk.now) l.script.line.items l.taken;
  untouched : IsTrue g.S.Source.readable → IsTrue g.T.Disk.readable
      → Untouched (g.S.Source.left l.fn.source) (g.S.Source.left l.source) (g.T.Disk.world l.fn.engine.store.disk.now) (g.T.Disk.world l.engine.store.disk.now) l.script.line.items l.taken;
  cause : HasJobEnd {T = Unit {0}} g.T.Disk.readable (g.S.Source.faults l.fn.source) (g.S.Source.faults l.source) (g.T.Disk.world l.fn.engine.store.disk.now) (g.T.Disk.world l.engine.store.disk.now) (Ok tt);
}

abbrev pub decreases-pieces : goal.decreases-pieces
decreases-pieces g l = 268435456 - l.taken
