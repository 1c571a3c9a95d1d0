use Rattle.std.proofs.Common.{◌≡◌, ◌≤◌, List, ℕ, false, length, Ok}
use Rattle.run_outcome.specs.Causes.{HasEngineEnd}
use Rattle.script_run.specs.Feed.{kept, EndsNoLine}
use Rattle.script_run.proofs.Feeding.{Feeding}
use Rattle.script_run.proofs.script.Script.feed.Given as goal

abbrev pub invariant-lines : goal.invariant-lines
invariant-lines g l = record {
  on : l.engine.stopped ≡ false;
  loan : l.engine.store.disk.ghost_name ≡ l.fn.engine.store.disk.ghost_name;
  short : length l.self.line.items ≤ 65537;
  feeding : (front : List ℕ) → EndsNoLine front → l.fn.self.line.items ≡ kept front
      → Feeding g.T.Disk.readable front l.piece l.self.line.items l.rest (g.T.Disk.world l.fn.engine.store.disk.now) (g.T.Disk.world l.engine.store.disk.now);
  cause : HasEngineEnd {T = Unit {0}} g.T.Disk.readable (g.T.Disk.world l.fn.engine.store.disk.now) (g.T.Disk.world l.engine.store.disk.now) (Ok tt);
}

abbrev pub decreases-lines : goal.decreases-lines
decreases-lines g l = length l.rest
