use Rattle.std.proofs.Common.{◌≡◌, ◌-◌, false, length}
use Rattle.std.specs.Prelude.{IsTrue, Ok}
use Rattle.place_generator.specs.Makers.{IsAt}
use Rattle.place_values.specs.State.{Contents}
use Rattle.irtree_engine.specs.Holding.{HoldsState}
use Rattle.run_outcome.specs.Causes.{HasEngineEnd}
use Rattle.run_outcome.specs.Load.{Closing}
use Rattle.load_run.specs.Loading.{CanWait, Goes, RisesBy, acted_on, stage_before}
use Rattle.load_run.specs.Making.{items_from}
use Rattle.load_run.proofs.storing.store_places.Given as goal

abbrev pub invariant-loop-number : goal.invariant-loop-number
invariant-loop-number g l = record {
  at : IsAt l.maker l.seed l._number;
  acted : acted_on l.load ≡ l._number;
  on : l.engine.stopped ≡ false;
  loan : l.engine.store.disk.ghost_name ≡ l.fn.engine.store.disk.ghost_name;
  batch : l.load.batch ≡ l.fn.load.batch;
  waits : CanWait l.load;
  told : IsTrue g.T.Disk.readable → (closing : Closing) (state : Contents) → HoldsState (g.T.Disk.world l.fn.engine.store.disk.now) state
      → (now : Contents) × Goes (stage_before closing l.fn.load state (items_from l.seed 0 l.count)) (stage_before closing l.load now (items_from l.seed l._number (l.count - l._number)))
      (g.T.Disk.world l.fn.engine.store.disk.now) (g.T.Disk.world l.engine.store.disk.now);
  rises : RisesBy {T = Unit {0}} l._number 0 (length l.load.waiting.items) l.fn.engine.store.current.head l.engine.store.current.head (Ok tt);
  cause : HasEngineEnd {T = Unit {0}} g.T.Disk.readable (g.T.Disk.world l.fn.engine.store.disk.now) (g.T.Disk.world l.engine.store.disk.now) (Ok tt);
}
