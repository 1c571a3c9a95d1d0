use Rattle.std.proofs.Common.{◌≡◌, ◌*◌, ◌^◌, ◌≤◌, false}
use Rattle.std.specs.Prelude.{IsTrue, Ok}
use Rattle.place_generator.specs.Makers.{IsAt}
use Rattle.page_store.specs.Store.{Rests}
use Rattle.place_values.specs.State.{Contents}
use Rattle.irtree_engine.specs.Holding.{HoldsState}
use Rattle.run_outcome.specs.Causes.{HasEngineEnd}
use Rattle.load_run.specs.Loading.{RisesBy}
use Rattle.load_run.specs.Asking.{Counts, found_in}
use Rattle.load_run.proofs.asking.ask_places.Given as goal

abbrev pub invariant-loop-number : goal.invariant-loop-number
invariant-loop-number g l = record {
  at : IsAt l.maker l.seed l._number;
  few : l.found.hits ≤ 10 * l._number;
  cheap : l.found.cost ≤ 10 * 2 ^ 64 * l._number;
  on : l.engine.stopped ≡ false;
  loan : l.engine.store.disk.ghost_name ≡ l.fn.engine.store.disk.ghost_name;
  told : IsTrue g.T.Disk.readable → (state : Contents) → HoldsState (g.T.Disk.world l.fn.engine.store.disk.now) state → Counts (found_in state l.seed l._number) l.found;
  rests : IsTrue g.T.Disk.readable → Rests (g.T.Disk.world l.fn.engine.store.disk.now) (g.T.Disk.world l.engine.store.disk.now);
  rises : RisesBy {T = Unit {0}} 0 0 0 l.fn.engine.store.current.head l.engine.store.current.head (Ok tt);
  cause : HasEngineEnd {T = Unit {0}} g.T.Disk.readable (g.T.Disk.world l.fn.engine.store.disk.now) (g.T.Disk.world l.engine.store.disk.now) (Ok tt);
}
