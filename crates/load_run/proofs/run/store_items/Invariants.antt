use Rattle.std.proofs.Common.{◌≡◌, ◌+◌, ◌^◌, ◌<◌, false, length, map}
use Rattle.std.specs.List.{All}
use Rattle.std.specs.Prelude.{IsTrue, Ok}
use Rattle.std.specs.Vec.Iter.{into_iter_items, into_iter_len}
use Rattle.place_values.specs.State.{Contents}
use Rattle.geojson_points.specs.Takes.{HasTextKey, item_of}
use Rattle.irtree_engine.specs.Holding.{HoldsState}
use Rattle.run_outcome.specs.Causes.{HasEngineEnd}
use Rattle.run_outcome.specs.Load.{places_among, says_loaded}
use Rattle.load_run.specs.Loading.{CanWait, Goes, RisesBy, acted_on, stage_at_start, stage_before}
use Rattle.load_run.proofs.run.store_items.Given as goal

abbrev pub invariant-loop-item : goal.invariant-loop-item
invariant-loop-item g l = record {
  can : (goal.iterator-loop-item g).can_next l.item-iterator;
  finite : (goal.iterator-loop-item g).is_finite l.item-iterator;
  count : into_iter_len l.item-iterator ≡ length (into_iter_items l.item-iterator);
  few : acted_on l.load + into_iter_len l.item-iterator < 2 ^ 32;
  on : l.engine.stopped ≡ false;
  loan : l.engine.store.disk.ghost_name ≡ l.fn.engine.store.disk.ghost_name;
  batch : l.load.batch ≡ l.fn.batch;
  waits : CanWait l.load;
  keys : All (λ item. HasTextKey (item_of item)) (into_iter_items l.item-iterator);
  told : IsTrue g.T.Disk.readable → (state : Contents) → HoldsState (g.T.Disk.world l.fn.engine.store.disk.now) state
      → (now : Contents) × Goes (stage_at_start says_loaded l.fn.batch state (map item_of l.fn.items.items)) (stage_before says_loaded l.load now (map item_of (into_iter_items l.item-iterator)))
      (g.T.Disk.world l.fn.engine.store.disk.now) (g.T.Disk.world l.engine.store.disk.now);
  rises : RisesBy {T = Unit {0}} (places_among (map item_of l.fn.items.items)) 0 (length l.load.waiting.items + places_among (map item_of (into_iter_items l.item-iterator))) l.fn.engine.store.current.head l.engine.store.current.head (Ok tt);
  cause : HasEngineEnd {T = Unit {0}} g.T.Disk.readable (g.T.Disk.world l.fn.engine.store.disk.now) (g.T.Disk.world l.engine.store.disk.now) (Ok tt);
}
