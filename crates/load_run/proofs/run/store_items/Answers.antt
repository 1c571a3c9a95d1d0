use Rattle.std.specs.Prelude.{Err}
use Rattle.std.proofs.Common.{◌≡◌, ℕ, ◌+◌, max, List, length, map, refl, sym, subst, ap, ◌∙◌, arith}
use Rattle.std.specs.List.{All}
use Rattle.std.specs.Vec.Iter.{into_iter_items}
use Rattle.std.proofs.lemmas.List.Elements.{All-tail}
use Rattle.geojson_points.specs.Takes.{HasTextKey, item_of}
use Rattle.geojson_points.specs.declared.taken.Taken.{Taken}
use Rattle.run_outcome.specs.Causes.{LacksRoomIn}
use Rattle.run_outcome.specs.Load.{places_among, says_loaded}
use Rattle.load_run.specs.Loading.{stage_at_start}
use Rattle.load_run.proofs.Causes.{engine-none, engine-then}
use Rattle.load_run.proofs.Stages.{goes-as, goes-concludes, goes-then}
use Rattle.load_run.proofs.Lists.{empty-list}
use Rattle.load_run.proofs.Moves.{goes-items}
use Rattle.load_run.proofs.Numbers.{rises-item, rises-last}
use Rattle.load_run.proofs.run.store_items.Goals as goal

pub loop-item-init : goal.loop-item-init
loop-item-init g c =
    let gives = c.into_iter-item-iterator.ensures.into_iter_gives in
    let old = g.T.Disk.world c.args.engine.now.store.disk.now in
    let starts : length c.new-load.result.waiting.items + places_among (map item_of (into_iter_items c.into_iter-item-iterator.result)) ≡ places_among (map item_of c.args.items.items) =
    omega (arith, c.new-load.ensures.none, ap (λ (xs : List Taken). places_among (map item_of xs)) gives.0) in
    record {
      can = tt;
      finite = tt;
      count = omega (arith, gives.1, ap length gives.0);
      few = omega (arith, gives.1, c.requires.count, c.new-load.ensures.none);
      on = c.requires.on;
      loan = refl;
      batch = c.new-load.ensures.batch;
      waits = c.new-load.ensures.waits;
      keys = subst (λ (xs : List Taken). All (λ item. HasTextKey (item_of item)) xs) (sym gives.0) c.requires.keys;
      told = λ told state holds.
          let same = c.new-load.ensures.stage says_loaded state _ ∙ ap (λ (xs : List Taken). stage_at_start says_loaded c.args.batch state (map item_of xs)) gives.0 in
          (state, goes-as _ _ old (sym same) holds);
      rises = record { live = omega (arith, starts); number = omega (arith, starts); limit = tt };
      cause = engine-none g.T.Disk.readable old (Unit {0}) tt;
    }

pub loop-item-preserved : goal.loop-item-preserved
loop-item-preserved g c =
    let keys = subst (λ (xs : List Taken). All (λ item. HasTextKey (item_of item)) xs) c.in-Some.ensures.steps.0 c.loop-item.invariant.keys in
    record {
      can = tt;
      finite = tt;
      count = omega (arith, c.loop-item.invariant.count, c.in-Some.ensures.steps.1, ap length c.in-Some.ensures.steps.0);
      few = omega (arith, c.loop-item.invariant.few, c.in-Some.ensures.steps.1, c.in-Ok.ensures.count);
      on = c.in-Ok.ensures.goes_on;
      loan = c.in-Ok.ensures.same_loan ∙ c.loop-item.invariant.loan;
      batch = c.in-Ok.ensures.batch ∙ c.loop-item.invariant.batch;
      waits = c.in-Ok.ensures.waits;
      keys = All-tail (λ (item : Taken). HasTextKey (item_of item)) _ _ keys;
      told = λ told state holds.
          let sofar = c.loop-item.invariant.told told state holds in
          let here = goes-items says_loaded _ c.loop-item.load sofar.0 _ _ _ _ c.in-Some.ensures.steps.0 sofar.1 in
          let next = c.in-Ok.ensures.told told says_loaded sofar.0 (map item_of (into_iter_items c.next.new.self)) here.holds in
          (next.0, goes-then here next.1);
      rises = rises-item _ _ _ _ _ _ _ c.loop-item.invariant.rises _ _ _ c.in-Some.ensures.steps.0 c.in-Ok.ensures.rises;
      cause = engine-then c.loop-item.invariant.cause _ c.in-Ok.ensures.cause;
    }

pub returns-in-Err-clause-told : goal.returns-in-Err-clause-told
returns-in-Err-clause-told g c = λ told state holds.
    let sofar = c.loop-item.invariant.told told state holds in
    let here = goes-items says_loaded _ c.loop-item.load sofar.0 _ _ _ _ c.in-Some.ensures.steps.0 sofar.1 in
    goes-concludes here (c.in-Err.ensures.told told says_loaded sofar.0 (map item_of (into_iter_items c.next.new.self)) here.holds)

pub returns-in-Err-clause-cause : goal.returns-in-Err-clause-cause
returns-in-Err-clause-cause g c = engine-then c.loop-item.invariant.cause _ c.in-Err.ensures.cause

pub returns-clause-told : goal.returns-clause-told
returns-clause-told g c = λ told state holds.
    let sofar = c.loop-item.invariant.told told state holds in
    let none = empty-list (into_iter_items c.loop-item.item-iterator) _ c.loop-item.invariant.count c.in-None.ensures.steps.0 in
    let here = goes-items says_loaded _ c.loop-item.load sofar.0 _ _ _ _ none sofar.1 in
    goes-concludes here (c.end.ensures.told told sofar.0 here.holds)

pub returns-clause-cause : goal.returns-clause-cause
returns-clause-cause g c = engine-then c.loop-item.invariant.cause _ c.end.ensures.cause

pub returns-in-Err-clause-rises : goal.returns-in-Err-clause-rises
returns-in-Err-clause-rises g c =
    let rises = rises-item {T = Unit {0}} _ _ _ _ _ _ (Err c.in-Err.end) c.loop-item.invariant.rises _ _ _ c.in-Some.ensures.steps.0 c.in-Err.ensures.rises in
    record { live = tt; number = tt; limit = rises.limit }

pub returns-clause-rises : goal.returns-clause-rises
returns-clause-rises g c = rises-last _ _ (into_iter_items c.loop-item.item-iterator) _ _ _ c.end.result c.loop-item.invariant.rises c.end.ensures.rises

pub returns-in-Err-clause-lacks : goal.returns-in-Err-clause-lacks
returns-in-Err-clause-lacks g c = λ told is.
    let disk = c.take_item.new.engine.store.disk.now in
    subst (λ (batch : ℕ). LacksRoomIn (max batch 1) (g.T.Disk.room_of disk) (g.T.Disk.world disk).seen) c.loop-item.invariant.batch (c.in-Err.ensures.lacks told is)

pub returns-clause-lacks : goal.returns-clause-lacks
returns-clause-lacks g c = λ told is.
    let disk = c.end.new.engine.store.disk.now in
    subst (λ (batch : ℕ). LacksRoomIn (max batch 1) (g.T.Disk.room_of disk) (g.T.Disk.world disk).seen) c.loop-item.invariant.batch (c.end.ensures.lacks told is)
