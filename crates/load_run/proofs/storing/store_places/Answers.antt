use Rattle.std.proofs.Common.{◌≡◌, ◌+◌, ◌-◌, ℕ, max, List, length, refl, sym, ap, subst, ◌∙◌, arith}
use Rattle.std.specs.Prelude.{Err}
use Rattle.geojson_points.specs.Takes.{HasTextKey, Item, Placed, place_of}
use Rattle.run_outcome.specs.Causes.{LacksRoomIn}
use Rattle.load_run.specs.Loading.{stage_before}
use Rattle.load_run.proofs.Causes.{engine-lacks, engine-none, engine-then}
use Rattle.load_run.proofs.Numbers.{rises-then, rises-within}
use Rattle.load_run.proofs.Stages.{goes-as, goes-concludes, goes-moves, goes-then, lacks-memory}
use Rattle.load_run.specs.Making.{items_from, made_item}
use Rattle.load_run.proofs.Items.{goes-last, goes-next, made-item, made-key}
use Rattle.load_run.proofs.storing.store_places.Goals as goal

pub loop-number-init : goal.loop-number-init
loop-number-init g c =
    let old = g.T.Disk.world c.args.engine.now.store.disk.now in
    let all : c.args.count - 0 ≡ c.args.count = omega arith in
    record {
      at = c.new-maker.ensures.at;
      acted = c.requires.fresh;
      on = c.requires.on;
      loan = refl;
      batch = refl;
      waits = c.requires.waits;
      told = λ told closing state holds.
          (state, goes-as _ _ old (ap (λ n. stage_before closing c.args.load.now state (items_from c.args.seed 0 n)) (sym all)) holds);
      rises = record { live = omega (arith, c.requires.fresh); number = omega (arith, c.requires.fresh); limit = tt };
      cause = engine-none g.T.Disk.readable old (Unit {0}) tt;
    }

pub loop-number-preserved : goal.loop-number-preserved
loop-number-preserved g c =
    let i = c.loop-number.invariant in
    let seed : ℕ = c.args.seed in
    let n : ℕ = c.loop-number._number in
    let rest : List Item = items_from seed (n + 1) (c.args.count - (n + 1)) in
    let same = c.in-Ok.ensures.place seed n i.at in
    let item : Placed (place_of c.draft_of.result) ≡ made_item seed n = made-item seed n _ _ c.draft_of.ensures same in
    let old = g.T.Disk.world c.args.engine.now.store.disk.now in
    let now = g.T.Disk.world c.loop-number.engine.store.disk.now in
    record {
      at = c.in-Ok.ensures.at seed n (omega arith) i.at;
      acted = c.in-Ok-place.ensures.count ∙ ap (λ k. k + 1) i.acted;
      on = c.in-Ok-place.ensures.goes_on;
      loan = c.in-Ok-place.ensures.same_loan ∙ i.loan;
      batch = c.in-Ok-place.ensures.batch ∙ i.batch;
      waits = c.in-Ok-place.ensures.waits;
      told = λ told closing state holds.
          let sofar = i.told told closing state holds in
          let here = goes-next closing _ c.loop-number.load sofar.0 seed n c.args.count old now sofar.1 (Placed (place_of c.draft_of.result)) (omega arith) item in
          let next = c.in-Ok-place.ensures.told told closing sofar.0 rest here.holds in
          (next.0, goes-then here next.1);
      rises = rises-then n 0 _ _ tt 1 _ _ _ _ i.rises c.in-Ok-place.ensures.rises;
      cause = engine-then i.cause _ c.in-Ok-place.ensures.cause;
    }

pub returns-in-Err-clause-told : goal.returns-in-Err-clause-told
returns-in-Err-clause-told g c = λ told closing state holds.
    goes-concludes (c.loop-number.invariant.told told closing state holds).1 (lacks-memory _ (g.T.Disk.world c.loop-number.engine.store.disk.now) (Unit {0}))

pub returns-in-Err-clause-cause : goal.returns-in-Err-clause-cause
returns-in-Err-clause-cause g c = engine-then c.loop-number.invariant.cause _ (engine-lacks g.T.Disk.readable (g.T.Disk.world c.loop-number.engine.store.disk.now) (Unit {0}))

pub returns-in-Err-clause-rises : goal.returns-in-Err-clause-rises
returns-in-Err-clause-rises g c = record { live = tt; number = tt; limit = tt }

pub returns-in-Err-place-clause-told : goal.returns-in-Err-place-clause-told
returns-in-Err-place-clause-told g c = λ told closing state holds.
    let i = c.loop-number.invariant in
    let seed : ℕ = c.args.seed in
    let n : ℕ = c.loop-number._number in
    let rest : List Item = items_from seed (n + 1) (c.args.count - (n + 1)) in
    let same = c.in-Ok.ensures.place seed n i.at in
    let item : Placed (place_of c.draft_of.result) ≡ made_item seed n = made-item seed n _ _ c.draft_of.ensures same in
    let sofar = i.told told closing state holds in
    let here = goes-next closing _ c.loop-number.load sofar.0 seed n c.args.count (g.T.Disk.world c.args.engine.now.store.disk.now) (g.T.Disk.world c.loop-number.engine.store.disk.now) sofar.1 (Placed (place_of c.draft_of.result)) (omega arith) item in
    goes-concludes here (c.in-Err-place.ensures.told told closing sofar.0 rest here.holds)

pub returns-in-Err-place-clause-cause : goal.returns-in-Err-place-clause-cause
returns-in-Err-place-clause-cause g c = engine-then c.loop-number.invariant.cause _ c.in-Err-place.ensures.cause

pub returns-in-Err-place-clause-rises : goal.returns-in-Err-place-clause-rises
returns-in-Err-place-clause-rises g c =
    let i = c.loop-number.invariant in
    let n : ℕ = c.loop-number._number in
    let rises = rises-then {T = Unit {0}} n 0 _ _ tt 1 (length c.place.new.self.waiting.items) _ c.place.new.engine.store.current.head (Err c.in-Err-place.end) i.rises c.in-Err-place.ensures.rises in
    let more = rises-within {T = Unit {0}} (n + 1) 0 (length c.place.new.self.waiting.items) _ c.args.count 0 c.place.new.engine.store.current.head (Err c.in-Err-place.end) (omega arith) rises in
    record { live = tt; number = tt; limit = more.limit }

pub place-requires-clause-key : goal.place-requires-clause-key
place-requires-clause-key g c =
    let same = c.in-Ok.ensures.place c.args.seed c.loop-number._number c.loop-number.invariant.at in
    let item : Placed (place_of c.draft_of.result) ≡ made_item c.args.seed c.loop-number._number = made-item c.args.seed c.loop-number._number _ _ c.draft_of.ensures same in
    subst HasTextKey (sym item) (made-key c.args.seed c.loop-number._number)

pub returns-clause-told : goal.returns-clause-told
returns-clause-told g c = λ told closing state holds.
    let i = c.loop-number.invariant in
    let sofar = i.told told closing state holds in
    let here = goes-last closing _ c.loop-number.load sofar.0 c.args.seed c.loop-number._number c.args.count (g.T.Disk.world c.args.engine.now.store.disk.now) (g.T.Disk.world c.loop-number.engine.store.disk.now) sofar.1 (omega arith) in
    goes-moves here (g.T.Disk.world c.store_rest.new.engine.store.disk.now) _ c.store_rest.result (c.store_rest.ensures.told told closing sofar.0 here.holds)

pub returns-clause-cause : goal.returns-clause-cause
returns-clause-cause g c = engine-then c.loop-number.invariant.cause _ c.store_rest.ensures.cause

pub returns-clause-rises : goal.returns-clause-rises
returns-clause-rises g c =
    let i = c.loop-number.invariant in
    let n : ℕ = c.loop-number._number in
    let rises = rises-then n 0 _ _ tt 0 0 _ c.store_rest.new.engine.store.current.head c.store_rest.result i.rises c.store_rest.ensures.rises in
    rises-within (n + 0) 0 0 _ c.args.count 0 c.store_rest.new.engine.store.current.head c.store_rest.result (omega arith) rises

pub returns-in-Err-place-clause-lacks : goal.returns-in-Err-place-clause-lacks
returns-in-Err-place-clause-lacks g c = λ told is.
    let disk = c.place.new.engine.store.disk.now in
    subst (λ (batch : ℕ). LacksRoomIn (max batch 1) (g.T.Disk.room_of disk) (g.T.Disk.world disk).seen) c.loop-number.invariant.batch (c.in-Err-place.ensures.lacks told is)

pub returns-clause-lacks : goal.returns-clause-lacks
returns-clause-lacks g c = λ told is.
    let disk = c.store_rest.new.engine.store.disk.now in
    subst (λ (batch : ℕ). LacksRoomIn (max batch 1) (g.T.Disk.room_of disk) (g.T.Disk.world disk).seen) c.loop-number.invariant.batch (c.store_rest.ensures.lacks told is)
