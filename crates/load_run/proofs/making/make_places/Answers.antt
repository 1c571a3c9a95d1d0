use Rattle.std.proofs.Common.{ℕ, ◌+◌, max, subst, arith}
use Rattle.std.specs.Prelude.{Err}
use Rattle.run_outcome.specs.Causes.{LacksRoomIn}
use Rattle.load_run.specs.Loading.{Concludes, Stage}
use Rattle.load_run.proofs.Causes.{engine-then}
use Rattle.load_run.proofs.Numbers.{rises-then, rises-within}
use Rattle.load_run.proofs.Stages.{goes-concludes}
use Rattle.load_run.specs.Making.{items_from, says_made}
use Rattle.load_run.proofs.making.make_places.Goals as goal

pub returns-in-Ok-clause-told : goal.returns-in-Ok-clause-told
returns-in-Ok-clause-told g c = λ told state holds.
    let closing = says_made c.args.seed c.args.count in
    let moved = c.in-Ok.ensures.told told closing state holds in
    subst (λ (at : Stage). Concludes at (g.T.Disk.world c.args.engine.now.store.disk.now) (g.T.Disk.world c.conclude.new.engine.store.disk.now) c.conclude.result) (c.new-load.ensures.stage closing state (items_from c.args.seed 0 c.args.count))
    (goes-concludes moved.1 (c.conclude.ensures.told told moved.0 moved.1.holds))

pub returns-in-Ok-clause-cause : goal.returns-in-Ok-clause-cause
returns-in-Ok-clause-cause g c = engine-then c.in-Ok.ensures.cause _ c.conclude.ensures.cause

pub returns-in-Ok-clause-rises : goal.returns-in-Ok-clause-rises
returns-in-Ok-clause-rises g c =
    let first = c.args.engine.now.store.current.head in
    let last = c.conclude.new.engine.store.current.head in
    rises-within (c.args.count + 0) 0 0 first c.args.count 0 last c.conclude.result (omega arith)
    (rises-then c.args.count 0 0 first tt 0 0 c.store_places.new.engine.store.current.head last c.conclude.result c.in-Ok.ensures.rises c.conclude.ensures.rises)

pub returns-clause-told : goal.returns-clause-told
returns-clause-told g c = λ told state holds.
    let closing = says_made c.args.seed c.args.count in
    subst (λ (at : Stage). Concludes {T = Unit {0}} at (g.T.Disk.world c.args.engine.now.store.disk.now) (g.T.Disk.world c.store_places.new.engine.store.disk.now) (Err c.in-Err.end)) (c.new-load.ensures.stage closing state (items_from c.args.seed 0 c.args.count)) (c.in-Err.ensures.told told closing state holds)

pub returns-in-Ok-clause-lacks : goal.returns-in-Ok-clause-lacks
returns-in-Ok-clause-lacks g c = λ told is. absurd (c.conclude.ensures.room is)

pub returns-clause-lacks : goal.returns-clause-lacks
returns-clause-lacks g c = λ told is.
    let disk = c.store_places.new.engine.store.disk.now in
    subst (λ (batch : ℕ). LacksRoomIn (max batch 1) (g.T.Disk.room_of disk) (g.T.Disk.world disk).seen) c.new-load.ensures.batch (c.in-Err.ensures.lacks told is)
