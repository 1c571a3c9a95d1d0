use Rattle.std.proofs.Common.{length}
use Rattle.run_outcome.specs.Load.{says_loaded}
use Rattle.load_run.proofs.Causes.{engine-then}
use Rattle.load_run.proofs.Stages.{goes-concludes}
use Rattle.load_run.proofs.Numbers.{rises-then}
use Rattle.load_run.proofs.load.Load.end.Goals as goal

pub returns-in-Ok-clause-told : goal.returns-in-Ok-clause-told
returns-in-Ok-clause-told g c = λ told state holds.
    let moved = c.in-Ok.ensures.told told says_loaded state holds in
    goes-concludes moved.1 (c.conclude.ensures.told told moved.0 moved.1.holds)

pub returns-in-Err-clause-told : goal.returns-in-Err-clause-told
returns-in-Err-clause-told g c = λ told state holds. c.in-Err.ensures.told told says_loaded state holds

pub returns-in-Ok-clause-cause : goal.returns-in-Ok-clause-cause
returns-in-Ok-clause-cause g c = engine-then c.in-Ok.ensures.cause _ c.conclude.ensures.cause

pub returns-in-Ok-clause-rises : goal.returns-in-Ok-clause-rises
returns-in-Ok-clause-rises g c =
    rises-then 0 (length c.args.self.now.waiting.items) 0 c.args.engine.now.store.current.head tt 0 0 c.store_rest.new.engine.store.current.head c.conclude.new.engine.store.current.head c.conclude.result c.in-Ok.ensures.rises c.conclude.ensures.rises

pub returns-in-Ok-clause-lacks : goal.returns-in-Ok-clause-lacks
returns-in-Ok-clause-lacks g c = λ told is. absurd (c.conclude.ensures.room is)
