use Rattle.std.proofs.Common.{◌≡◌, ◌≢◌, length, Ok, Err, ap, sym, subst, ◌∙◌, arith}
use Rattle.std.proofs.lemmas.Bool.{false≢true}
use Rattle.irtree_engine.specs.declared.fault.EngineFault.TheVariants as engine
use Rattle.run_outcome.specs.Causes.{GoesOnBehind, end_of_engine}
use Rattle.run_outcome.specs.declared.ended.Ended.TheVariants as ends
use Rattle.run_outcome.specs.declared.ended.LimitFault.TheVariants as limits
use Rattle.run_outcome.proofs.Counts.{keeps-both}
use Rattle.run_outcome.proofs.Going.{goes-on}
use Rattle.run_outcome.proofs.Rooms.{lacks-image}
use Rattle.load_run.proofs.Numbers.{ended-full, limit-more, limit-of-engine}
use Rattle.load_run.proofs.Batches.{failed, outcome-holds, not-stored, not-stored-cause}
use Rattle.load_run.proofs.load.store_batch.Goals as goal

pub returns-in-Ok-clause-told : goal.returns-in-Ok-clause-told
returns-in-Ok-clause-told g c = λ told state holds. record {
  said = c.in-Ok.ensures.frame.silent told;
  left = c.in-Ok.ensures.any_moment told state holds;
  stored = c.in-Ok.ensures.applied told state holds;
  unstored = tt;
}

pub returns-in-Ok-clause-cause : goal.returns-in-Ok-clause-cause
returns-in-Ok-clause-cause g c = record {
  faults = c.in-Ok.ensures.frame.later;
  sink = omega (arith, c.in-Ok.ensures.frame.sink);
  keeps = keeps-both _ _ (Ok tt) (c.in-Ok.ensures.fails.stays (λ e. absurd (cc))) c.in-Ok.ensures.frame.sink;
  stands = λ told state holds. let came = outcome-holds _ _ (c.in-Ok.ensures.applied told state holds) in (came.0, came.2);
  cause = tt;
}

pub returns-in-Err-clause-told : goal.returns-in-Err-clause-told
returns-in-Err-clause-told g c = λ told state holds.
    let was = c.in-Err.ensures in
    let on : failed c.in-Err.fault ≢ failed engine.Stopped = λ e. false≢true (sym c.requires.on ∙ was.fails.stopped.0 e) in
    record {
      said = was.frame.silent told;
      left = was.any_moment told state holds;
      stored = tt;
      unstored = rw c.ended_by.ensures (not-stored state c.args.updates.now (g.T.Disk.world c.args.engine.now.store.disk.now) (g.T.Disk.world c.apply_batch.new.self.store.disk.now) c.in-Err.fault was.fails.causes on
          (was.due told state holds) (λ other. was.refused.rests told (was.refused.goes_on other)) holds);
    }

pub returns-in-Err-clause-cause : goal.returns-in-Err-clause-cause
returns-in-Err-clause-cause g c =
    let was = c.in-Err.ensures in
    let on : failed c.in-Err.fault ≢ failed engine.Stopped = λ e. false≢true (sym c.requires.on ∙ was.fails.stopped.0 e) in
    rw c.ended_by.ensures (not-stored-cause g.T.Disk.readable c.args.updates.now (g.T.Disk.world c.args.engine.now.store.disk.now) (g.T.Disk.world c.apply_batch.new.self.store.disk.now) c.in-Err.fault (Unit {0}) was.fails.causes on
    was.fails.disk was.due was.fails.no_head was.fails.stays was.frame.later was.frame.sink)

pub returns-in-Ok-clause-rises : goal.returns-in-Ok-clause-rises
returns-in-Ok-clause-rises g c = record { live = omega (arith, c.in-Ok.ensures.rises.live); number = omega (arith, c.in-Ok.ensures.rises.number); limit = tt }

pub returns-in-Err-clause-rises : goal.returns-in-Err-clause-rises
returns-in-Err-clause-rises g c = record {
  live = tt;
  number = tt;
  limit = rw c.ended_by.ensures (limit-more _ _ _ _ (end_of_engine c.in-Err.fault) (omega arith) (omega arith) (limit-of-engine _ _ c.in-Err.fault c.in-Err.ensures.limits));
}

pub returns-in-Err-clause-lacks : goal.returns-in-Err-clause-lacks
returns-in-Err-clause-lacks g c = λ told is.
    let ended : c.ended_by.result ≡ ends.Limit limits.NoRoom = cc in
    let no : c.in-Err.fault ≡ engine.NoRoom = ended-full c.in-Err.fault (sym c.ended_by.ensures ∙ ended) in
    let was = c.in-Err.ensures in
    let new = c.apply_batch.new.self in
    let apart : c.in-Err.fault ≡ engine.Disk → ⊥ = λ e. let both : engine.NoRoom ≡ engine.Disk = sym no ∙ e in absurd (cc) in
    let on = sym new.stops ∙ was.refused.goes_on (λ e. apart (cc)) ∙ c.requires.on in
    lacks-image (length c.args.updates.now) (length c.args.updates.now) _ _ c.args.engine.now.store.current g.T.Disk.readable (g.T.Disk.world new.store.disk.now) new.store.current new.store.last new.store.overlay new.store.end told (omega arith) was.frame.room (was.refused.as_before (ap Err no))
    new.clean new.settled (new.store.ready told on) (was.fails.room_left (ap Err no)) (was.fails.free_left (ap Err no))

pub returns-in-Err-clause-goes_on : goal.returns-in-Err-clause-goes_on
returns-in-Err-clause-goes_on g c =
    let stopped = c.apply_batch.new.self.stopped in
    subst (GoesOnBehind stopped) (sym c.ended_by.ensures) (goes-on stopped c.in-Err.fault (λ apart. c.in-Err.ensures.refused.goes_on (λ e. apart (cc)) ∙ c.requires.on))
