use Rattle.std.proofs.Common.{◌≡◌, true, false, sym, ap, subst, ◌∙◌, arith}
use Rattle.std.specs.Prelude.{Result, Ok, Err, IfErr}
use Rattle.irtree_engine.specs.declared.fault.EngineFault.TheVariants as engine
use Rattle.query_lang.specs.declared.line.Line.TheVariants as lines
use Rattle.query_replies.specs.declared.reply.Reply.{Reply}
use Rattle.run_outcome.specs.Causes.{GoesOn, HasEngineEnd}
use Rattle.run_outcome.specs.declared.ended.Ended.{Ended}
use Rattle.script_run.specs.Lines.{IsLineEnd, RepliesTo}
use Rattle.run_outcome.proofs.Rooms.{lacks-image}
use Rattle.script_run.proofs.Ends.{refused-ends, refused-full}
use Rattle.script_run.proofs.Replies.{AcceptedUpdate, RefusedUpdate, accepted-replies, accepted-goes_on, refused-replies, refused-cause}
use Rattle.script_run.proofs.Going.{refused-goes_on}
use Rattle.script_run.proofs.line.update.Goals as goal

pub returns-in-Ok-clause-told : goal.returns-in-Ok-clause-told
returns-in-Ok-clause-told g c =
    let accepted : AcceptedUpdate g.T.Disk.readable c.args.update.now (g.T.Disk.world c.args.engine.now.store.disk.now) (g.T.Disk.world c.apply.new.self.store.disk.now) c.in-Ok.applied = record {
      faults = c.in-Ok.ensures.fails.stays (λ e. absurd (cc));
      sink = c.in-Ok.ensures.frame.sink;
      said = c.in-Ok.ensures.frame.silent;
      stands = c.in-Ok.ensures.applied;
      left_by = c.in-Ok.ensures.any_moment;
    } in
    accepted-replies _ _ _ _ _ accepted c.accepted.result c.accepted.ensures.reply

pub returns-in-Ok-clause-cause : goal.returns-in-Ok-clause-cause
returns-in-Ok-clause-cause g c =
    let accepted : AcceptedUpdate g.T.Disk.readable c.args.update.now (g.T.Disk.world c.args.engine.now.store.disk.now) (g.T.Disk.world c.apply.new.self.store.disk.now) c.in-Ok.applied = record {
      faults = c.in-Ok.ensures.fails.stays (λ e. absurd (cc));
      sink = c.in-Ok.ensures.frame.sink;
      said = c.in-Ok.ensures.frame.silent;
      stands = c.in-Ok.ensures.applied;
      left_by = c.in-Ok.ensures.any_moment;
    } in
    accepted-goes_on _ _ _ _ _ accepted c.accepted.result

pub returns-in-Err-clause-told : goal.returns-in-Err-clause-told
returns-in-Err-clause-told g c =
    let refused : RefusedUpdate g.T.Disk.readable c.args.update.now (g.T.Disk.world c.args.engine.now.store.disk.now) (g.T.Disk.world c.apply.new.self.store.disk.now) c.in-Err.fault = record {
      causes = c.in-Err.ensures.fails.causes;
      faults = c.in-Err.ensures.frame.later;
      sink = c.in-Err.ensures.frame.sink;
      on = λ e. let stopped : true ≡ false = sym (c.in-Err.ensures.fails.stopped.0 (ap Err e)) ∙ c.requires.on in cc;
      disk = λ e. c.in-Err.ensures.fails.disk (ap Err e);
      stays = λ apart. c.in-Err.ensures.fails.stays (λ e. apart (cc));
      said = c.in-Err.ensures.frame.silent;
      due = c.in-Err.ensures.due;
      no_head = λ told damage e. c.in-Err.ensures.fails.no_head told damage (ap Err e);
      rests = λ told apart. c.in-Err.ensures.refused.rests told (c.in-Err.ensures.refused.goes_on (λ e. apart (cc)));
      left_by = c.in-Err.ensures.any_moment;
    } in
    λ told state holds. subst (λ (r : Result Reply Ended). RepliesTo state (Ok (lines.Do c.args.update.now)) (g.T.Disk.world c.args.engine.now.store.disk.now) (g.T.Disk.world c.apply.new.self.store.disk.now) r) (sym c.refused.ensures.reply)
    (refused-replies _ _ _ _ c.in-Err.fault refused told state holds)

pub returns-in-Err-clause-cause : goal.returns-in-Err-clause-cause
returns-in-Err-clause-cause g c =
    let refused : RefusedUpdate g.T.Disk.readable c.args.update.now (g.T.Disk.world c.args.engine.now.store.disk.now) (g.T.Disk.world c.apply.new.self.store.disk.now) c.in-Err.fault = record {
      causes = c.in-Err.ensures.fails.causes;
      faults = c.in-Err.ensures.frame.later;
      sink = c.in-Err.ensures.frame.sink;
      on = λ e. let stopped : true ≡ false = sym (c.in-Err.ensures.fails.stopped.0 (ap Err e)) ∙ c.requires.on in cc;
      disk = λ e. c.in-Err.ensures.fails.disk (ap Err e);
      stays = λ apart. c.in-Err.ensures.fails.stays (λ e. apart (cc));
      said = c.in-Err.ensures.frame.silent;
      due = c.in-Err.ensures.due;
      no_head = λ told damage e. c.in-Err.ensures.fails.no_head told damage (ap Err e);
      rests = λ told apart. c.in-Err.ensures.refused.rests told (c.in-Err.ensures.refused.goes_on (λ e. apart (cc)));
      left_by = c.in-Err.ensures.any_moment;
    } in
    subst (λ (r : Result Reply Ended). HasEngineEnd g.T.Disk.readable (g.T.Disk.world c.args.engine.now.store.disk.now) (g.T.Disk.world c.apply.new.self.store.disk.now) r) (sym c.refused.ensures.reply)
    (refused-cause _ _ _ _ c.in-Err.fault refused)

pub returns-in-Err-clause-ends : goal.returns-in-Err-clause-ends
returns-in-Err-clause-ends g c = subst (λ (r : Result Reply Ended). IfErr r IsLineEnd) (sym c.refused.ensures.reply) (refused-ends c.in-Err.fault)

pub returns-in-Err-clause-lacks : goal.returns-in-Err-clause-lacks
returns-in-Err-clause-lacks g c = λ told is.
    let no : c.in-Err.fault ≡ engine.NoRoom = refused-full c.in-Err.fault (sym c.refused.ensures.reply ∙ is) in
    let was = c.in-Err.ensures in
    let new = c.apply.new.self in
    let apart : c.in-Err.fault ≡ engine.Disk → ⊥ = λ e. let both : engine.NoRoom ≡ engine.Disk = sym no ∙ e in absurd (cc) in
    let on = sym new.stops ∙ was.refused.goes_on (λ e. apart (cc)) ∙ c.requires.on in
    lacks-image 1 1 _ _ c.args.engine.now.store.current g.T.Disk.readable (g.T.Disk.world new.store.disk.now) new.store.current new.store.last new.store.overlay new.store.end told (omega arith) was.frame.room (was.refused.as_before (ap Err no))
    new.clean new.settled (new.store.ready told on) (was.fails.room_left (ap Err no)) (was.fails.free_left (ap Err no))

pub returns-in-Err-clause-goes_on : goal.returns-in-Err-clause-goes_on
returns-in-Err-clause-goes_on g c =
    subst (λ (r : Result Reply Ended). GoesOn c.apply.new.self.stopped r) (sym c.refused.ensures.reply)
    (refused-goes_on c.apply.new.self.stopped c.in-Err.fault (λ apart. c.in-Err.ensures.refused.goes_on (λ e. apart (cc)) ∙ c.requires.on))
