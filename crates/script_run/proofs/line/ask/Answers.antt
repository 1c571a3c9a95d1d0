use Rattle.std.proofs.Common.{◌≡◌, true, false, inl, refl, sym, ap, subst, ◌∙◌}
use Rattle.std.specs.Prelude.{Ok, Err}
use Rattle.query_lang.specs.declared.line.Line.TheVariants as lines
use Rattle.query_lang.specs.Reply.{reply_of}
use Rattle.query_replies.specs.declared.reply.Reply.{Reply}
use Rattle.query_replies.specs.declared.reply.Reply.TheVariants as replies
use Rattle.query_replies.specs.Reply.{text_of_reply}
use Rattle.run_outcome.specs.Causes.{HasEngineEnd}
use Rattle.run_outcome.specs.Reading.{IsMetIn}
use Rattle.run_outcome.specs.declared.ended.Ended.{Ended}
use Rattle.run_outcome.specs.declared.ended.Ended.TheVariants as ends
use Rattle.run_outcome.specs.declared.ended.LimitFault.TheVariants as limits
use Rattle.script_run.specs.Lines.{IsLineEnd, RepliesTo}
use Rattle.script_run.proofs.Asking.{asked-reads}
use Rattle.script_run.proofs.Ends.{read-ends}
use Rattle.run_outcome.proofs.Reading.{RefusedRead, met-engine, refused-read-cause, refused-room}
use Rattle.script_run.proofs.Replies.{read-replies, refused-read}
use Rattle.run_outcome.proofs.Going.{on-behind}
use Rattle.script_run.proofs.line.ask.Goals as goal

pub returns-in-Ok-clause-told : goal.returns-in-Ok-clause-told
unfolding reply_of
returns-in-Ok-clause-told g c = λ told state holds.
    read-replies state (Ok (lines.Ask c.args.query c.args.explain)) _ _ (replies.Found c.in-Ok.answer c.args.query c.args.explain) (c.in-Ok.ensures.frame.rests told) holds refl
    (ap (λ a. text_of_reply (replies.Found a c.args.query c.args.explain)) (c.in-Ok.ensures.answered told state holds))

pub returns-in-Err-clause-told : goal.returns-in-Err-clause-told
returns-in-Err-clause-told g c =
    let refused : RefusedRead g.T.Disk.readable (g.T.Disk.world c.args.engine.now.store.disk.now) (g.T.Disk.world c.answer.new.self.store.disk.now) c.in-Err.fault = record {
      causes = c.in-Err.ensures.fails.causes;
      faults = c.in-Err.ensures.frame.later;
      sink = c.in-Err.ensures.frame.sink;
      on = λ e. let stopped : true ≡ false = sym (c.in-Err.ensures.fails.stopped.0 (ap Err e)) ∙ c.requires.on in cc;
      disk = λ e. c.in-Err.ensures.fails.disk (ap Err e);
      stays = λ apart. c.in-Err.ensures.fails.stays (λ e. apart (cc));
      no_false_damage = λ told state holds damage e. c.in-Err.ensures.no_false_damage told state holds damage (ap Err e);
      no_head = λ told damage e. c.in-Err.ensures.fails.no_head told damage (ap Err e);
      rests = c.in-Err.ensures.frame.rests;
    } in
    λ told state holds. subst (λ (e : Ended). RepliesTo state (Ok (lines.Ask c.args.query c.args.explain)) (g.T.Disk.world c.args.engine.now.store.disk.now) (g.T.Disk.world c.answer.new.self.store.disk.now) (Err e)) (sym c.ended_by.ensures)
    (refused-read _ _ _ c.in-Err.fault state (Ok (lines.Ask c.args.query c.args.explain)) refused told holds)

pub returns-in-Err-clause-cause : goal.returns-in-Err-clause-cause
returns-in-Err-clause-cause g c =
    let refused : RefusedRead g.T.Disk.readable (g.T.Disk.world c.args.engine.now.store.disk.now) (g.T.Disk.world c.answer.new.self.store.disk.now) c.in-Err.fault = record {
      causes = c.in-Err.ensures.fails.causes;
      faults = c.in-Err.ensures.frame.later;
      sink = c.in-Err.ensures.frame.sink;
      on = λ e. let stopped : true ≡ false = sym (c.in-Err.ensures.fails.stopped.0 (ap Err e)) ∙ c.requires.on in cc;
      disk = λ e. c.in-Err.ensures.fails.disk (ap Err e);
      stays = λ apart. c.in-Err.ensures.fails.stays (λ e. apart (cc));
      no_false_damage = λ told state holds damage e. c.in-Err.ensures.no_false_damage told state holds damage (ap Err e);
      no_head = λ told damage e. c.in-Err.ensures.fails.no_head told damage (ap Err e);
      rests = c.in-Err.ensures.frame.rests;
    } in
    subst (λ (e : Ended). HasEngineEnd {T = Reply} g.T.Disk.readable (g.T.Disk.world c.args.engine.now.store.disk.now) (g.T.Disk.world c.answer.new.self.store.disk.now) (Err e)) (sym c.ended_by.ensures)
    (refused-read-cause _ _ _ Reply c.in-Err.fault refused)

pub returns-in-Err-clause-ends : goal.returns-in-Err-clause-ends
returns-in-Err-clause-ends g c = subst IsLineEnd (sym c.ended_by.ensures) (read-ends c.in-Err.fault c.in-Err.ensures.fails.causes)

pub returns-in-Ok-clause-reads : goal.returns-in-Ok-clause-reads
returns-in-Ok-clause-reads g c = λ told state holds.
    asked-reads state c.args.query c.args.explain _ _ (c.in-Ok.ensures.frame.rests told).seen (c.in-Ok.ensures.opens_few told state holds)

pub returns-in-Ok-clause-kept : goal.returns-in-Ok-clause-kept
returns-in-Ok-clause-kept g c = λ told. record { seen = (c.in-Ok.ensures.frame.rests told).seen; met = tt }

pub returns-in-Err-clause-kept : goal.returns-in-Err-clause-kept
returns-in-Err-clause-kept g c = λ told.
    let image = (g.T.Disk.world c.args.engine.now.store.disk.now).seen in
    record {
      seen = (c.in-Err.ensures.frame.rests told).seen;
      met = subst (IsMetIn image) (sym c.ended_by.ensures) (met-engine image c.in-Err.fault (λ damage e. inl (c.args.query, c.in-Err.ensures.broken told damage (ap Err e))));
    }

pub returns-in-Err-clause-lacks : goal.returns-in-Err-clause-lacks
returns-in-Err-clause-lacks g c = λ told is.
    let ended : c.ended_by.result ≡ ends.Limit limits.NoRoom = cc in
    absurd (refused-room c.in-Err.fault c.in-Err.ensures.fails.causes (sym c.ended_by.ensures ∙ ended))

pub returns-in-Err-clause-goes_on : goal.returns-in-Err-clause-goes_on
returns-in-Err-clause-goes_on g c = on-behind _ c.ended_by.result (c.in-Err.ensures.frame.goes_on ∙ c.requires.on)
