use Rattle.std.proofs.Common.{◌++◌, ap, ◌∙◌}
use Rattle.query_replies.specs.Reply.{text_of_reply}
use Rattle.query_replies.specs.declared.reply.Reply.{Reply}
use Rattle.script_run.proofs.Causes.{engine-then}
use Rattle.script_run.proofs.Reading.{keeps-failed}
use Rattle.script_run.proofs.Saying.{say-goes_on, act-stopped, act-lost, act-said, act-failed}
use Rattle.script_run.proofs.line.act.Goals as goal

pub returns-in-Err-clause-told : goal.returns-in-Err-clause-told
returns-in-Err-clause-told g c = λ told state holds. act-stopped state c.args.line.now _ _ _ c.in-Err.end (c.in-Err.ensures.told told state holds)

pub returns-in-Err-reply_text-clause-told : goal.returns-in-Err-reply_text-clause-told
returns-in-Err-reply_text-clause-told g c = λ told state holds. act-lost state c.args.line.now _ _ _ c.in-Ok.found (c.in-Ok.ensures.told told state holds)

pub returns-in-Ok-say_all-clause-told : goal.returns-in-Ok-say_all-clause-told
returns-in-Ok-say_all-clause-told g c = λ told state holds.
    act-said state c.args.line.now _ _ _ c.in-Ok.found c.deref.result.now (c.in-Ok.ensures.told told state holds)
    (c.deref.ensures.value ∙ c.in-Ok-reply_text.ensures.ok ∙ ap (λ l. l ++ text_of_reply c.in-Ok.found) c.clear.ensures.items) c.in-Ok-say_all.field-0 _ (c.in-Ok.ensures.reads told state holds) (c.in-Ok-say_all.ensures.reads told) (c.in-Ok-say_all.ensures.said told)

pub returns-in-Ok-say_all-clause-cause : goal.returns-in-Ok-say_all-clause-cause
returns-in-Ok-say_all-clause-cause g c =
    engine-then _ _ _ _ c.in-Ok.found c.in-Ok.ensures.cause _ (say-goes_on _ _ _ c.deref.result.now c.in-Ok-say_all.field-0 _ c.in-Ok-say_all.ensures.said c.in-Ok-say_all.ensures.cause)

pub returns-clause-told : goal.returns-clause-told
returns-clause-told g c = λ told state holds.
    act-failed state c.args.line.now _ _ _ c.in-Ok.found c.deref.result.now (c.in-Ok.ensures.told told state holds)
    (c.deref.ensures.value ∙ c.in-Ok-reply_text.ensures.ok ∙ ap (λ l. l ++ text_of_reply c.in-Ok.found) c.clear.ensures.items) _ _ c.in-Err-say_all.field-0 (c.in-Err-say_all.ensures.said told)

pub returns-in-Err-clause-kept : goal.returns-in-Err-clause-kept
returns-in-Err-clause-kept g c = λ told reads. keeps-failed Reply (Unit {0}) _ _ c.in-Err.end (c.in-Err.ensures.kept told reads)

pub returns-in-Err-reply_text-clause-kept : goal.returns-in-Err-reply_text-clause-kept
returns-in-Err-reply_text-clause-kept g c = λ told reads. record { seen = (c.in-Ok.ensures.kept told reads).seen; met = tt }

pub returns-in-Ok-say_all-clause-kept : goal.returns-in-Ok-say_all-clause-kept
returns-in-Ok-say_all-clause-kept g c = λ told reads. record { seen = (c.in-Ok-say_all.ensures.said told).seen ∙ (c.in-Ok.ensures.kept told reads).seen; met = tt }

pub returns-clause-kept : goal.returns-clause-kept
returns-clause-kept g c = λ told reads. record { seen = (c.in-Err-say_all.ensures.said told).seen ∙ (c.in-Ok.ensures.kept told reads).seen; met = tt }
