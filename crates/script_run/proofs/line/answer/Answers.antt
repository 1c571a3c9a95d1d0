use Rattle.std.proofs.Common.{sym, refl, ap, subst}
use Rattle.std.specs.Prelude.{Ok, OnOk}
use Rattle.query_lang.specs.declared.line.Line.{Line}
use Rattle.query_lang.specs.declared.line.Line.TheVariants as lines
use Rattle.query_lang.specs.Reply.{reply_of}
use Rattle.query_replies.specs.declared.reply.Reply.TheVariants as replies
use Rattle.query_replies.specs.Reply.{text_of_reply}
use Rattle.query_lang.specs.Plain.{plain_line}
use Rattle.run_outcome.specs.Asking.{IsAsking, ReadsForLine}
use Rattle.run_outcome.specs.Reading.{IsReading}
use Rattle.script_run.specs.Lines.{RepliesTo}
use Rattle.script_run.proofs.Asking.{line-unread}
use Rattle.script_run.proofs.Replies.{read-replies}
use Rattle.script_run.proofs.line.answer.Goals as goal
use Rattle.page_store.specs.Store.{rests_still}

pub returns-in-Nothing-clause-told : goal.returns-in-Nothing-clause-told
unfolding reply_of
returns-in-Nothing-clause-told g c = λ told state holds.
    subst (λ (l : Line). RepliesTo state (Ok l) (g.T.Disk.world c.args.engine.now.store.disk.now) (g.T.Disk.world c.args.engine.now.store.disk.now) (Ok replies.Nothing)) (sym c.in-Nothing.is)
    (read-replies state (Ok lines.Nothing) _ _ replies.Nothing (rests_still _) holds refl refl)

pub returns-in-Do-clause-told : goal.returns-in-Do-clause-told
returns-in-Do-clause-told g c = λ told state holds.
    subst (λ (l : Line). RepliesTo state (Ok l) (g.T.Disk.world c.args.engine.now.store.disk.now) (g.T.Disk.world c.update.new.engine.store.disk.now) c.update.result) (sym c.in-Do.is) (c.update.ensures.told told state holds)

pub returns-in-Ask-clause-told : goal.returns-in-Ask-clause-told
returns-in-Ask-clause-told g c = λ told state holds.
    subst (λ (l : Line). RepliesTo state (Ok l) (g.T.Disk.world c.args.engine.now.store.disk.now) (g.T.Disk.world c.ask.new.engine.store.disk.now) c.ask.result) (sym c.in-Ask.is) (c.ask.ensures.told told state holds)

pub returns-in-Show-clause-told : goal.returns-in-Show-clause-told
returns-in-Show-clause-told g c = λ told state holds.
    subst (λ (l : Line). RepliesTo state (Ok l) (g.T.Disk.world c.args.engine.now.store.disk.now) (g.T.Disk.world c.show.new.engine.store.disk.now) c.show.result) (sym c.in-Show.is) (c.show.ensures.told told state holds)

pub returns-in-Count-clause-told : goal.returns-in-Count-clause-told
unfolding reply_of
returns-in-Count-clause-told g c = λ told state holds.
    subst (λ (l : Line). RepliesTo state (Ok l) (g.T.Disk.world c.args.engine.now.store.disk.now) (g.T.Disk.world c.args.engine.now.store.disk.now) (Ok (replies.Count c.count.result))) (sym c.in-Count.is)
    (read-replies state (Ok lines.Count) _ _ (replies.Count c.count.result) (rests_still _) holds refl (ap (λ n. text_of_reply (replies.Count n)) (c.count.ensures.counted told c.requires.on state holds)))

pub returns-in-Nothing-clause-reads : goal.returns-in-Nothing-clause-reads
returns-in-Nothing-clause-reads g c = λ told state holds asks. line-unread state (Ok (plain_line c.args.line)) (g.T.Disk.world c.args.engine.now.store.disk.now)

pub returns-in-Do-clause-reads : goal.returns-in-Do-clause-reads
returns-in-Do-clause-reads g c = λ told state holds asks. absurd (subst (λ (l : Line). IsAsking (Ok (plain_line l))) c.in-Do.is asks)

pub returns-in-Ask-clause-reads : goal.returns-in-Ask-clause-reads
returns-in-Ask-clause-reads g c = λ told state holds asks.
    subst (λ (l : Line). OnOk c.ask.result (ReadsForLine state (Ok (plain_line l)) (g.T.Disk.world c.args.engine.now.store.disk.now) (g.T.Disk.world c.ask.new.engine.store.disk.now))) (sym c.in-Ask.is) (c.ask.ensures.reads told state holds)

pub returns-in-Show-clause-reads : goal.returns-in-Show-clause-reads
returns-in-Show-clause-reads g c = λ told state holds asks. absurd (subst (λ (l : Line). IsAsking (Ok (plain_line l))) c.in-Show.is asks)

pub returns-in-Count-clause-reads : goal.returns-in-Count-clause-reads
returns-in-Count-clause-reads g c = λ told state holds asks. line-unread state (Ok (plain_line c.args.line)) (g.T.Disk.world c.args.engine.now.store.disk.now)

pub returns-in-Nothing-clause-kept : goal.returns-in-Nothing-clause-kept
returns-in-Nothing-clause-kept g c = λ told reads. record { seen = refl; met = tt }

pub returns-in-Do-clause-kept : goal.returns-in-Do-clause-kept
returns-in-Do-clause-kept g c = λ told reads. absurd (subst (λ (l : Line). IsReading (Ok (plain_line l))) c.in-Do.is reads)

pub returns-in-Ask-clause-kept : goal.returns-in-Ask-clause-kept
returns-in-Ask-clause-kept g c = λ told reads. c.ask.ensures.kept told

pub returns-in-Show-clause-kept : goal.returns-in-Show-clause-kept
returns-in-Show-clause-kept g c = λ told reads. c.show.ensures.kept told

pub returns-in-Count-clause-kept : goal.returns-in-Count-clause-kept
returns-in-Count-clause-kept g c = λ told reads. record { seen = refl; met = tt }
