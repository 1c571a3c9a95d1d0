use Rattle.std.proofs.Common.{◌≡◌, sym, ap, ◌∙◌, arith}
use Rattle.std.proofs.lemmas.Bool.{false≢true}
use Rattle.std.specs.Prelude.{Err}
use Rattle.page_store.specs.declared.superblock.Superblock.{Superblock}
use Rattle.page_store.specs.Store.{rests_still}
use Rattle.run_outcome.proofs.Reading.{RefusedRead, read-goes_on, refused-read-cause, refused-room}
use Rattle.run_outcome.specs.declared.ended.Ended.TheVariants as ends
use Rattle.run_outcome.specs.declared.ended.LimitFault.TheVariants as limits
use Rattle.load_run.proofs.Causes.{engine-lacks}
use Rattle.load_run.specs.declared.found.Found.{Found}
use Rattle.load_run.proofs.Ends.{refused-asking, refused-limit}
use Rattle.load_run.proofs.Hits.{counts-answer}
use Rattle.load_run.proofs.asking.ask.Given as given
use Rattle.load_run.proofs.asking.ask.Goals.{After-ended_by}
use Rattle.load_run.proofs.asking.ask.Goals as goal

-- what is known of a query that was refused
refused : (g : given.Over) (c : After-ended_by g) → RefusedRead g.T.Disk.readable (g.T.Disk.world c.args.engine.now.store.disk.now) (g.T.Disk.world c.answer.new.self.store.disk.now) c.in-Err-answer.fault
refused g c = record {
  causes = c.in-Err-answer.ensures.fails.causes;
  faults = c.in-Err-answer.ensures.frame.later;
  sink = c.in-Err-answer.ensures.frame.sink;
  on = λ e. false≢true (sym c.requires.on ∙ c.in-Err-answer.ensures.fails.stopped.0 (ap Err e));
  disk = λ e. c.in-Err-answer.ensures.fails.disk (ap Err e);
  stays = λ apart. c.in-Err-answer.ensures.fails.stays (λ e. apart (cc));
  no_false_damage = λ told state holds damage e. c.in-Err-answer.ensures.no_false_damage told state holds damage (ap Err e);
  no_head = λ told damage e. c.in-Err-answer.ensures.fails.no_head told damage (ap Err e);
  rests = c.in-Err-answer.ensures.frame.rests;
}

-- ---- want of memory

pub returns-in-Err-clause-rests : goal.returns-in-Err-clause-rests
returns-in-Err-clause-rests g c = λ told. rests_still (g.T.Disk.world c.args.engine.now.store.disk.now)

pub returns-in-Err-clause-cause : goal.returns-in-Err-clause-cause
returns-in-Err-clause-cause g c = engine-lacks g.T.Disk.readable (g.T.Disk.world c.args.engine.now.store.disk.now) Found

pub returns-in-Err-clause-rises : goal.returns-in-Err-clause-rises
returns-in-Err-clause-rises g c = record { live = tt; number = tt; limit = tt }

-- ---- an answer

pub returns-in-Ok-answer-clause-told : goal.returns-in-Ok-answer-clause-told
returns-in-Ok-answer-clause-told g c = λ told state holds.
    counts-answer state _ c.in-Ok.query c.in-Ok-answer.answer c.counted.result c.in-Ok.ensures.query (c.in-Ok-answer.ensures.answered told state holds) c.counted.ensures.counts

pub returns-in-Ok-answer-clause-cause : goal.returns-in-Ok-answer-clause-cause
returns-in-Ok-answer-clause-cause g c = read-goes_on g.T.Disk.readable (g.T.Disk.world c.args.engine.now.store.disk.now) (g.T.Disk.world c.answer.new.self.store.disk.now) c.counted.result c.in-Ok-answer.ensures.frame.rests (c.in-Ok-answer.ensures.fails.stays (λ e. absurd (cc))) c.in-Ok-answer.ensures.frame.sink

pub returns-in-Ok-answer-clause-rises : goal.returns-in-Ok-answer-clause-rises
returns-in-Ok-answer-clause-rises g c =
    let same = c.in-Ok-answer.ensures.frame.head in
    record { live = omega (arith, ap (λ (b : Superblock). b.head.live) same); number = omega (arith, ap (λ (b : Superblock). b.head.number) same); limit = tt }

-- ---- a refusal

pub returns-clause-ends : goal.returns-clause-ends
returns-clause-ends g c = λ told state holds. rw c.ended_by.ensures (refused-asking _ _ _ c.in-Err-answer.fault (refused g (goal.at.returns-clause-ends g c).After-ended_by) told state holds)

pub returns-clause-cause : goal.returns-clause-cause
returns-clause-cause g c =
    rw c.ended_by.ensures (refused-read-cause g.T.Disk.readable (g.T.Disk.world c.args.engine.now.store.disk.now) (g.T.Disk.world c.answer.new.self.store.disk.now) Found c.in-Err-answer.fault (refused g (goal.at.returns-clause-cause g c).After-ended_by))

pub returns-clause-rises : goal.returns-clause-rises
returns-clause-rises g c = record { live = tt; number = tt; limit = rw c.ended_by.ensures (refused-limit _ _ c.in-Err-answer.fault c.in-Err-answer.ensures.fails.causes) }

pub returns-clause-room : goal.returns-clause-room
returns-clause-room g c = λ is.
    let ended : c.ended_by.result ≡ ends.Limit limits.NoRoom = cc in
    absurd (refused-room c.in-Err-answer.fault c.in-Err-answer.ensures.fails.causes (sym c.ended_by.ensures ∙ ended))
