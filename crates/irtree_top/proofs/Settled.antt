-- A job, and the settling of its engine behind it.
use Rattle.std.proofs.Common.{◌≡◌, ℕ, ◌+◌, ⊎_elim, inl, inr, Bool, List, [], ◌∷◌, ◌++◌, length, take, subst, sym, ◌∙◌, arith}
use Rattle.std.specs.Prelude.{IsTrue, Result, Ok, Err}
use Rattle.disk_model.specs.World.{World, Image, LeavesOnly, LeavesOnlySeen}
use Rattle.disk_model.proofs.Moments.{then, within}
use Rattle.place_values.specs.State.{Contents}
use Rattle.irtree_engine.specs.Holding.{HoldsState, LeavesState}
use Rattle.irtree_engine.specs.Updates.{state_after_all}
use Rattle.run_outcome.specs.Causes.{HasJobEnd, IsJobEnd}
use Rattle.run_outcome.proofs.Counts.{keeps-on}
use Rattle.run_outcome.specs.Left.{StopsAtBatch, StopsAtLine}
use Rattle.run_outcome.specs.Load.{Step, Skip, Store, skip_line, steps, stored_line}
use Rattle.run_outcome.specs.Script.{script_lines, turn}
use Rattle.load_run.specs.Making.{make_steps}
use Rattle.run_outcome.specs.Turn.{Transcript, End}
use Rattle.run_outcome.specs.declared.ended.Ended.{Ended}
use Rattle.run_outcome.specs.declared.ended.Ended.TheVariants as ends
use Rattle.run_outcome.specs.declared.ended.LimitFault.TheVariants as limits
use Rattle.command_words.specs.declared.job.Action.{Action}
use Rattle.command_words.specs.declared.job.Action.TheVariants.{Run, Load, Verify, Make, Upgrade}
use Rattle.irtree_top.specs.Prefix.{HoldsAcked, state_after_updates}
use Rattle.irtree_top.specs.Run.{EndsBy, EndsJob, HoldsPrefix, IsNear, SaysFront, SaysWhatWasRead, StopsForRoom, acked}
use Rattle.irtree_top.specs.Transcript.{IsTranscript}
use Rattle.command_words.specs.Job.{Asked}
use Rattle.irtree_top.proofs.Jobs.{decided-front, job-front}
use Rattle.load_run.proofs.Stages.{behind-same}

-- the law that what is asked for has one transcript
abbrev pub TranscriptIsOne : Type 0
TranscriptIsOne = (state : Contents) (asked : Asked) (input : List ℕ) (one other : Transcript) → IsTranscript state asked input one → IsTranscript state asked input other → one ≡ other

-- however a job ended, a front of the transcript's text was said
pub ends-front : TranscriptIsOne → (T : Type 0) (asked : Asked) (state : Contents) (input left : List ℕ) (old new : World) (result : Result T Ended) → EndsJob asked state input left old new result → SaysFront asked state input old new
ends-front one T asked state input left old new (Ok done) says = decided-front one _ asked state input old new says.0
ends-front one T asked state input left old new (Err end) says = job-front one T asked state input left old new end says

-- ---- how the job ended

module _ (asked : Asked) (state : Contents) (input : List ℕ) (old mid new : World) (same : new.said ≡ mid.said) where
  -- nothing more was said
  pub settled-front : SaysFront asked state input old mid → SaysFront asked state input old new
  settled-front says whole is = (let front = says whole is in (front.0, same ∙ front.1))

  module _ (stands : (held : Contents) → HoldsState mid held → HoldsState new held) where
    settled-by : (wanted : End) → EndsBy wanted asked state input old mid → EndsBy wanted asked state input old new
    settled-by wanted says = record {
      whole = says.whole;
      is = says.is;
      ends = record { end = says.ends.end; said = same ∙ says.ends.said; holds = stands says.whole.turn.state says.ends.holds };
    }

    settled-read : (action : Action) (left : List ℕ) → SaysWhatWasRead action state input left old mid → SaysWhatWasRead action state input left old new
    settled-read Run left says = record { read = says.read; came = says.came; said = same ∙ says.said; holds = stands _ says.holds }
    settled-read Load left says = (same ∙ says.0, stands state says.1)
    settled-read Verify left says = absurd says
    settled-read Make left says = absurd says
    settled-read Upgrade left says = absurd says

    line-settled : (at : Contents) (lines : List (List ℕ)) (before : List ℕ) → StopsAtLine at lines before mid → StopsAtLine at lines before new
    line-settled at [] before stops = absurd stops
    line-settled at (line ∷ lines) before stops = ⊎_elim
        (λ here. inl (here.0, same ∙ here.1, stands at here.2))
        (λ behind. inr (line-settled (turn at line).state lines (before ++ (turn at line).text) behind))
        stops

    batch-settled : (at : Contents) (stored skipped : ℕ) (rest : List Step) (before : List ℕ) → StopsAtBatch at stored skipped rest before mid → StopsAtBatch at stored skipped rest before new
    batch-settled at stored skipped [] before stops = absurd stops
    batch-settled at stored skipped (Skip index reason ∷ rest) before stops = batch-settled at stored (skipped + 1) rest (before ++ skip_line index reason) stops
    batch-settled at stored skipped (Store updates ∷ rest) before stops = ⊎_elim
        (λ here. inl (same ∙ here.0, stands at here.1))
        (λ behind. inr (behind-same (state_after_all at updates)
        (λ after. StopsAtBatch after (stored + length updates) skipped rest (before ++ stored_line (stored + length updates)) mid)
        (λ after. StopsAtBatch after (stored + length updates) skipped rest (before ++ stored_line (stored + length updates)) new)
        (λ after next. batch-settled after (stored + length updates) skipped rest (before ++ stored_line (stored + length updates)) next) behind))
        stops

    settled-room : (action : Action) → StopsForRoom action asked state input old mid → StopsForRoom action asked state input old new
    settled-room Run stops = line-settled state (script_lines input) old.said stops
    settled-room Load stops = (stops.0, stops.1, batch-settled state 0 0 (steps asked.batch [] stops.0) old.said stops.2)
    settled-room Verify stops = absurd stops
    settled-room Make stops = batch-settled state 0 0 (make_steps asked.batch asked.from asked.count) old.said stops
    settled-room Upgrade stops = absurd stops

    -- the job ended as it did before it was settled
    pub settled-job : (T : Type 0) (left : List ℕ) (result : Result T Ended) → EndsJob asked state input left old mid result → EndsJob asked state input left old new result
    settled-job T left (Ok done) says = (settled-by _ says.0, says.1)
    settled-job T left (Err ends.Source) says = (settled-read asked.action left says.0, settled-front says.1)
    settled-job T left (Err ends.Memory) says = settled-front says
    settled-job T left (Err ends.Disk) says = settled-front says
    settled-job T left (Err ends.Sink) says = settled-front says
    settled-job T left (Err (ends.Input fault)) says = settled-by _ says
    settled-job T left (Err (ends.Limit limits.Full)) says = settled-by _ says
    settled-job T left (Err (ends.Limit limits.Worn)) says = settled-by _ says
    settled-job T left (Err (ends.Limit limits.NoRoom)) says = (settled-room asked.action says.0, settled-front says.1)
    settled-job T left (Err (ends.Store fault)) says = absurd says
    settled-job T left (Err ends.Done) says = absurd says
    settled-job T left (Err ends.Words) says = absurd says

-- ---- why the job ended

module _ (readable : Bool) (source_old source_new : ℕ) (old mid new : World) (faults : new.faults ≡ mid.faults) (sink : new.sink_faults ≡ mid.sink_faults) where
  end-settled : (end : Ended) → IsJobEnd readable source_old source_new old mid end → IsJobEnd readable source_old source_new old new end
  end-settled ends.Memory cause = tt
  end-settled ends.Disk cause = omega (arith, cause, faults)
  end-settled ends.Source cause = cause
  end-settled ends.Sink cause = omega (arith, cause, sink)
  end-settled (ends.Input fault) cause = tt
  end-settled (ends.Store fault) cause = cause
  end-settled (ends.Limit fault) cause = tt
  end-settled ends.Done cause = absurd cause
  end-settled ends.Words cause = absurd cause

  -- a job has the cause that it had before it was settled
  pub cause-settled : (T : Type 0) → (IsTrue readable → (held : Contents) → HoldsState mid held → HoldsState new held) → (result : Result T Ended)
      → HasJobEnd readable source_old source_new old mid result → HasJobEnd readable source_old source_new old new result
  cause-settled T stands (Ok done) cause = record {
    source = cause.source;
    faults = omega (arith, cause.faults, faults);
    sink = omega (arith, cause.sink, sink);
    reads = cause.reads;
    keeps = keeps-on old mid new (Ok done) faults sink cause.keeps;
    stands = λ t held holds. (let after = cause.stands t held holds in (after.0, stands t after.0 after.1));
    cause = tt;
  }
  cause-settled T stands (Err end) cause = record {
    source = cause.source;
    faults = omega (arith, cause.faults, faults);
    sink = omega (arith, cause.sink, sink);
    reads = cause.reads;
    keeps = keeps-on old mid new (Err end) faults sink cause.keeps;
    stands = λ t. tt;
    cause = end-settled end cause.cause;
  }

-- ---- what a crash leaves

-- What reads give now is what they gave at the start, where nothing was pending, or has what a crash leaves of the call.
pub now-left : (P : Image → List ℕ → Type 0) (old now : World) → LeavesOnlySeen old
    → ((image : Image) (said : List ℕ) → old.left_since old.moment image said → old.may_leave image × (said ≡ old.said))
    → LeavesOnly old now P → now.left_since old.moment now.seen now.said → P old.seen old.said → P now.seen now.said
now-left P old now safe only leaves since first = ⊎_elim
    (λ was. let before = only now.seen now.said was in
    subst (λ (said : List ℕ). P now.seen said) (sym before.1) (subst (λ (image : Image). P image old.said) (sym (safe now.seen before.0)) first))
    (λ has. has)
    (leaves.each old.moment now.seen now.said (omega arith) since)

-- A crash while the engine settles leaves the prefix of updates that the image stood for as it began.
pub settled-left : TranscriptIsOne → (asked : Asked) (state : Contents) (input : List ℕ) (old mid new : World) (whole : Transcript) → IsTranscript state asked input whole → HoldsPrefix asked state input old mid.seen mid.said
    → ((held : Contents) → HoldsState mid held → LeavesOnly mid new (LeavesState held mid)) → LeavesOnly old mid (HoldsPrefix asked state input old) → LeavesOnly old new (HoldsPrefix asked state input old)
settled-left one asked state input old mid new whole is holds settles leaves =
    let now : HoldsAcked (acked asked.action) (IsNear asked.action asked.batch) state whole.turn.changes old.said mid.seen mid.said = holds whole is in
    then leaves (within (settles (state_after_updates state (take now.some whole.turn.changes)) now.stands) (λ image said left other also.
    subst (λ (t : Transcript). HoldsAcked (acked asked.action) (IsNear asked.action asked.batch) state t.turn.changes old.said image said) (one state asked input whole other is also)
    (record { spoken = now.spoken; is = left.1 ∙ now.is; some = now.some; most = now.most; stands = left.0; acknowledged = now.acknowledged; near = now.near })))
