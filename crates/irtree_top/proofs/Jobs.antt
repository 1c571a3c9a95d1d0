-- How a job ends, and what a crash leaves of it.
use Rattle.std.proofs.Common.{◌≡◌, ℕ, ⊎_elim, List, [], ◌++◌, take, refl, sym, ap, subst, ◌∙◌}
use Rattle.std.specs.Prelude.{Bool, Result, Ok, Err, IfErr}
use Rattle.std.proofs.lemmas.List.{append-nil}
use Rattle.disk_model.specs.World.{World}
use Rattle.place_values.specs.State.{Contents}
use Rattle.geojson_points.specs.Takes.{Item}
use Rattle.load_run.specs.Loading.{EndsLoad, StopsItems}
use Rattle.irtree_engine.specs.declared.fault.EngineFault.{EngineFault}
use Rattle.irtree_engine.specs.declared.fault.EngineFault.TheVariants as engine
use Rattle.run_outcome.specs.Causes.{IsEngineEnd, end_of_engine}
use Rattle.run_outcome.specs.Left.{StopsAtBatch, StopsAtLine}
use Rattle.run_outcome.specs.Load.{IsTaken, load_transcript, says_loaded, steps}
use Rattle.load_run.specs.Making.{EndsMake, make_steps, make_transcript, says_made}
use Rattle.run_outcome.specs.Said.{EndsAs, SaysFrontOf}
use Rattle.run_outcome.specs.Script.{cut, script, script_lines, script_transcript}
use Rattle.run_outcome.specs.Turn.{Transcript, End}
use Rattle.run_outcome.specs.declared.ended.Ended.{Ended}
use Rattle.run_outcome.specs.declared.ended.Ended.TheVariants as ends
use Rattle.run_outcome.specs.declared.ended.InputFault.{InputFault}
use Rattle.run_outcome.specs.declared.ended.LimitFault.{LimitFault}
use Rattle.run_outcome.specs.declared.ended.LimitFault.TheVariants as limits
use Rattle.script_run.specs.Standing.{EndsScript}
use Rattle.command_words.specs.declared.job.Action.{Action}
use Rattle.command_words.specs.declared.job.Action.TheVariants.{Run, Load, Verify, Make, Upgrade}
use Rattle.irtree_top.specs.Run.{EndsBy, EndsJob, IsUnreadEnd, LeavesInput, SaysFront, SaysWhatWasRead, StopsAtLimit, StopsForRoom}
use Rattle.irtree_top.specs.Transcript.{IsTranscript, IsTranscriptBy}
use Rattle.command_words.specs.Job.{Asked}
use Rattle.irtree_top.specs.Verify.{EndsVerify, verify_transcript}
use Rattle.irtree_top.proofs.Fronts.{batch-front, line-front, none-said, whole-said}
use Rattle.irtree_top.proofs.Transcripts.{OutcomeIsOne, taken-one}

-- ---- a script

module _ (asked : Asked) (state : Contents) (input : List ℕ) (runs : asked.action ≡ Run) where
  -- its transcript
  script-is : IsTranscript state asked input (script_transcript state input)
  script-is = subst (λ a. IsTranscriptBy a asked state input (script_transcript state input)) (sym runs) refl

  -- and no other
  pub script-only : (whole : Transcript) → IsTranscript state asked input whole → whole ≡ script_transcript state input
  script-only whole is = subst (λ a. IsTranscriptBy a asked state input whole) runs is

  script-front : (old new : World) → SaysFrontOf (script_transcript state input).turn.text old.said new.said → SaysFront asked state input old new
  script-front old new says whole is = subst (λ (t : Transcript). SaysFrontOf t.turn.text old.said new.said) (sym (script-only whole is)) says

  script-by : (wanted : End) (old new : World) → EndsAs wanted (script_transcript state input) old new → EndsBy wanted asked state input old new
  script-by wanted old new ends = record { whole = script_transcript state input; is = script-is; ends = ends }

  -- a script ends as a job that runs one
  pub script-ends : {T : Type 0} (left : List ℕ) (old new : World) (result : Result T Ended) → EndsScript state input left old new result → EndsJob asked state input left old new result
  script-ends left old new (Ok done) says = (script-by _ old new says.0, subst (λ a. LeavesInput a input left) (sym runs) says.1)
  script-ends left old new (Err ends.Memory) says = script-front old new says
  script-ends left old new (Err ends.Disk) says = script-front old new says
  script-ends left old new (Err ends.Sink) says = script-front old new says
  script-ends left old new (Err ends.Source) says = (subst (λ a. SaysWhatWasRead a state input left old new) (sym runs) says.0, script-front old new says.1)
  script-ends left old new (Err (ends.Input fault)) says = script-by _ old new says
  script-ends left old new (Err (ends.Limit limits.Full)) says = absurd says
  script-ends left old new (Err (ends.Limit limits.Worn)) says = absurd says
  script-ends left old new (Err (ends.Limit limits.NoRoom)) says =
      (subst (λ a. StopsForRoom a asked state input old new) (sym runs) says, script-front old new (line-front state (script_lines input) old.said new says))
  script-ends left old new (Err (ends.Store fault)) says = absurd says
  script-ends left old new (Err ends.Done) says = absurd says
  script-ends left old new (Err ends.Words) says = absurd says

-- ---- a load

module _ (law : OutcomeIsOne) (asked : Asked) (state : Contents) (input : List ℕ) (loads : asked.action ≡ Load) where
  -- its transcript, by what its text gives
  load-is : (taken : Result (List Item) InputFault) → IsTaken asked.text input taken → IsTranscript state asked input (load_transcript asked.batch state taken)
  load-is taken is = subst (λ a. IsTranscriptBy a asked state input (load_transcript asked.batch state taken)) (sym loads) (taken, is, refl)

  -- and no other
  pub load-only : (taken : Result (List Item) InputFault) → IsTaken asked.text input taken → (whole : Transcript) → IsTranscript state asked input whole → whole ≡ load_transcript asked.batch state taken
  load-only taken is whole also =
      let given : IsTranscriptBy Load asked state input whole = subst (λ a. IsTranscriptBy a asked state input whole) loads also in
      given.2 ∙ ap (load_transcript asked.batch state) (taken-one law asked.text input given.0 taken given.1 is)

  load-front : (taken : Result (List Item) InputFault) → IsTaken asked.text input taken → (old new : World) → SaysFrontOf (load_transcript asked.batch state taken).turn.text old.said new.said → SaysFront asked state input old new
  load-front taken is old new says whole also = subst (λ (t : Transcript). SaysFrontOf t.turn.text old.said new.said) (sym (load-only taken is whole also)) says

  load-by : (taken : Result (List Item) InputFault) → IsTaken asked.text input taken → (wanted : End) (old new : World) → EndsAs wanted (load_transcript asked.batch state taken) old new → EndsBy wanted asked state input old new
  load-by taken is wanted old new says = record { whole = load_transcript asked.batch state taken; is = load-is taken is; ends = says }

  no-front : (old new : World) → new.said ≡ old.said → SaysFront asked state input old new
  no-front old new none whole is = none-said whole.turn.text old.said new.said none

  -- where its items stop
  items-stop : (T : Type 0) (items : List Item) → IsTaken asked.text input (Ok items) → (left : List ℕ) (old new : World) (end : Ended) → StopsItems asked.batch state items old new end → EndsJob {T = T} asked state input left old new (Err end)
  items-stop T items is left old new ends.Memory says = load-front (Ok items) is old new says
  items-stop T items is left old new ends.Disk says = load-front (Ok items) is old new says
  items-stop T items is left old new ends.Sink says = load-front (Ok items) is old new says
  items-stop T items is left old new (ends.Limit limits.Full) says = load-by (Ok items) is _ old new says
  items-stop T items is left old new (ends.Limit limits.Worn) says = load-by (Ok items) is _ old new says
  items-stop T items is left old new (ends.Limit limits.NoRoom) says =
      (subst (λ a. StopsForRoom a asked state input old new) (sym loads) (items, is, says), load-front (Ok items) is old new (batch-front says_loaded state 0 0 (steps asked.batch [] items) old.said new says))
  items-stop T items is left old new (ends.Input fault) says = absurd says
  items-stop T items is left old new (ends.Store fault) says = absurd says
  items-stop T items is left old new ends.Source says = absurd says
  items-stop T items is left old new ends.Done says = absurd says
  items-stop T items is left old new ends.Words says = absurd says

  -- a load ends as a job that is one
  pub load-ends : (T : Type 0) (left : List ℕ) (old new : World) (result : Result T Ended) → EndsLoad asked.batch asked.text state input left old new result → EndsJob asked state input left old new result
  load-ends T left old new (Ok done) says = (load-by (Ok says.0.0) says.0.1 _ old new says.0.2, subst (λ a. LeavesInput a input left) (sym loads) says.1)
  load-ends T left old new (Err ends.Source) says = (subst (λ a. SaysWhatWasRead a state input left old new) (sym loads) says, no-front old new says.0)
  load-ends T left old new (Err (ends.Input fault)) says =
      load-by (Err fault) says.0 _ old new (record { end = refl; said = says.1.0 ∙ sym (append-nil old.said); holds = says.1.1 })
  load-ends T left old new (Err ends.Memory) says = ⊎_elim (λ none. no-front old new none.0.0) (λ some. items-stop T some.0 some.1 left old new ends.Memory some.2) says
  load-ends T left old new (Err ends.Disk) says = ⊎_elim (λ none. absurd (cc (none.1))) (λ some. items-stop T some.0 some.1 left old new ends.Disk some.2) says
  load-ends T left old new (Err ends.Sink) says = ⊎_elim (λ none. absurd (cc (none.1))) (λ some. items-stop T some.0 some.1 left old new ends.Sink some.2) says
  load-ends T left old new (Err (ends.Limit fault)) says = ⊎_elim (λ none. absurd (cc (none.1))) (λ some. items-stop T some.0 some.1 left old new (ends.Limit fault) some.2) says
  load-ends T left old new (Err (ends.Store fault)) says = absurd says
  load-ends T left old new (Err ends.Done) says = absurd says
  load-ends T left old new (Err ends.Words) says = absurd says

-- ---- a make

module _ (asked : Asked) (state : Contents) (input : List ℕ) (makes : asked.action ≡ Make) where
  -- its transcript
  abbrev of_make : Transcript
  of_make = make_transcript asked.batch asked.from asked.count state

  make-is : IsTranscript state asked input of_make
  make-is = subst (λ a. IsTranscriptBy a asked state input of_make) (sym makes) refl

  -- and no other
  pub make-only : (whole : Transcript) → IsTranscript state asked input whole → whole ≡ make_transcript asked.batch asked.from asked.count state
  make-only whole is = subst (λ a. IsTranscriptBy a asked state input whole) makes is

  make-front : (old new : World) → SaysFrontOf of_make.turn.text old.said new.said → SaysFront asked state input old new
  make-front old new says whole is = subst (λ (t : Transcript). SaysFrontOf t.turn.text old.said new.said) (sym (make-only whole is)) says

  make-by : (wanted : End) (old new : World) → EndsAs wanted of_make old new → EndsBy wanted asked state input old new
  make-by wanted old new says = record { whole = of_make; is = make-is; ends = says }

  -- a make ends as a job that is one
  pub make-ends : (T : Type 0) (left : List ℕ) (old new : World) (result : Result T Ended) → left ≡ input → EndsMake asked.batch asked.from asked.count state old new result → EndsJob asked state input left old new result
  make-ends T left old new (Ok done) same says = (make-by _ old new says, subst (λ a. LeavesInput a input left) (sym makes) same)
  make-ends T left old new (Err ends.Memory) same says = make-front old new says
  make-ends T left old new (Err ends.Disk) same says = make-front old new says
  make-ends T left old new (Err ends.Sink) same says = make-front old new says
  make-ends T left old new (Err (ends.Limit limits.Full)) same says = make-by _ old new says
  make-ends T left old new (Err (ends.Limit limits.Worn)) same says = make-by _ old new says
  make-ends T left old new (Err (ends.Limit limits.NoRoom)) same says = (
    subst (λ a. StopsForRoom a asked state input old new) (sym makes) says,
    make-front old new (batch-front (says_made asked.from asked.count) state 0 0 (make_steps asked.batch asked.from asked.count) old.said new says),
  )
  make-ends T left old new (Err ends.Source) same says = absurd says
  make-ends T left old new (Err (ends.Input fault)) same says = absurd says
  make-ends T left old new (Err (ends.Store fault)) same says = absurd says
  make-ends T left old new (Err ends.Done) same says = absurd says
  make-ends T left old new (Err ends.Words) same says = absurd says

-- ---- a check

module _ (asked : Asked) (state : Contents) (input : List ℕ) (verifies : asked.action ≡ Verify) where
  verify-is : IsTranscript state asked input (verify_transcript state)
  verify-is = subst (λ a. IsTranscriptBy a asked state input (verify_transcript state)) (sym verifies) refl

  -- its one transcript
  pub verify-only : (whole : Transcript) → IsTranscript state asked input whole → whole ≡ verify_transcript state
  verify-only whole is = subst (λ a. IsTranscriptBy a asked state input whole) verifies is

  verify-front : (old new : World) → SaysFrontOf (verify_transcript state).turn.text old.said new.said → SaysFront asked state input old new
  verify-front old new says whole is = subst (λ (t : Transcript). SaysFrontOf t.turn.text old.said new.said) (sym (verify-only whole is)) says

  -- a check ends as a job that is one
  pub verify-ends : (T : Type 0) (left : List ℕ) (old new : World) (result : Result T Ended) → left ≡ input → EndsVerify state old new result → EndsJob asked state input left old new result
  verify-ends T left old new (Ok done) same says = (
    record { whole = verify_transcript state; is = verify-is; ends = record { end = refl; said = says.0; holds = says.1 } },
    subst (λ a. LeavesInput a input left) (sym verifies) same,
  )
  verify-ends T left old new (Err ends.Memory) same says = verify-front old new says
  verify-ends T left old new (Err ends.Disk) same says = verify-front old new says
  verify-ends T left old new (Err ends.Sink) same says = verify-front old new says
  verify-ends T left old new (Err ends.Source) same says = absurd says
  verify-ends T left old new (Err (ends.Input fault)) same says = absurd says
  verify-ends T left old new (Err (ends.Limit fault)) same says = absurd says
  verify-ends T left old new (Err (ends.Store fault)) same says = absurd says
  verify-ends T left old new (Err ends.Done) same says = absurd says
  verify-ends T left old new (Err ends.Words) same says = absurd says

-- a call over an engine ends by no source and by no input
pub engine-unread : (readable : Bool) (old new : World) (T : Type 0) (result : Result T Ended) → IfErr result (IsEngineEnd readable old new) → IfErr result IsUnreadEnd
engine-unread readable old new T (Ok done) cause = tt
engine-unread readable old new T (Err ends.Memory) cause = tt
engine-unread readable old new T (Err ends.Disk) cause = tt
engine-unread readable old new T (Err ends.Sink) cause = tt
engine-unread readable old new T (Err (ends.Store fault)) cause = tt
engine-unread readable old new T (Err (ends.Limit fault)) cause = tt
engine-unread readable old new T (Err _) cause = absurd cause

-- nor does an opening that is refused
pub fault-unread : (fault : EngineFault) → IsUnreadEnd (end_of_engine fault)
fault-unread engine.Disk = tt
fault-unread engine.NotAStore = tt
fault-unread engine.Version1 = tt
fault-unread (engine.BadJournal at) = tt
fault-unread (engine.Damaged damage) = tt
fault-unread engine.Full = tt
fault-unread engine.Worn = tt
fault-unread engine.NoRoom = tt
fault-unread engine.Stopped = tt
fault-unread engine.Memory = tt

-- ---- what was said before

-- an end, from where as much was said
pub ends-from : (wanted : End) (whole : Transcript) (old was new : World) → was.said ≡ old.said → EndsAs wanted whole was new → EndsAs wanted whole old new
ends-from wanted whole old was new same ends = record { end = ends.end; said = ends.said ∙ ap (λ s. s ++ whole.turn.text) same; holds = ends.holds }

module _ (asked : Asked) (state : Contents) (input : List ℕ) (old was new : World) (same : was.said ≡ old.said) where
  front-from : SaysFront asked state input was new → SaysFront asked state input old new
  front-from says whole is = (let front = says whole is in (front.0, front.1 ∙ ap (λ s. s ++ take front.0 whole.turn.text) same))

  by-from : (wanted : End) → EndsBy wanted asked state input was new → EndsBy wanted asked state input old new
  by-from wanted says = record { whole = says.whole; is = says.is; ends = ends-from wanted says.whole old was new same says.ends }

  read-from : (action : Action) (left : List ℕ) → SaysWhatWasRead action state input left was new → SaysWhatWasRead action state input left old new
  read-from Run left says = record { read = says.read; came = says.came; said = says.said ∙ ap (λ s. s ++ (script state (cut says.read).lines).text) same; holds = says.holds }
  read-from Load left says = (says.0 ∙ same, says.1)
  read-from Verify left says = absurd says
  read-from Make left says = absurd says
  read-from Upgrade left says = absurd says

  room-from : (action : Action) → StopsForRoom action asked state input was new → StopsForRoom action asked state input old new
  room-from Run stops = subst (λ s. StopsAtLine state (script_lines input) s new) same stops
  room-from Load stops = (stops.0, stops.1, subst (λ s. StopsAtBatch state 0 0 (steps asked.batch [] stops.0) s new) same stops.2)
  room-from Verify stops = absurd stops
  room-from Make stops = subst (λ s. StopsAtBatch state 0 0 (make_steps asked.batch asked.from asked.count) s new) same stops
  room-from Upgrade stops = absurd stops

  -- how a job ended, from where as much was said
  pub job-from : (T : Type 0) (left : List ℕ) (result : Result T Ended) → EndsJob asked state input left was new result → EndsJob asked state input left old new result
  job-from T left (Ok done) says = (by-from _ says.0, says.1)
  job-from T left (Err ends.Source) says = (read-from asked.action left says.0, front-from says.1)
  job-from T left (Err ends.Memory) says = front-from says
  job-from T left (Err ends.Disk) says = front-from says
  job-from T left (Err ends.Sink) says = front-from says
  job-from T left (Err (ends.Input fault)) says = by-from _ says
  job-from T left (Err (ends.Limit limits.Full)) says = by-from _ says
  job-from T left (Err (ends.Limit limits.Worn)) says = by-from _ says
  job-from T left (Err (ends.Limit limits.NoRoom)) says = (room-from asked.action says.0, front-from says.1)
  job-from T left (Err (ends.Store fault)) says = absurd says
  job-from T left (Err ends.Done) says = absurd says
  job-from T left (Err ends.Words) says = absurd says

module _ (one : (state : Contents) (asked : Asked) (input : List ℕ) (one other : Transcript) → IsTranscript state asked input one → IsTranscript state asked input other → one ≡ other) where
  -- the whole text is a front of the transcript's
  pub decided-front : (wanted : End) (asked : Asked) (state : Contents) (input : List ℕ) (old new : World) → EndsBy wanted asked state input old new → SaysFront asked state input old new
  decided-front wanted asked state input old new says whole is =
      subst (λ (t : Transcript). SaysFrontOf t.turn.text old.said new.said) (one state asked input says.whole whole says.is is) (whole-said wanted says.whole old new says.ends)

  limit-front : (fault : LimitFault) (asked : Asked) (state : Contents) (input : List ℕ) (old new : World) → StopsAtLimit fault asked state input old new → SaysFront asked state input old new
  limit-front limits.Full asked state input old new says = decided-front _ asked state input old new says
  limit-front limits.Worn asked state input old new says = decided-front _ asked state input old new says
  limit-front limits.NoRoom asked state input old new says = says.1

  -- however a job ends, a front of the transcript's text was said
  pub job-front : (T : Type 0) (asked : Asked) (state : Contents) (input left : List ℕ) (old new : World) (end : Ended) → EndsJob {T = T} asked state input left old new (Err end) → SaysFront asked state input old new
  job-front T asked state input left old new ends.Memory says = says
  job-front T asked state input left old new ends.Disk says = says
  job-front T asked state input left old new ends.Sink says = says
  job-front T asked state input left old new ends.Source says = says.1
  job-front T asked state input left old new (ends.Input fault) says = decided-front _ asked state input old new says
  job-front T asked state input left old new (ends.Limit fault) says = limit-front fault asked state input old new says
  job-front T asked state input left old new (ends.Store fault) says = absurd says
  job-front T asked state input left old new ends.Done says = absurd says
  job-front T asked state input left old new ends.Words says = absurd says
