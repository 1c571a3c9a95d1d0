-- A load between two of its items, and how it ends.
use Rattle.std.specs.Prelude.{◌≡◌, ◌≢◌, ◌⊎◌, ℕ, ◌+◌, ◌^◌, ◌<◌, ◌≤◌, List, [], ◌++◌, length, max, Option, Vec, Result, Ok, Err, OnOk, IfErr}
use Rattle.std.specs.List.{AllByRecursion}
use Rattle.disk_model.specs.World.{World, Image, LeavesOnly, Rose}
use Rattle.json_spelled.specs.declared.tree.JsonFault.TheVariants as json
use Rattle.page_face.specs.declared.head.Head.{Head}
use Rattle.place_values.specs.State.{Contents}
use Rattle.place_values.specs.declared.update.Update.{Update}
use Rattle.place_values.specs.declared.update.UpdateFault.TheVariants as faults
use Rattle.geojson_points.specs.Takes.{Item}
use Rattle.geojson_points.specs.declared.fault.LoadFault.{LoadFault}
use Rattle.geojson_points.specs.declared.fault.LoadFault.TheVariants as loads
use Rattle.store_model.specs.Stands.{Stands}
use Rattle.irtree_engine.specs.Holding.{HoldsState}
use Rattle.place_values.specs.Update.{NamesText}
use Rattle.irtree_engine.specs.Updates.{LeavesAllOrNone, StandsForOutcome, state_after_all}
use Rattle.run_outcome.specs.Left.{LeftBySteps, StopsAtBatch}
use Rattle.run_outcome.specs.Load.{Closing, IsTaken, Step, load, load_max, load_transcript, says_loaded, steps}
use Rattle.run_outcome.specs.Said.{EndsAs, SaysFrontOf}
use Rattle.run_outcome.specs.Turn.{Transcript, End, Done, Limit}
use Rattle.run_outcome.specs.declared.ended.Ended.{Ended}
use Rattle.run_outcome.specs.declared.ended.Ended.TheVariants as ends
use Rattle.run_outcome.specs.declared.ended.InputFault.TheVariants as inputs
use Rattle.run_outcome.specs.declared.ended.LimitFault.TheVariants as limits
use Rattle.load_run.specs.declared.load.Load.{Load}

-- the input wasn't read to its end, or is too long
abbrev pub IsUnread : List ℕ → Ended → Type 0
IsUnread input (ends.Input inputs.Long) = load_max < length input
IsUnread input ends.Memory = Unit {0}
IsUnread input ends.Source = Unit {0}
IsUnread input _ = ⊥

-- the input was read to its end, or it wasn't
abbrev pub HasText : {A : Type 0} → List ℕ → List ℕ → Result (Vec ℕ A) Ended → Type 0
HasText old new (Ok text) = (text.items ≡ old) × (new ≡ [])
HasText old new (Err end) = IsUnread old end

-- ---- between two items

-- how many items a load has acted on
abbrev pub acted_on : Load → ℕ
acted_on at = at.stored + (length at.waiting.items + at.skipped)

-- The places that wait are fewer than a batch has, which is one at least, and can be stored.
pub record CanWait (at : Load) : Type 0 where
  pub few : length at.waiting.items < max at.batch 1
  pub batch : at.batch ≤ 10000
  pub keys : AllByRecursion NamesText at.waiting.items

-- so many more places are stored, and nothing else has changed but the text that waits to be said
pub record HasStored (count : ℕ) (old new : Load) : Type 0 where
  pub batch : new.batch ≡ old.batch
  pub waiting : new.waiting.items ≡ old.waiting.items
  pub stored : new.stored ≡ old.stored + count
  pub skipped : new.skipped ≡ old.skipped

-- Where a load stands: what it says last, the state that the image stands for, how many places were stored and how many items were skipped,
-- the steps that are still to come, and the text that waits to be said.
pub record Stage : Type 0 where
  pub closing : Closing
  pub state : Contents
  pub stored : ℕ
  pub skipped : ℕ
  pub rest : List Step
  pub waits : List ℕ

-- a load that stands in this state, in front of these steps
abbrev pub stage : Closing → Load → Contents → List Step → Stage
stage closing at state rest = record { closing = closing; state = state; stored = at.stored; skipped = at.skipped; rest = rest; waits = at.text.items }

-- and in front of these items
abbrev pub stage_before : Closing → Load → Contents → List Item → Stage
stage_before closing at state items = stage closing at state (steps at.batch at.waiting.items items)

-- a load that has acted on no item
abbrev pub stage_at_start : Closing → ℕ → Contents → List Item → Stage
stage_at_start closing batch state items = record { closing = closing; state = state; stored = 0; skipped = 0; rest = steps batch [] items; waits = [] }

-- what a load says last that stands so in this state
abbrev pub closing_of : Closing → Load → Contents → List ℕ
closing_of closing at state = closing state at.stored at.skipped

-- what the steps to come say and do
abbrev pub to_come : Stage → Transcript
to_come at = load at.closing at.state at.stored at.skipped at.rest

-- the text to be said from there on
abbrev pub text_to_say : Stage → List ℕ
text_to_say at = at.waits ++ (to_come at).turn.text

-- What a crash may leave from there on: the state and a front of what waits, or what the steps to come leave behind all of it.
abbrev pub LeftFrom : Stage → List ℕ → Image → List ℕ → Type 0
LeftFrom at before image said =
    (Stands image at.state × SaysFrontOf at.waits before said)
    ⊎ LeftBySteps at.closing at.state at.stored at.skipped at.rest (before ++ at.waits) image said

-- where a load stops for want of room from there on
abbrev pub StopsFrom : Stage → List ℕ → World → Type 0
StopsFrom at before now = StopsAtBatch at.state at.stored at.skipped at.rest (before ++ at.waits) now

-- a moment of which no more is known than what reads give and what was said
abbrev pub moment_of : Image → List ℕ → World
moment_of image said = record {
  seen = image;
  said = said;
  reads = [];
  faults = 0;
  sink_faults = 0;
  may_leave = λ other. ⊥;
  moment = 0;
  left_since = λ t other words. ⊥;
}

-- A load went on from one stage to another: some of its text was said, and what comes after the other comes after the one.
pub record Goes (at after : Stage) (old new : World) : Type 0 where
  pub done : List ℕ
  pub text : text_to_say at ≡ done ++ text_to_say after
  pub end : (to_come at).end ≡ (to_come after).end
  pub state : (to_come at).turn.state ≡ (to_come after).turn.state
  pub said : new.said ≡ old.said ++ done
  pub holds : HoldsState new after.state
  pub left : LeavesOnly old new (LeftFrom at old.said)
  pub leads : (image : Image) (said : List ℕ) → LeftFrom after new.said image said → LeftFrom at old.said image said
  pub stops : (image : Image) (said : List ℕ) → StopsFrom after new.said (moment_of image said) → StopsFrom at old.said (moment_of image said)

-- The load ends so, all of the text from there on was said, and the image stands for the last state.
pub record Reaches (wanted : End) (at : Stage) (old new : World) : Type 0 where
  pub end : (to_come at).end ≡ wanted
  pub said : new.said ≡ old.said ++ text_to_say at
  pub holds : HoldsState new (to_come at).turn.state

-- how a load ended that stood so
abbrev pub IsConcluded : {T : Type 0} → Stage → World → World → Result T Ended → Type 0
IsConcluded at old new (Ok done) = Reaches Done at old new
IsConcluded at old new (Err ends.Memory) = SaysFrontOf (text_to_say at) old.said new.said
IsConcluded at old new (Err ends.Disk) = SaysFrontOf (text_to_say at) old.said new.said
IsConcluded at old new (Err ends.Sink) = SaysFrontOf (text_to_say at) old.said new.said
IsConcluded at old new (Err (ends.Limit limits.Full)) = Reaches (Limit limits.Full) at old new
IsConcluded at old new (Err (ends.Limit limits.Worn)) = Reaches (Limit limits.Worn) at old new
IsConcluded at old new (Err (ends.Limit limits.NoRoom)) = StopsFrom at old.said new
IsConcluded at old new (Err _) = ⊥

-- and what a crash left meanwhile
pub record Concludes {T : Type 0} (at : Stage) (old new : World) (result : Result T Ended) : Type 0 where
  pub left : LeavesOnly old new (LeftFrom at old.said)
  pub ends : IsConcluded at old new result

-- a load went on to a stage in the state by then, or it ended
abbrev pub Moves : {T : Type 0} → Stage → (Contents → Stage) → World → World → Result T Ended → Type 0
Moves at after old new (Ok done) = (state : Contents) × Goes at (after state) old new
Moves {T = T} at after old new (Err end) = Concludes {T = T} at old new (Err end)

-- why updates were not stored, and what the image stands for then
abbrev pub IsUnstored : Contents → List Update → World → Ended → Type 0
IsUnstored state updates new ends.Memory = Unit {0}
IsUnstored state updates new ends.Disk = Unit {0}
IsUnstored state updates new (ends.Limit limits.Full) = (state_after_all state updates ≡ Err faults.Full) × HoldsState new state
IsUnstored state updates new (ends.Limit limits.Worn) = (state_after_all state updates ≡ Err faults.Worn) × HoldsState new state
IsUnstored state updates new (ends.Limit limits.NoRoom) = HoldsState new state
IsUnstored state updates new _ = ⊥

-- All updates were stored, or none. Nothing was said.
pub record StoresAll {T : Type 0} (state : Contents) (updates : List Update) (old new : World) (result : Result T Ended) : Type 0 where
  pub said : new.said ≡ old.said
  pub left : LeavesOnly old new (LeavesAllOrNone state updates old)
  pub stored : OnOk result (StandsForOutcome (state_after_all state updates) new.seen)
  pub unstored : IfErr result (IsUnstored state updates new)

-- ---- page 0's numbers, on any image

-- a limit of the map that so many live places and this update number reach
abbrev pub IsLimitAt : ℕ → ℕ → Ended → Type 0
IsLimitAt live number (ends.Limit limits.Full) = 1000000 ≤ live
IsLimitAt live number (ends.Limit limits.Worn) = 2 ^ 40 ≤ number
IsLimitAt live number _ = Unit {0}

-- Page 0's numbers, with the places that wait to be stored, rose by at most so many; and a limit is met only where they reach it.
pub record RisesBy {T : Type 0} (count waits_old waits_new : ℕ) (old new : Head) (result : Result T Ended) : Type 0 where
  pub live : OnOk result (new.live + waits_new ≤ old.live + (waits_old + count))
  pub number : OnOk result (new.number + waits_new ≤ old.number + (waits_old + count))
  pub limit : IfErr result (IsLimitAt (old.live + (waits_old + count)) (old.number + (waits_old + count)))

-- ---- the whole

-- how steps stopped, in the state at their start, and what was said of them
abbrev pub StopsSteps : Closing → Contents → List Step → World → World → Ended → Type 0
StopsSteps closing state steps first now ends.Memory = SaysFrontOf (load closing state 0 0 steps).turn.text first.said now.said
StopsSteps closing state steps first now ends.Disk = SaysFrontOf (load closing state 0 0 steps).turn.text first.said now.said
StopsSteps closing state steps first now ends.Sink = SaysFrontOf (load closing state 0 0 steps).turn.text first.said now.said
StopsSteps closing state steps first now (ends.Limit limits.Full) = EndsAs (Limit limits.Full) (load closing state 0 0 steps) first now
StopsSteps closing state steps first now (ends.Limit limits.Worn) = EndsAs (Limit limits.Worn) (load closing state 0 0 steps) first now
StopsSteps closing state steps first now (ends.Limit limits.NoRoom) = StopsAtBatch state 0 0 steps first.said now
StopsSteps closing state steps first now _ = ⊥

-- how they ended
abbrev pub EndsSteps : {T : Type 0} → Closing → Contents → List Step → World → World → Result T Ended → Type 0
EndsSteps closing state steps first now (Ok done) = EndsAs Done (load closing state 0 0 steps) first now
EndsSteps closing state steps first now (Err end) = StopsSteps closing state steps first now end

-- how the items of a load stopped, in the state at its start, and what was said of them
abbrev pub StopsItems : ℕ → Contents → List Item → World → World → Ended → Type 0
StopsItems batch state items first now end = StopsSteps says_loaded state (steps batch [] items) first now end

-- nothing was said, and the image stands for the state
abbrev pub SaysNothingYet : Contents → World → World → Type 0
SaysNothingYet state first now = (now.said ≡ first.said) × HoldsState now state

-- How a load ended: its text was refused, or gave items that were acted on, or wasn't read.
abbrev pub EndsLoad : {T : Type 0} → ℕ → Option (List ℕ) → Contents → List ℕ → List ℕ → World → World → Result T Ended → Type 0
EndsLoad batch only state input left first now (Ok done) =
    ((items : List Item) × IsTaken only input (Ok items) × EndsAs Done (load_transcript batch state (Ok items)) first now) × (left ≡ [])
EndsLoad batch only state input left first now (Err ends.Source) = SaysNothingYet state first now
EndsLoad batch only state input left first now (Err (ends.Input fault)) = IsTaken only input (Err fault) × SaysNothingYet state first now
EndsLoad batch only state input left first now (Err ends.Done) = ⊥
EndsLoad batch only state input left first now (Err ends.Words) = ⊥
EndsLoad batch only state input left first now (Err (ends.Store fault)) = ⊥
EndsLoad batch only state input left first now (Err end) =
    (SaysNothingYet state first now × (end ≡ ends.Memory))
    ⊎ ((items : List Item) × IsTaken only input (Ok items) × StopsItems batch state items first now end)

-- what may end the reading of a whole input: want of memory, a source whose count rose, or an input that is too long
abbrev pub IsReadEnd : ℕ → ℕ → Ended → Type 0
IsReadEnd old new ends.Memory = Unit {0}
IsReadEnd old new ends.Source = Rose old new
IsReadEnd old new (ends.Input fault) = Unit {0}
IsReadEnd old new _ = ⊥

-- Such an end has its cause, the count never falls, and where it rose it ends so.
pub record HasReadEnd {T : Type 0} (old new : ℕ) (result : Result T Ended) : Type 0 where
  pub later : old ≤ new
  pub stays : result ≢ Err ends.Source → new ≡ old
  pub cause : IfErr result (IsReadEnd old new)

-- how a text that gives no items ends a load
abbrev pub RefusesSo : LoadFault → Ended → Type 0
RefusesSo (loads.Json (json.NotUtf8 at)) end = end ≡ ends.Input (inputs.NotUtf8 at)
RefusesSo (loads.Json (json.Syntax at)) end = end ≡ ends.Input (inputs.Syntax at)
RefusesSo (loads.Json (json.TooDeep at)) end = end ≡ ends.Input (inputs.TooDeep at)
RefusesSo (loads.Json json.Memory) end = end ≡ ends.Memory
RefusesSo loads.NotFeatures end = end ≡ ends.Input inputs.NotFeatures
RefusesSo loads.Memory end = end ≡ ends.Memory
