-- What a run of the program promises.
use Rattle.std.specs.Prelude.{◌≡◌, ◌≢◌, ◌⊎◌, ◌≤◌, ℕ, List, [], Bool, Option, IsTrue, IfErr, OnOk, Ok, Err, Result}
use Rattle.disk_model.specs.World.{World, Image, LeavesOnly, Range, Rose, WritesNothing}
use Rattle.irtree_engine.specs.Damages.{IsImageDamage}
use Rattle.irtree_engine.specs.Holding.{HasBrokenHead, IsForeign, IsOpenable, IsVersion1, StandsForNone}
use Rattle.irtree_engine.specs.Opening.{IsRecovered}
use Rattle.irtree_engine.specs.Queries.{EachRead, contents_held}
use Rattle.page_journal.specs.Record.{IsBad, IsReady, StandsAlike, StandsFor}
use Rattle.page_store.specs.Contents as pages
use Rattle.page_store.specs.Contents.{page_bytes}
use Rattle.page_store.specs.Opening.{IsOpeningRead, head_damage}
use Rattle.page_store.specs.Superblock.{superblock_in}
use Rattle.page_face.specs.declared.fault.Damage.{Damage}
use Rattle.page_face.specs.declared.fault.Rule.TheVariants.{Head}
use Rattle.place_values.specs.State.{Contents}
use Rattle.geojson_points.specs.Takes.{Item}
use Rattle.irtree_top.specs.Acked.{acked_by_script, acked_by_load}
use Rattle.irtree_top.specs.Prefix.{HoldsAcked, IsNearInScript, IsNearInLoad}
use Rattle.load_run.specs.Loading.{SaysNothingYet}
use Rattle.load_run.specs.Making.{ReachLimit, make_steps}
use Rattle.run_outcome.specs.Asking.{IsReadForOneOf}
use Rattle.run_outcome.specs.Causes.{KeepsCounts, LacksRoomIn}
use Rattle.run_outcome.specs.Left.{StopsAtBatch, StopsAtLine}
use Rattle.run_outcome.specs.Load.{GivesItems, IsTaken, ReachesLimit, steps}
use Rattle.run_outcome.specs.Said.{EndsAs, SaysFrontOf}
use Rattle.run_outcome.specs.Script.{FitsScript, IsScriptInput, script_lines}
use Rattle.run_outcome.specs.Turn.{Transcript, End, Done, Input, Limit}
use Rattle.run_outcome.specs.declared.ended.Ended.{Ended}
use Rattle.run_outcome.specs.declared.ended.Ended.TheVariants as ends
use Rattle.run_outcome.specs.declared.ended.InputFault.{InputFault}
use Rattle.run_outcome.specs.declared.ended.LimitFault.{LimitFault}
use Rattle.run_outcome.specs.declared.ended.LimitFault.TheVariants as limits
use Rattle.run_outcome.specs.declared.ended.StoreFault.{StoreFault}
use Rattle.run_outcome.specs.declared.ended.StoreFault.TheVariants as stores
use Rattle.script_run.specs.Standing.{SaysRepliesOf}
use Rattle.command_words.specs.declared.job.Action.{Action}
use Rattle.command_words.specs.declared.job.Action.TheVariants.{Run, Load, Verify, Make, Upgrade}
use Rattle.irtree_top.specs.Transcript.{IsTranscript}
use Rattle.command_words.specs.Job.{Asked}

-- a front of the text of the transcript was said
abbrev pub SaysFront : Asked → Contents → List ℕ → World → World → Type 0
SaysFront asked state input old new = (whole : Transcript) → IsTranscript state asked input whole → SaysFrontOf whole.turn.text old.said new.said

-- The transcript ends so, its whole text was said, and the image stands for its last state.
pub record EndsBy (wanted : End) (asked : Asked) (state : Contents) (input : List ℕ) (old new : World) : Type 0 where
  pub whole : Transcript
  pub is : IsTranscript state asked input whole
  pub ends : EndsAs wanted whole old new

-- What was said where the source failed, and what the image stands for: in a script the replies of what was read, and the state after
-- these lines; in a load nothing, and the state at the start. The others read no source.
abbrev pub SaysWhatWasRead : Action → Contents → List ℕ → List ℕ → World → World → Type 0
SaysWhatWasRead Run state input left old new = SaysRepliesOf state input left old new
SaysWhatWasRead Load state input left old new = SaysNothingYet state old new
SaysWhatWasRead Verify state input left old new = ⊥
SaysWhatWasRead Make state input left old new = ⊥
SaysWhatWasRead Upgrade state input left old new = ⊥

-- Where no page was left: what comes before the reply to an update, or before a batch's line, was said whole and nothing else, and the
-- image stands for the state before it. A check and an upgrade make no update.
abbrev pub StopsForRoom : Action → Asked → Contents → List ℕ → World → World → Type 0
StopsForRoom Run asked state input old new = StopsAtLine state (script_lines input) old.said new
StopsForRoom Load asked state input old new = (items : List Item) × IsTaken asked.text input (Ok items) × StopsAtBatch state 0 0 (steps asked.batch [] items) old.said new
StopsForRoom Verify asked state input old new = ⊥
StopsForRoom Make asked state input old new = StopsAtBatch state 0 0 (make_steps asked.batch asked.from asked.count) old.said new
StopsForRoom Upgrade asked state input old new = ⊥

-- how a run stops at a limit
abbrev pub StopsAtLimit : LimitFault → Asked → Contents → List ℕ → World → World → Type 0
StopsAtLimit limits.Full asked state input old new = EndsBy (Limit limits.Full) asked state input old new
StopsAtLimit limits.Worn asked state input old new = EndsBy (Limit limits.Worn) asked state input old new
StopsAtLimit limits.NoRoom asked state input old new = StopsForRoom asked.action asked state input old new × SaysFront asked state input old new

-- how many updates the bytes said acknowledge
abbrev pub acked : Action → List ℕ → ℕ
acked Run spoken = acked_by_script spoken
acked Load spoken = acked_by_load spoken
acked Verify spoken = 0
acked Make spoken = acked_by_load spoken
acked Upgrade spoken = 0

-- how many updates more may be held than are acknowledged
abbrev pub IsNear : Action → ℕ → ℕ → ℕ → ℕ → Type 0
IsNear Run batch some acked all = IsNearInScript some acked all
IsNear Load batch some acked all = IsNearInLoad batch some acked all
IsNear Verify batch some acked all = some ≡ 0
IsNear Make batch some acked all = IsNearInLoad batch some acked all
IsNear Upgrade batch some acked all = some ≡ 0

-- The image stands for the state after a prefix of the transcript's updates that holds every acknowledged one.
abbrev pub HoldsPrefix : Asked → Contents → List ℕ → World → Image → List ℕ → Type 0
HoldsPrefix asked state input old image said =
    (whole : Transcript) → IsTranscript state asked input whole
    → HoldsAcked (acked asked.action) (IsNear asked.action asked.batch) state whole.turn.changes old.said image said

-- What an action leaves of an input that it takes whole: a script and a load read it to its end, and the others leave it as it was.
abbrev pub LeavesInput : Action → List ℕ → List ℕ → Type 0
LeavesInput Run input left = left ≡ []
LeavesInput Load input left = left ≡ []
LeavesInput Verify input left = left ≡ input
LeavesInput Make input left = left ≡ input
LeavesInput Upgrade input left = left ≡ input

-- how a job ended: what it had said, and what the image stands for
abbrev pub EndsJob : {T : Type 0} → Asked → Contents → List ℕ → List ℕ → World → World → Result T Ended → Type 0
EndsJob asked state input left old new (Ok done) = EndsBy Done asked state input old new × LeavesInput asked.action input left
EndsJob asked state input left old new (Err ends.Source) = SaysWhatWasRead asked.action state input left old new × SaysFront asked state input old new
EndsJob asked state input left old new (Err ends.Memory) = SaysFront asked state input old new
EndsJob asked state input left old new (Err ends.Disk) = SaysFront asked state input old new
EndsJob asked state input left old new (Err ends.Sink) = SaysFront asked state input old new
EndsJob asked state input left old new (Err (ends.Input fault)) = EndsBy (Input fault) asked state input old new
EndsJob asked state input left old new (Err (ends.Limit fault)) = StopsAtLimit fault asked state input old new
EndsJob asked state input left old new (Err (ends.Store fault)) = ⊥
EndsJob asked state input left old new (Err ends.Done) = ⊥
EndsJob asked state input left old new (Err ends.Words) = ⊥

-- Where damage is met: at page 0 as it is opened, or behind the opening, by another rule than Head.
abbrev pub IsDamagedAt : Damage → Image → Type 0
IsDamagedAt damage image = ((damage ≡ head_damage) × HasBrokenHead image) ⊎ ((damage.rule ≢ Head) × IsOpenable image)

-- What a store's fault says of the image: that it stands for no state; where it is called no store, that page 0 is foreign; where the
-- journal is named, that its first fault is at that byte; where a page is named, that page 0 breaks the rule Head, or is opened and the rule is another one;
-- where version 1 is named, that page 0 begins with its magic.
abbrev pub IsBroken : StoreFault → Image → Type 0
IsBroken stores.NotAStore image = StandsForNone image × IsForeign image
IsBroken (stores.BadJournal at) image = StandsForNone image × IsBad image at
IsBroken (stores.Damaged damage) image = StandsForNone image × IsDamagedAt damage image
IsBroken stores.Version1 image = StandsForNone image × IsVersion1 image

-- The page that is named breaks the rule that is named: page 0 the rule Head, or another one of those that the image holds, as a query or a
-- look at a key meets it.
abbrev pub IsBrokenRule : Damage → Image → Type 0
IsBrokenRule damage image = ((damage ≡ head_damage) × HasBrokenHead image) ⊎ IsImageDamage image damage

-- an end that names a page and a rule names one that the page breaks
abbrev pub NamesBrokenRule : Image → Ended → Type 0
NamesBrokenRule image (ends.Store (stores.Damaged damage)) = IsBrokenRule damage image
NamesBrokenRule image _ = Unit {0}

-- What may end a job whose store is opened first: want of memory, a count that rose, an image that is broken so, or, over an image that
-- is opened, the input or a limit.
abbrev pub IsRunEnd : Bool → ℕ → ℕ → World → World → Ended → Type 0
IsRunEnd readable source_old source_new old new ends.Memory = Unit {0}
IsRunEnd readable source_old source_new old new ends.Disk = Rose old.faults new.faults
IsRunEnd readable source_old source_new old new ends.Source = Rose source_old source_new × (IsTrue readable → IsOpenable old.seen)
IsRunEnd readable source_old source_new old new ends.Sink = Rose old.sink_faults new.sink_faults × (IsTrue readable → IsOpenable old.seen)
IsRunEnd readable source_old source_new old new (ends.Input fault) = IsTrue readable → IsOpenable old.seen
IsRunEnd readable source_old source_new old new (ends.Store fault) = IsTrue readable → IsBroken fault old.seen
IsRunEnd readable source_old source_new old new (ends.Limit fault) = IsTrue readable → IsOpenable old.seen
IsRunEnd readable source_old source_new old new ends.Done = ⊥
IsRunEnd readable source_old source_new old new ends.Words = ⊥

-- Such an end has its cause, no count falls, and where one rose it ends so: by the disk, which may fail last, before the others.
pub record HasRunEnd {T : Type 0} (readable : Bool) (source_old source_new : ℕ) (old new : World) (result : Result T Ended) : Type 0 where
  pub source : source_old ≤ source_new
  pub faults : old.faults ≤ new.faults
  pub sink : old.sink_faults ≤ new.sink_faults
  pub reads : result ≢ Err ends.Disk → result ≢ Err ends.Source → source_new ≡ source_old
  pub keeps : KeepsCounts old new result
  pub opened : IsTrue readable → OnOk result (IsOpenable old.seen)
  pub cause : IfErr result (IsRunEnd readable source_old source_new old new)

-- ---- what the input says of an end

-- why an input ends an action: that of a script is too long, and that of a load gives no items, for this cause; none ends another action
abbrev pub IsInputEnd : Action → Option (List ℕ) → List ℕ → InputFault → Type 0
IsInputEnd Run only input fault = IsScriptInput input fault
IsInputEnd Load only input fault = IsTaken only input (Err fault)
IsInputEnd Verify only input fault = ⊥
IsInputEnd Make only input fault = ⊥
IsInputEnd Upgrade only input fault = ⊥

-- an input that an action takes whole: a script is no longer than it may be, and the text of a load gives items; to another action it is all the same
abbrev pub IsWholeInput : Action → Option (List ℕ) → List ℕ → Type 0
IsWholeInput Run only input = FitsScript input
IsWholeInput Load only input = GivesItems only input
IsWholeInput Verify only input = Unit {0}
IsWholeInput Make only input = Unit {0}
IsWholeInput Upgrade only input = Unit {0}

-- the limits that end an action: a script ends for want of room alone, since it says the limits of the map and goes on, and an upgrade,
-- which adds no place; a check ends by none
abbrev pub IsLimitOf : Action → LimitFault → Type 0
IsLimitOf Run fault = fault ≡ limits.NoRoom
IsLimitOf Load fault = Unit {0}
IsLimitOf Verify fault = ⊥
IsLimitOf Make fault = Unit {0}
IsLimitOf Upgrade fault = fault ≡ limits.NoRoom

-- how many updates of the action one commit stores at most, with so many places in a batch
abbrev pub most_updates : Action → ℕ → ℕ
most_updates Run batch = 1
most_updates Load batch = batch
most_updates Verify batch = 0
most_updates Make batch = batch
most_updates Upgrade batch = 0

-- of the image's free pages, and of those that the disk has room for beside the pages counted, there are no more than a commit of the action is allowed to take
abbrev pub LacksRoomFor : Action → ℕ → ℕ → Image → Type 0
LacksRoomFor action batch room image = LacksRoomIn (most_updates action batch) room image

-- The places of an action reach the limit, from so many live places and this update number on: those of the text of a load, or those that
-- are made.
abbrev pub ReachesLimitBy : Action → Asked → LimitFault → ℕ → ℕ → List ℕ → Type 0
ReachesLimitBy Run asked fault live number input = fault ≡ limits.NoRoom
ReachesLimitBy Load asked fault live number input = ReachesLimit fault live number asked.text input
ReachesLimitBy Verify asked fault live number input = ⊥
ReachesLimitBy Make asked fault live number input = ReachLimit asked.count fault live number
ReachesLimitBy Upgrade asked fault live number input = fault ≡ limits.NoRoom

-- The image stands for pages whose page 0 has numbers that reach the limit, with the number of the action's places added.
pub record IsLimitReached (fault : LimitFault) (asked : Asked) (input : List ℕ) (image : Image) : Type 0 where
  pub area : ℕ → ℕ
  pub stands : StandsFor image area
  pub reaches : ReachesLimitBy asked.action asked fault (superblock_in (page_bytes area 0)).head.live (superblock_in (page_bytes area 0)).head.number input

-- ---- which ends there are

-- an end that comes only behind the opening of the store
abbrev pub IsBehindOpening : Ended → Type 0
IsBehindOpening ends.Memory = ⊥
IsBehindOpening ends.Words = ⊥
IsBehindOpening ends.Disk = ⊥
IsBehindOpening (ends.Store fault) = ⊥
IsBehindOpening _ = Unit {0}

-- ---- what is left behind the job

-- Behind any end but the disk's nothing is pending, and the journal's first closed gate is its first byte: what it held is in its place.
abbrev pub RestsBehind : World → Ended → Type 0
RestsBehind new ends.Disk = Unit {0}
RestsBehind new _ = IsReady 0 new

-- so does a job that ends well
abbrev pub LeavesAtRest : {T : Type 0} → World → Result T Ended → Type 0
LeavesAtRest new (Ok done) = IsReady 0 new
LeavesAtRest new (Err end) = RestsBehind new end

-- So it is behind any end that comes behind the opening.
abbrev pub RestsIfOpened : {T : Type 0} → World → Result T Ended → Type 0
RestsIfOpened new (Ok done) = IsReady 0 new
RestsIfOpened new (Err end) = IsBehindOpening end → IsReady 0 new

-- an end that no fault of source, disk or sink causes
abbrev pub IsSettled : Ended → Type 0
IsSettled ends.Disk = ⊥
IsSettled ends.Source = ⊥
IsSettled ends.Sink = ⊥
IsSettled _ = Unit {0}

-- how a run ends by its words, where no count rose and the image stands for a state
abbrev pub IsCompleteEnd : Action → Ended → Type 0
IsCompleteEnd action ends.Done = Unit {0}
IsCompleteEnd action ends.Memory = Unit {0}
IsCompleteEnd action (ends.Input fault) = Unit {0}
IsCompleteEnd action (ends.Limit fault) = IsLimitOf action fault
IsCompleteEnd action _ = ⊥

-- an action that reads no input
abbrev pub ReadsNothing : Action → Type 0
ReadsNothing Run = ⊥
ReadsNothing Load = ⊥
ReadsNothing Verify = Unit {0}
ReadsNothing Make = Unit {0}
ReadsNothing Upgrade = Unit {0}

-- an end that such an action may have: neither its source nor an input ends it
abbrev pub IsUnreadEnd : Ended → Type 0
IsUnreadEnd ends.Words = ⊥
IsUnreadEnd ends.Source = ⊥
IsUnreadEnd (ends.Input fault) = ⊥
IsUnreadEnd _ = Unit {0}

-- ---- a store that is refused

-- The journal was recovered, nothing was printed, and at every crash meanwhile the image holds what it held before, whatever that was.
pub record LeavesRecovered (old new : World) : Type 0 where
  pub recovered : IsRecovered old new
  pub alike : LeavesOnly old new (StandsAlike old)
  pub said : new.said ≡ old.said

-- What a store that is refused as it is opened is left as: where its journal is bad, as it was; where its page 0 is foreign, is that of
-- version 1 or breaks the rule Head, recovered.
abbrev pub LeavesStore : StoreFault → World → World → Type 0
LeavesStore stores.NotAStore old new = LeavesRecovered old new
LeavesStore (stores.BadJournal at) old new = WritesNothing old new
LeavesStore (stores.Damaged damage) old new = HasBrokenHead old.seen → LeavesRecovered old new
LeavesStore stores.Version1 old new = LeavesRecovered old new

-- At every crash the image stands for what it stood for, whatever that was, and nothing was said.
pub record LeavesAlike (old new : World) : Type 0 where
  pub alike : LeavesOnly old new (StandsAlike old)
  pub said : new.said ≡ old.said

-- a store that is refused as it is opened is left alone
abbrev pub LeavesAlone : Ended → World → World → Type 0
LeavesAlone (ends.Store fault) old new = LeavesStore fault old new
LeavesAlone _ old new = Unit {0}

-- ---- which pages a script that only asks reads

-- The read is of the journal, of page 0, or for one of the lines, a query: of a page in a log by which its answer was found with few nodes
-- opened.
abbrev pub IsAllowedRead : pages.Contents → Contents → List (List ℕ) → Range → Type 0
IsAllowedRead held state lines range = IsOpeningRead range ⊎ IsReadForOneOf held state lines range

-- Each read that was taken is such a one for the lines of the script, by what the image at the start holds.
abbrev pub OpensFew : Contents → List ℕ → World → World → Type 0
OpensFew state input old new = EachRead (IsAllowedRead (contents_held old.seen) state (script_lines input)) old new
