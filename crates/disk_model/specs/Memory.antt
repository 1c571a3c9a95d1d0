-- What is seen of a station in memory.
use Rattle.std.specs.Prelude.{◌≡◌, ◌⊎◌, ℕ, true, false, List, [], None, Result, MatchResult}
use Rattle.disk_model.specs.declared.call.Call.{Call}
use Rattle.disk_model.specs.declared.call.Fail.{Fail}
use Rattle.disk_model.specs.declared.memory_station.MemoryStation.{MemoryStation}
use Rattle.disk_model.specs.Plan.{calls_of, is_due, counted, once_more}
use Rattle.disk_model.specs.declared.plan.Plan.{Plan}
use Rattle.disk_model.specs.declared.call.CallKind.{CallKind}
use Rattle.disk_model.specs.declared.call.CallKind.TheVariants.{Read, Write, Sync, Say}
use Rattle.disk_model.specs.World.{World, Image, LeavesOnlySeen, Rose}
use Rattle.disk_model.specs.Replay.{State, world_of, replay}
use Rattle.disk_model.specs.Stored.{first_state}

-- what reads give, the ranges pending and the bytes said
abbrev pub state_of : MemoryStation → State
state_of m = replay (first_state m.first) m.made.items

-- what it held at first and the calls made since: all that its world is told from, beside the counts of faults
abbrev pub past_of : MemoryStation → State × List Call
past_of m = (first_state m.first, m.made.items)

-- its world, told from the record of its calls
abbrev pub memory_world : MemoryStation → World
memory_world m = world_of (first_state m.first) m.made.items m.faults m.sink_faults

-- the image that reads give
abbrev pub holds : MemoryStation → Image
holds m = (state_of m).seen

-- the bytes said
abbrev pub said_of : MemoryStation → List ℕ
said_of m = (state_of m).said

-- the counts of disk faults and of sink faults
abbrev pub faults_of : MemoryStation → ℕ × ℕ
faults_of m = (m.faults, m.sink_faults)

-- how many calls found no memory
abbrev pub lacks_of : MemoryStation → ℕ
lacks_of m = m.lacks

-- how many pages there is room for
abbrev pub room_in : MemoryStation → ℕ
room_in m = m.room

-- which calls are to fail, and how many of each kind were made
abbrev pub plan_of : MemoryStation → Plan
plan_of m = m.plan

-- the calls listed to fail
abbrev pub listed_of : MemoryStation → List Fail
listed_of m = m.plan.fails.items

-- nothing pending, nothing said, no read taken, no call counted, no fault, no listed failure and no stop
pub record IsFresh (m : MemoryStation) : Type 0 where
  pub safe : LeavesOnlySeen (memory_world m)
  pub said : said_of m ≡ []
  pub taken : (memory_world m).reads ≡ []
  pub faults : faults_of m ≡ (0, 0)
  pub lacks : lacks_of m ≡ 0
  pub calls : calls_of (plan_of m) ≡ 0
  pub listed : listed_of m ≡ []
  pub stop : (plan_of m).stop ≡ None

-- the counts of faults with one more of a call's kind
abbrev pub failed_once : CallKind → ℕ × ℕ → ℕ × ℕ
failed_once Say counts = (counts.0, once_more counts.1)
failed_once Read counts = (once_more counts.0, counts.1)
failed_once Write counts = (once_more counts.0, counts.1)
failed_once Sync counts = (once_more counts.0, counts.1)

-- A call fails exactly where it is due to, or finds no memory. It counts as one of its kind, and as a fault where it failed.
pub record FailsAsPlanned {T E : Type 0} (kind : CallKind) (old new : MemoryStation) (result : Result T E) : Type 0 where
  pub fails : MatchResult result
      (λ _. (is_due kind (plan_of old) ≡ false) × (lacks_of new ≡ lacks_of old))
      (λ _. (is_due kind (plan_of old) ≡ true) ⊎ Rose (lacks_of old) (lacks_of new))
  pub counts : plan_of new ≡ counted kind (plan_of old)
  pub faults : MatchResult result (λ _. faults_of new ≡ faults_of old) (λ _. faults_of new ≡ failed_once kind (faults_of old))
