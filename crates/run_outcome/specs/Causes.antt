-- Why a run ends.
use Rattle.std.specs.Prelude.{ℕ, ◌≤◌, ◌≡◌, ◌≢◌, Bool, false, IsTrue, Result, Ok, Err, OnOk, IfErr}
use Rattle.disk_model.specs.World.{World, Image, Rose}
use Rattle.page_face.specs.declared.fault.Rule.TheVariants.{Head}
use Rattle.place_values.specs.State.{Contents}
use Rattle.irtree_engine.specs.Holding.{HoldsState, StandsForNone}
use Rattle.irtree_engine.specs.Queries.{contents_held}
use Rattle.irtree_engine.specs.Updates.{LacksPages, LacksRoom}
use Rattle.irtree_engine.specs.declared.fault.EngineFault.{EngineFault}
use Rattle.irtree_engine.specs.declared.fault.EngineFault.TheVariants as engine
use Rattle.run_outcome.specs.declared.ended.Ended.{Ended}
use Rattle.run_outcome.specs.declared.ended.Ended.TheVariants.{Memory, Disk, Source, Sink, Input, Store, Limit}
use Rattle.run_outcome.specs.declared.ended.StoreFault.{StoreFault}
use Rattle.run_outcome.specs.declared.ended.StoreFault.TheVariants as stores
use Rattle.run_outcome.specs.declared.ended.LimitFault.TheVariants as limits

-- how a run ends where the engine refused
abbrev pub end_of_engine : EngineFault → Ended
end_of_engine engine.Disk = Disk
end_of_engine engine.NotAStore = Store stores.NotAStore
end_of_engine (engine.BadJournal at) = Store (stores.BadJournal at)
end_of_engine (engine.Damaged damage) = Store (stores.Damaged damage)
end_of_engine engine.Full = Limit limits.Full
end_of_engine engine.Worn = Limit limits.Worn
end_of_engine engine.NoRoom = Limit limits.NoRoom
end_of_engine engine.Stopped = Disk
end_of_engine engine.Version1 = Store stores.Version1
end_of_engine engine.Memory = Memory

-- behind such an end the engine goes on, but behind that by the disk
abbrev pub GoesOnBehind : Bool → Ended → Type 0
GoesOnBehind stopped Disk = Unit {0}
GoesOnBehind stopped _ = stopped ≡ false

-- the engine goes on, where the disk didn't end the call
abbrev pub GoesOn : {T : Type 0} → Bool → Result T Ended → Type 0
GoesOn stopped (Ok value) = stopped ≡ false
GoesOn stopped (Err end) = GoesOnBehind stopped end

-- where the image stood for a state, it stands for one
abbrev pub StandsStill : World → World → Type 0
StandsStill old new = (state : Contents) → HoldsState old state → (after : Contents) × HoldsState new after

-- What a call over an open store may end by: damage, where the image stands for none, by another rule than Head, which was looked at as the
-- store was opened. That it is a store was seen then, too.
abbrev pub IsStoreEnd : Bool → World → StoreFault → Type 0
IsStoreEnd readable old (stores.Damaged damage) = IsTrue readable → StandsForNone old.seen × (damage.rule ≢ Head)
IsStoreEnd readable old _ = ⊥

-- What may end a call over an engine: want of memory, a disk or a sink whose count rose, damage, or a limit.
abbrev pub IsEngineEnd : Bool → World → World → Ended → Type 0
IsEngineEnd readable old new Memory = Unit {0}
IsEngineEnd readable old new Disk = Rose old.faults new.faults
IsEngineEnd readable old new Sink = Rose old.sink_faults new.sink_faults
IsEngineEnd readable old new (Store fault) = IsStoreEnd readable old fault
IsEngineEnd readable old new (Limit fault) = Unit {0}
IsEngineEnd readable old new _ = ⊥

-- A call that doesn't end by the disk leaves the disk's count of faults as it was, and one that ends neither by the disk nor by the sink that
-- of the sink: behind a sink that failed the disk may fail, too, which is then told.
pub record KeepsCounts {T : Type 0} (old new : World) (result : Result T Ended) : Type 0 where
  pub disk : result ≢ Err Disk → new.faults ≡ old.faults
  pub sink : result ≢ Err Disk → result ≢ Err Sink → new.sink_faults ≡ old.sink_faults

-- Such an end has its cause, no count falls, and where one rose it ends so.
pub record HasEngineEnd {T : Type 0} (readable : Bool) (old new : World) (result : Result T Ended) : Type 0 where
  pub faults : old.faults ≤ new.faults
  pub sink : old.sink_faults ≤ new.sink_faults
  pub keeps : KeepsCounts old new result
  pub stands : IsTrue readable → OnOk result (StandsStill old new)
  pub cause : IfErr result (IsEngineEnd readable old new)

-- What may end a job: what ends a call over its engine, a source whose count rose, or the input.
abbrev pub IsJobEnd : Bool → ℕ → ℕ → World → World → Ended → Type 0
IsJobEnd readable source_old source_new old new Memory = Unit {0}
IsJobEnd readable source_old source_new old new Disk = Rose old.faults new.faults
IsJobEnd readable source_old source_new old new Source = Rose source_old source_new
IsJobEnd readable source_old source_new old new Sink = Rose old.sink_faults new.sink_faults
IsJobEnd readable source_old source_new old new (Input fault) = Unit {0}
IsJobEnd readable source_old source_new old new (Store fault) = IsStoreEnd readable old fault
IsJobEnd readable source_old source_new old new (Limit fault) = Unit {0}
IsJobEnd readable source_old source_new old new _ = ⊥

-- Each end has its cause, no count falls, and where one rose it ends so.
pub record HasJobEnd {T : Type 0} (readable : Bool) (source_old source_new : ℕ) (old new : World) (result : Result T Ended) : Type 0 where
  pub source : source_old ≤ source_new
  pub faults : old.faults ≤ new.faults
  pub sink : old.sink_faults ≤ new.sink_faults
  pub reads : result ≢ Err Disk → result ≢ Err Source → source_new ≡ source_old
  pub keeps : KeepsCounts old new result
  pub stands : IsTrue readable → OnOk result (StandsStill old new)
  pub cause : IfErr result (IsJobEnd readable source_old source_new old new)

-- The room is no more than the pages that page 0 of the image counts, and as many as so many updates in one commit are allowed to take. Nor is
-- it more with the free pages of the image added.
abbrev pub LacksRoomIn : ℕ → ℕ → Image → Type 0
LacksRoomIn updates room image =
    let held = contents_held image in
    LacksRoom updates room held.block.counted × LacksPages updates room held.pages held.block.counted held.block.first_free
