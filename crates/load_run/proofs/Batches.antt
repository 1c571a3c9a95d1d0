-- What the engine's answer to a batch means for a load.
use Rattle.std.proofs.Common.{◌≡◌, ◌≢◌, ◌≤◌, Bool, List, sym, subst, arith, refl}
use Rattle.std.specs.Prelude.{IsTrue, Result, Ok, Err}
use Rattle.disk_model.specs.World.{World, Image, Rose}
use Rattle.page_face.specs.declared.fault.Damage.{Damage}
use Rattle.page_face.specs.declared.fault.Rule.TheVariants.{Head}
use Rattle.page_store.specs.Store.{Rests}
use Rattle.place_values.specs.State.{Contents}
use Rattle.place_values.specs.declared.update.Update.{Update}
use Rattle.place_values.specs.declared.update.UpdateFault.{UpdateFault}
use Rattle.store_model.specs.Stands.{Stands}
use Rattle.irtree_engine.specs.Holding.{HoldsState}
use Rattle.irtree_engine.specs.Updates.{StandsForOutcome, IsUpdateFault, IsDueTo, state_after_all}
use Rattle.irtree_engine.specs.declared.fault.EngineFault.{EngineFault}
use Rattle.irtree_engine.specs.declared.fault.EngineFault.TheVariants as engine
use Rattle.run_outcome.specs.Causes.{IsEngineEnd, HasEngineEnd, end_of_engine}
use Rattle.run_outcome.proofs.Counts.{keeps-fault}
use Rattle.load_run.specs.Loading.{IsUnstored}

-- a call of the engine that was refused
abbrev pub failed : EngineFault → Result (Unit {0}) EngineFault
failed fault = Err fault

-- the state that came out, for which the image stands
pub outcome-holds : (result : Result Contents UpdateFault) (image : Image) → StandsForOutcome result image → (after : Contents) × (result ≡ Ok after) × Stands image after
outcome-holds (Ok after) image stands = (after, refl, stands)
outcome-holds (Err fault) image stands = absurd stands

-- why none was stored, and that the image still stands for the state
pub not-stored : (state : Contents) (updates : List Update) (old new : World) (fault : EngineFault) → IsUpdateFault fault → (failed fault ≢ failed engine.Stopped) → IsDueTo (state_after_all state updates) fault
    → (failed fault ≢ failed engine.Disk → Rests old new) → HoldsState old state → IsUnstored state updates new (end_of_engine fault)
not-stored state updates old new fault may on due rests holds = by_fault fault may on due rests
  where
    still : Rests old new → HoldsState new state
    still rested = subst (λ (i : Image). Stands i state) (sym rested.seen) holds

    by_fault : (fault : EngineFault) → IsUpdateFault fault → (failed fault ≢ failed engine.Stopped) → IsDueTo (state_after_all state updates) fault
        → (failed fault ≢ failed engine.Disk → Rests old new) → IsUnstored state updates new (end_of_engine fault)
    by_fault engine.Disk may on due rests = tt
    by_fault engine.Memory may on due rests = tt
    by_fault engine.Full may on due rests = (due, still (rests (λ e. absurd (cc))))
    by_fault engine.Worn may on due rests = (due, still (rests (λ e. absurd (cc))))
    by_fault engine.NoRoom may on due rests = still (rests (λ e. absurd (cc)))
    by_fault (engine.Damaged damage) may on due rests = absurd due
    by_fault engine.Stopped may on due rests = absurd (on refl)
    by_fault engine.NotAStore may on due rests = absurd may
    by_fault engine.Version1 may on due rests = absurd may
    by_fault (engine.BadJournal at) may on due rests = absurd may

-- and the cause of such an end
pub not-stored-cause : (readable : Bool) (updates : List Update) (old new : World) (fault : EngineFault) (T : Type 0) → IsUpdateFault fault → (failed fault ≢ failed engine.Stopped) → (failed fault ≡ failed engine.Disk → Rose old.faults new.faults)
    → (IsTrue readable → (state : Contents) → HoldsState old state → IsDueTo (state_after_all state updates) fault) → (IsTrue readable → (damage : Damage) → failed fault ≡ failed (engine.Damaged damage) → damage.rule ≢ Head) → (failed fault ≢ failed engine.Disk → new.faults ≡ old.faults) → old.faults ≤ new.faults → new.sink_faults ≡ old.sink_faults
    → HasEngineEnd {T = T} readable old new (Err (end_of_engine fault))
not-stored-cause readable updates old new fault T may on disk due no_head stays later sink = record { faults = later; sink = omega (arith, sink); keeps = keeps-fault T old new fault (λ apart. stays (λ e. apart (cc))) sink; stands = λ told. tt; cause = by_fault fault may on disk due no_head }
  where
    by_fault : (fault : EngineFault) → IsUpdateFault fault → (failed fault ≢ failed engine.Stopped) → (failed fault ≡ failed engine.Disk → Rose old.faults new.faults)
        → (IsTrue readable → (state : Contents) → HoldsState old state → IsDueTo (state_after_all state updates) fault) → (IsTrue readable → (damage : Damage) → failed fault ≡ failed (engine.Damaged damage) → damage.rule ≢ Head) → IsEngineEnd readable old new (end_of_engine fault)
    by_fault engine.Disk may on disk due no_head = disk refl
    by_fault engine.Memory may on disk due no_head = tt
    by_fault engine.Full may on disk due no_head = tt
    by_fault engine.Worn may on disk due no_head = tt
    by_fault engine.NoRoom may on disk due no_head = tt
    by_fault (engine.Damaged damage) may on disk due no_head = λ told. ((λ state holds. due told state holds), no_head told damage refl)
    by_fault engine.Stopped may on disk due no_head = absurd (on refl)
    by_fault engine.NotAStore may on disk due no_head = absurd may
    by_fault engine.Version1 may on disk due no_head = absurd may
    by_fault (engine.BadJournal at) may on disk due no_head = absurd may
