-- What a call of the engine that only reads means for a run.
use Rattle.std.proofs.Common.{◌≡◌, ◌≢◌, ◌≤◌, Bool, refl, sym, subst, arith}
use Rattle.std.specs.Prelude.{Ok, Err, IsTrue}
use Rattle.disk_model.specs.World.{World, Image, Rose}
use Rattle.page_face.specs.declared.fault.Damage.{Damage}
use Rattle.page_face.specs.declared.fault.Rule.TheVariants.{Head}
use Rattle.page_store.specs.Store.{Rests}
use Rattle.place_values.specs.State.{Contents}
use Rattle.store_model.specs.Stands.{Stands}
use Rattle.irtree_engine.specs.Damages.{IsImageDamage}
use Rattle.irtree_engine.specs.declared.fault.EngineFault.{EngineFault}
use Rattle.irtree_engine.specs.declared.fault.EngineFault.TheVariants as engine
use Rattle.irtree_engine.specs.Faults.{IsReadFault}
use Rattle.irtree_engine.specs.Holding.{HoldsState}
use Rattle.run_outcome.specs.Causes.{HasEngineEnd, end_of_engine}
use Rattle.run_outcome.specs.Reading.{IsMetIn}
use Rattle.run_outcome.specs.declared.ended.Ended.TheVariants as ends
use Rattle.run_outcome.specs.declared.ended.LimitFault.TheVariants as limits
use Rattle.run_outcome.proofs.Counts.{keeps-both, keeps-fault}

-- an image that is as it was stands for the same state
pub holds-same : (old new : World) (state : Contents) → new.seen ≡ old.seen → HoldsState old state → HoldsState new state
holds-same old new state same holds = subst (λ (image : Image). Stands image state) (sym same) holds

-- a run that only read goes on
pub read-goes_on : {T : Type 0} (readable : Bool) (old new : World) (value : T) → (IsTrue readable → Rests old new) → new.faults ≡ old.faults → new.sink_faults ≡ old.sink_faults → HasEngineEnd readable old new (Ok value)
read-goes_on readable old new value rests faults sink = record {
  faults = omega (arith, faults);
  sink = omega (arith, sink);
  keeps = keeps-both old new (Ok value) faults sink;
  stands = λ told state holds. (state, holds-same old new state (rests told).seen holds);
  cause = tt;
}

-- damage that a call of the engine meets in the image ends a run so
pub met-engine : (image : Image) (fault : EngineFault) → ((damage : Damage) → fault ≡ engine.Damaged damage → IsImageDamage image damage) → IsMetIn image (end_of_engine fault)
met-engine image engine.Disk meets = tt
met-engine image (engine.Damaged damage) meets = meets damage refl
met-engine image engine.Stopped meets = tt
met-engine image engine.Memory meets = tt
met-engine image engine.Full meets = tt
met-engine image engine.Worn meets = tt
met-engine image engine.NoRoom meets = tt
met-engine image engine.NotAStore meets = tt
met-engine image engine.Version1 meets = tt
met-engine image (engine.BadJournal at) meets = tt

-- what is known of a read that was refused
pub record RefusedRead (readable : Bool) (old new : World) (fault : EngineFault) : Type 0 where
  pub causes : IsReadFault fault
  pub faults : old.faults ≤ new.faults
  pub sink : new.sink_faults ≡ old.sink_faults
  pub on : fault ≡ engine.Stopped → ⊥
  pub disk : fault ≡ engine.Disk → Rose old.faults new.faults
  pub stays : fault ≢ engine.Disk → new.faults ≡ old.faults
  pub no_false_damage : IsTrue readable → (state : Contents) → HoldsState old state → (damage : Damage) → fault ≡ engine.Damaged damage → ⊥
  pub no_head : IsTrue readable → (damage : Damage) → fault ≡ engine.Damaged damage → damage.rule ≢ Head
  pub rests : IsTrue readable → Rests old new

-- where it ends a run, the end has its cause
pub refused-read-cause : (readable : Bool) (old new : World) (T : Type 0) (fault : EngineFault) → RefusedRead readable old new fault → HasEngineEnd {T = T} readable old new (Err (end_of_engine fault))
refused-read-cause readable old new T engine.Disk refused = record { faults = refused.faults; sink = omega (arith, refused.sink); keeps = keeps-fault T old new engine.Disk refused.stays refused.sink; stands = λ told. tt; cause = refused.disk refl }
refused-read-cause readable old new T (engine.Damaged damage) refused =
    record { faults = refused.faults; sink = omega (arith, refused.sink); keeps = keeps-fault T old new (engine.Damaged damage) refused.stays refused.sink; stands = λ told. tt; cause = λ told. ((λ state stands. refused.no_false_damage told state stands damage refl), refused.no_head told damage refl) }
refused-read-cause readable old new T engine.Stopped refused = absurd (refused.on refl)
refused-read-cause readable old new T engine.Memory refused = record { faults = refused.faults; sink = omega (arith, refused.sink); keeps = keeps-fault T old new engine.Memory refused.stays refused.sink; stands = λ told. tt; cause = tt }
refused-read-cause readable old new T engine.Full refused = absurd refused.causes
refused-read-cause readable old new T engine.Worn refused = absurd refused.causes
refused-read-cause readable old new T engine.NoRoom refused = absurd refused.causes
refused-read-cause readable old new T engine.NotAStore refused = absurd refused.causes
refused-read-cause readable old new T engine.Version1 refused = absurd refused.causes
refused-read-cause readable old new T (engine.BadJournal at) refused = absurd refused.causes

-- a call that only reads is refused for no want of room
pub refused-room : (fault : EngineFault) → IsReadFault fault → end_of_engine fault ≡ ends.Limit limits.NoRoom → ⊥
refused-room engine.Disk reads is = absurd (cc)
refused-room engine.Memory reads is = absurd (cc)
refused-room engine.Stopped reads is = absurd (cc)
refused-room (engine.Damaged damage) reads is = absurd (cc)
refused-room engine.NoRoom reads is = absurd reads
refused-room engine.Full reads is = absurd reads
refused-room engine.Worn reads is = absurd reads
refused-room engine.NotAStore reads is = absurd reads
refused-room engine.Version1 reads is = absurd reads
refused-room (engine.BadJournal at) reads is = absurd reads
