-- Why a run over lines ends.
use Rattle.std.proofs.Common.{◌≡◌, ℕ, ◌≤◌, ◌∙◌, Bool, ap, arith, refl, subst, sym}
use Rattle.std.specs.Prelude.{Result, Ok, Err, IfErr, IsTrue}
use Rattle.disk_model.specs.World.{World}
use Rattle.irtree_engine.specs.Holding.{StandsForNone}
use Rattle.run_outcome.specs.Causes.{StandsStill, IsStoreEnd, IsEngineEnd, HasEngineEnd, IsJobEnd, HasJobEnd}
use Rattle.run_outcome.specs.declared.ended.Ended.{Ended}
use Rattle.run_outcome.specs.declared.ended.InputFault.{InputFault}
use Rattle.run_outcome.specs.declared.ended.Ended.TheVariants as ends
use Rattle.run_outcome.specs.declared.ended.StoreFault.{StoreFault}
use Rattle.run_outcome.specs.declared.ended.StoreFault.TheVariants as stores
use Rattle.run_outcome.proofs.Counts.{keeps-done, keeps-failed, keeps-none, keeps-then}

-- a state that the image stood for at first, it stands for still after one call and another
pub stands-then : (old now new : World) → StandsStill old now → StandsStill now new → StandsStill old new
stands-then old now new first next = λ state holds. let here = first state holds in next here.0 here.1

-- and an image that stands for none now stood for none at first
none-then : (old now : World) → StandsStill old now → StandsForNone now.seen → StandsForNone old.seen
none-then old now first none = λ state holds. let here = first state holds in none here.0 here.1

-- so damage that was met later was met in it
damage-then : (readable : Bool) (old now : World) (fault : StoreFault) → (IsTrue readable → StandsStill old now) → IsStoreEnd readable now fault → IsStoreEnd readable old fault
damage-then readable old now (stores.Damaged damage) stands cause = λ told. (none-then old now (stands told) (cause told).0, (cause told).1)
damage-then readable old now _ stands cause = absurd cause

-- ---- over an engine

-- nothing was done
pub engine-still : {T : Type 0} (readable : Bool) (now : World) (value : T) → HasEngineEnd readable now now (Ok value)
engine-still readable now value = record { faults = omega arith; sink = omega arith; keeps = keeps-none now (Ok value); stands = λ told state holds. (state, holds); cause = tt }

-- an end that comes later
engine-later : (readable : Bool) (old now new : World) (end : Ended) → old.faults ≤ now.faults → old.sink_faults ≤ now.sink_faults → (IsTrue readable → StandsStill old now) → IsEngineEnd readable now new end → IsEngineEnd readable old new end
engine-later readable old now new ends.Memory faults sink stands cause = tt
engine-later readable old now new ends.Disk faults sink stands cause = omega (arith, cause, faults)
engine-later readable old now new ends.Sink faults sink stands cause = omega (arith, cause, sink)
engine-later readable old now new (ends.Store fault) faults sink stands cause = damage-then readable old now fault stands cause
engine-later readable old now new (ends.Limit fault) faults sink stands cause = tt
engine-later readable old now new _ faults sink stands cause = absurd cause

module _ {A : Type 0} (readable : Bool) (old now new : World) (value : A) (first : HasEngineEnd readable old now (Ok value)) where
  -- one call behind another
  pub engine-then : {T : Type 0} (result : Result T Ended) → HasEngineEnd readable now new result → HasEngineEnd readable old new result
  engine-then (Ok other) next = record {
    faults = omega (arith, first.faults, next.faults);
    sink = omega (arith, first.sink, next.sink);
    keeps = keeps-then old now new value (Ok other) first.keeps next.keeps;
    stands = λ told. stands-then old now new (first.stands told) (next.stands told);
    cause = tt;
  }
  engine-then (Err end) next = record {
    faults = omega (arith, first.faults, next.faults);
    sink = omega (arith, first.sink, next.sink);
    keeps = keeps-then old now new value (Err end) first.keeps next.keeps;
    stands = λ told. tt;
    cause = engine-later readable old now new end first.faults first.sink first.stands next.cause;
  }

-- behind one call memory may be wanting
pub engine-ends : (readable : Bool) (old now : World) (value : Unit {0}) (result : Result (Unit {0}) Ended) → HasEngineEnd readable old now (Ok value) → IfErr result (λ end. end ≡ ends.Memory) → HasEngineEnd readable old now result
engine-ends readable old now value (Ok other) first lost = first
engine-ends readable old now value (Err end) first lost =
    record { faults = first.faults; sink = first.sink; keeps = keeps-done old now value (Err end) first.keeps; stands = λ told. tt; cause = subst (λ (e : Ended). IsEngineEnd readable old now e) (sym lost) tt }

-- ---- a job

-- nothing was read or done
pub job-still : {T : Type 0} (readable : Bool) (source : ℕ) (now : World) (value : T) → HasJobEnd readable source source now now (Ok value)
job-still readable source now value =
    record { source = omega arith; faults = omega arith; sink = omega arith; reads = λ other read. refl; keeps = keeps-none now (Ok value); stands = λ told state holds. (state, holds); cause = tt }

-- what ends a call over the engine ends the job so
job-of-engine : (readable : Bool) (source_old source_new : ℕ) (old new : World) (end : Ended) → IsEngineEnd readable old new end → IsJobEnd readable source_old source_new old new end
job-of-engine readable source_old source_new old new ends.Memory cause = tt
job-of-engine readable source_old source_new old new ends.Disk cause = cause
job-of-engine readable source_old source_new old new ends.Sink cause = cause
job-of-engine readable source_old source_new old new (ends.Store fault) cause = cause
job-of-engine readable source_old source_new old new (ends.Limit fault) cause = tt
job-of-engine readable source_old source_new old new _ cause = absurd cause

-- a job of one call over the engine, with reads of the source
pub job-by-engine : {T : Type 0} (readable : Bool) (source_old source_new : ℕ) (old new : World) (result : Result T Ended) → source_new ≡ source_old → HasEngineEnd readable old new result → HasJobEnd readable source_old source_new old new result
job-by-engine readable source_old source_new old new (Ok value) source call =
    record { source = omega (arith, source); faults = call.faults; sink = call.sink; reads = λ other read. source; keeps = call.keeps; stands = call.stands; cause = tt }
job-by-engine readable source_old source_new old new (Err end) source call =
    record { source = omega (arith, source); faults = call.faults; sink = call.sink; reads = λ other read. source; keeps = call.keeps; stands = λ told. tt; cause = job-of-engine readable source_old source_new old new end call.cause }

-- a job that fails where a call over the engine does
pub job-by-failure : (A B : Type 0) (readable : Bool) (source : ℕ) (old new : World) (end : Ended) → HasEngineEnd {T = A} readable old new (Err end) → HasJobEnd {T = B} readable source source old new (Err end)
job-by-failure A B readable source old new end call =
    record { source = omega arith; faults = call.faults; sink = call.sink; reads = λ other read. refl; keeps = keeps-failed A B old new end call.keeps; stands = λ told. tt; cause = job-of-engine readable source source old new end call.cause }

-- one whose input is refused behind a call
pub job-by-input : {A : Type 0} (B : Type 0) (readable : Bool) (source : ℕ) (old new : World) (value : A) (fault : InputFault) → HasEngineEnd readable old new (Ok value) → HasJobEnd {T = B} readable source source old new (Err (ends.Input fault))
job-by-input B readable source old new value fault call = record { source = omega arith; faults = call.faults; sink = call.sink; reads = λ other read. refl; keeps = keeps-done old new value (Err (ends.Input fault)) call.keeps; stands = λ told. tt; cause = tt }

-- and one that goes on with another value
pub job-by-value : {A B : Type 0} (readable : Bool) (source : ℕ) (old new : World) (value : A) (other : B) → HasEngineEnd readable old new (Ok value) → HasJobEnd readable source source old new (Ok other)
job-by-value readable source old new value other call = record { source = omega arith; faults = call.faults; sink = call.sink; reads = λ other read. refl; keeps = keeps-done old new value (Ok other) call.keeps; stands = call.stands; cause = tt }

-- a piece, which reads no source, is acted on behind some reads
piece-later : (readable : Bool) (source_old source_new : ℕ) (old now new : World) (end : Ended) → old.faults ≤ now.faults → old.sink_faults ≤ now.sink_faults → (IsTrue readable → StandsStill old now) → IsJobEnd readable 0 0 now new end → IsJobEnd readable source_old source_new old new end
piece-later readable source_old source_new old now new ends.Memory faults sink stands cause = tt
piece-later readable source_old source_new old now new ends.Disk faults sink stands cause = omega (arith, cause, faults)
piece-later readable source_old source_new old now new ends.Sink faults sink stands cause = omega (arith, cause, sink)
piece-later readable source_old source_new old now new (ends.Store fault) faults sink stands cause = damage-then readable old now fault stands cause
piece-later readable source_old source_new old now new (ends.Limit fault) faults sink stands cause = tt
piece-later readable source_old source_new old now new (ends.Input fault) faults sink stands cause = tt
piece-later readable source_old source_new old now new ends.Source faults sink stands cause = absurd (omega (arith, cause))
piece-later readable source_old source_new old now new _ faults sink stands cause = absurd cause

module _ {A : Type 0} (readable : Bool) (source_old source_now source_new : ℕ) (old now new : World) (value : A) (first : HasJobEnd readable source_old source_now old now (Ok value)) (source : source_new ≡ source_now) where
  -- a piece that was read is acted on
  pub job-then : {T : Type 0} (result : Result T Ended) → HasJobEnd readable 0 0 now new result → HasJobEnd readable source_old source_new old new result
  job-then (Ok other) next = record {
    source = omega (arith, first.source, source);
    faults = omega (arith, first.faults, next.faults);
    sink = omega (arith, first.sink, next.sink);
    reads = λ other read. source ∙ first.reads (λ e. absurd (cc)) (λ e. absurd (cc));
    keeps = keeps-then old now new value (Ok other) first.keeps next.keeps;
    stands = λ told. stands-then old now new (first.stands told) (next.stands told);
    cause = tt;
  }
  job-then (Err end) next = record {
    source = omega (arith, first.source, source);
    faults = omega (arith, first.faults, next.faults);
    sink = omega (arith, first.sink, next.sink);
    reads = λ other read. source ∙ first.reads (λ e. absurd (cc)) (λ e. absurd (cc));
    keeps = keeps-then old now new value (Err end) first.keeps next.keeps;
    stands = λ told. tt;
    cause = piece-later readable source_old source_new old now new end first.faults first.sink first.stands next.cause;
  }

-- another kind of value would have been answered
pub job-failed : (A B : Type 0) (readable : Bool) (source_old source_new : ℕ) (old new : World) (end : Ended) → HasJobEnd {T = A} readable source_old source_new old new (Err end) → HasJobEnd {T = B} readable source_old source_new old new (Err end)
job-failed A B readable source_old source_new old new end job = record {
  source = job.source;
  faults = job.faults;
  sink = job.sink;
  reads = λ other read. job.reads (λ e. let is : end ≡ ends.Disk = cc in other (ap Err is)) (λ e. let is : end ≡ ends.Source = cc in read (ap Err is));
  keeps = keeps-failed A B old new end job.keeps;
  stands = λ told. tt;
  cause = job.cause;
}

-- another value is answered
pub job-valued : {A B : Type 0} (readable : Bool) (source_old source_new : ℕ) (old new : World) (value : A) (other : B) → HasJobEnd readable source_old source_new old new (Ok value) → HasJobEnd readable source_old source_new old new (Ok other)
job-valued readable source_old source_new old new value other job = record { source = job.source; faults = job.faults; sink = job.sink; reads = λ same read. job.reads (λ e. absurd (cc)) (λ e. absurd (cc)); keeps = keeps-done old new value (Ok other) job.keeps; stands = job.stands; cause = tt }
