-- Why a load ends, over several calls.
use Rattle.std.proofs.Common.{◌≡◌, ℕ, ◌≤◌, Bool, sym, subst, arith, refl}
use Rattle.std.specs.Prelude.{Result, Ok, Err}
use Rattle.disk_model.specs.World.{World, Image}
use Rattle.store_model.specs.Stands.{Stands}
use Rattle.run_outcome.specs.declared.ended.Ended.{Ended}
use Rattle.run_outcome.specs.declared.ended.Ended.TheVariants as ends
use Rattle.run_outcome.specs.declared.ended.StoreFault.TheVariants as stores
use Rattle.run_outcome.specs.Causes.{StandsStill, IsEngineEnd, HasEngineEnd, IsJobEnd, HasJobEnd}
use Rattle.run_outcome.proofs.Counts.{keeps-none, keeps-then}

-- where reads give the same, the image stands for what it stood for
pub still-same : (old new : World) → new.seen ≡ old.seen → StandsStill old new
still-same old new same state holds = (state, subst (λ (i : Image). Stands i state) (sym same) holds)

-- no call was made
pub engine-none : (readable : Bool) (now : World) (T : Type 0) (done : T) → HasEngineEnd readable now now (Ok done)
engine-none readable now T done = record { faults = omega arith; sink = omega arith; keeps = keeps-none now (Ok done); stands = λ told. still-same now now refl; cause = tt }

-- memory was wanted before a call was made
pub engine-lacks : (readable : Bool) (now : World) (T : Type 0) → HasEngineEnd {T = T} readable now now (Err ends.Memory)
engine-lacks readable now T = record { faults = omega arith; sink = omega arith; keeps = keeps-none now (Err ends.Memory); stands = λ told. tt; cause = tt }

module _ {readable : Bool} {u v : World} {T : Type 0} {done : T} (first : HasEngineEnd readable u v (Ok done)) where
  -- an end behind them
  end-then : (w : World) (end : Ended) → v.faults ≤ w.faults → v.sink_faults ≤ w.sink_faults → IsEngineEnd readable v w end → IsEngineEnd readable u w end
  end-then w ends.Memory faults sink cause = tt
  end-then w ends.Disk faults sink cause = omega (arith, cause, first.faults)
  end-then w ends.Sink faults sink cause = omega (arith, cause, first.sink)
  end-then w (ends.Store (stores.Damaged damage)) faults sink cause = λ told. ((λ state holds. let mid = first.stands told state holds in (cause told).0 mid.0 mid.1), (cause told).1)
  end-then w (ends.Limit fault) faults sink cause = tt
  end-then w _ faults sink cause = absurd cause

  -- a call behind others that ended well
  pub engine-then : {U : Type 0} {w : World} (result : Result U Ended) → HasEngineEnd readable v w result → HasEngineEnd readable u w result
  engine-then {w = w} (Ok more) next = record {
    faults = omega (arith, first.faults, next.faults);
    sink = omega (arith, first.sink, next.sink);
    keeps = keeps-then u v w done (Ok more) first.keeps next.keeps;
    stands = λ told state holds. let mid = first.stands told state holds in next.stands told mid.0 mid.1;
    cause = tt;
  }
  engine-then {w = w} (Err end) next = record {
    faults = omega (arith, first.faults, next.faults);
    sink = omega (arith, first.sink, next.sink);
    keeps = keeps-then u v w done (Err end) first.keeps next.keeps;
    stands = λ told. tt;
    cause = end-then w end next.faults next.sink next.cause;
  }

-- a call over an engine in a job, behind the reading of its source
pub job-of-engine : (readable : Bool) (source_old source_new : ℕ) (old new : World) {T : Type 0} (result : Result T Ended) → source_new ≡ source_old → HasEngineEnd readable old new result → HasJobEnd readable source_old source_new old new result
job-of-engine readable source_old source_new old new (Ok done) same ended = record { source = omega (arith, same); faults = ended.faults; sink = ended.sink; reads = λ other read. same; keeps = ended.keeps; stands = ended.stands; cause = tt }
job-of-engine readable source_old source_new old new (Err end) same ended = record { source = omega (arith, same); faults = ended.faults; sink = ended.sink; reads = λ other read. same; keeps = ended.keeps; stands = λ told. tt; cause = by_end end ended.cause }
  where
    by_end : (end : Ended) → IsEngineEnd readable old new end → IsJobEnd readable source_old source_new old new end
    by_end ends.Memory cause = tt
    by_end ends.Disk cause = cause
    by_end ends.Sink cause = cause
    by_end (ends.Store fault) cause = cause
    by_end (ends.Limit fault) cause = tt
    by_end _ cause = absurd cause
