-- An engine that goes on behind a call that was refused.
use Rattle.std.proofs.Common.{◌≡◌, ◌≢◌, Bool, false}
use Rattle.std.specs.Prelude.{Result, Ok, Err}
use Rattle.irtree_engine.specs.declared.fault.EngineFault.{EngineFault}
use Rattle.irtree_engine.specs.declared.fault.EngineFault.TheVariants as engine
use Rattle.run_outcome.specs.Causes.{GoesOn, GoesOnBehind, end_of_engine}
use Rattle.run_outcome.specs.declared.ended.Ended.{Ended}
use Rattle.run_outcome.specs.declared.ended.Ended.TheVariants as ends

-- one that isn't stopped goes on behind any end
pub on-behind : (stopped : Bool) (end : Ended) → stopped ≡ false → GoesOnBehind stopped end
on-behind stopped ends.Disk on = tt
on-behind stopped ends.Done on = on
on-behind stopped ends.Memory on = on
on-behind stopped ends.Words on = on
on-behind stopped ends.Source on = on
on-behind stopped ends.Sink on = on
on-behind stopped (ends.Input fault) on = on
on-behind stopped (ends.Store fault) on = on
on-behind stopped (ends.Limit fault) on = on

-- and behind any call
pub on-still : {T : Type 0} (stopped : Bool) (result : Result T Ended) → stopped ≡ false → GoesOn stopped result
on-still stopped (Ok value) on = on
on-still stopped (Err end) on = on-behind stopped end on

-- and one that only the disk stops behind each end that isn't the disk's
pub goes-on : (stopped : Bool) (fault : EngineFault) → (fault ≢ engine.Disk → stopped ≡ false) → GoesOnBehind stopped (end_of_engine fault)
goes-on stopped engine.Disk on = tt
goes-on stopped engine.NotAStore on = on (λ e. absurd (cc))
goes-on stopped engine.Version1 on = on (λ e. absurd (cc))
goes-on stopped (engine.BadJournal at) on = on (λ e. absurd (cc))
goes-on stopped (engine.Damaged damage) on = on (λ e. absurd (cc))
goes-on stopped engine.Full on = on (λ e. absurd (cc))
goes-on stopped engine.Worn on = on (λ e. absurd (cc))
goes-on stopped engine.NoRoom on = on (λ e. absurd (cc))
goes-on stopped engine.Stopped on = tt
goes-on stopped engine.Memory on = on (λ e. absurd (cc))
