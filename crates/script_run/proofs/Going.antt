-- An engine that goes on behind an update that was refused.
use Rattle.std.proofs.Common.{◌≡◌, ◌≢◌, Bool, false}
use Rattle.irtree_engine.specs.declared.fault.EngineFault.{EngineFault}
use Rattle.irtree_engine.specs.declared.fault.EngineFault.TheVariants as engine
use Rattle.run_outcome.specs.Causes.{GoesOn}
use Rattle.run_outcome.proofs.Going.{goes-on}
use Rattle.script_run.specs.Lines.{refused_by}

-- it does where it wasn't refused for the disk
pub refused-goes_on : (stopped : Bool) (fault : EngineFault) → (fault ≢ engine.Disk → stopped ≡ false) → GoesOn stopped (refused_by fault)
refused-goes_on stopped engine.Full on = on (λ e. absurd (cc))
refused-goes_on stopped engine.Worn on = on (λ e. absurd (cc))
refused-goes_on stopped engine.Disk on = goes-on stopped engine.Disk on
refused-goes_on stopped engine.NotAStore on = goes-on stopped engine.NotAStore on
refused-goes_on stopped engine.Version1 on = goes-on stopped engine.Version1 on
refused-goes_on stopped (engine.BadJournal at) on = goes-on stopped (engine.BadJournal at) on
refused-goes_on stopped (engine.Damaged damage) on = goes-on stopped (engine.Damaged damage) on
refused-goes_on stopped engine.NoRoom on = goes-on stopped engine.NoRoom on
refused-goes_on stopped engine.Stopped on = goes-on stopped engine.Stopped on
refused-goes_on stopped engine.Memory on = goes-on stopped engine.Memory on
