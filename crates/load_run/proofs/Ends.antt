-- How a make ends.
use Rattle.std.proofs.Common.{◌≡◌, ◌+◌, ℕ, Bool, refl, ap, ◌∙◌, arith, length}
use Rattle.std.specs.Prelude.{IsTrue, Err}
use Rattle.disk_model.specs.World.{World}
use Rattle.disk_model.proofs.Moments.{rested}
use Rattle.page_store.specs.Store.{Rests}
use Rattle.place_values.specs.State.{Contents}
use Rattle.irtree_engine.specs.Faults.{IsReadFault}
use Rattle.irtree_engine.specs.Holding.{HoldsState}
use Rattle.irtree_engine.specs.declared.fault.EngineFault.{EngineFault}
use Rattle.irtree_engine.specs.declared.fault.EngineFault.TheVariants as engine
use Rattle.run_outcome.proofs.Reading.{RefusedRead}
use Rattle.run_outcome.specs.Causes.{end_of_engine}
use Rattle.run_outcome.specs.declared.ended.Ended.{Ended}
use Rattle.run_outcome.specs.declared.ended.Ended.TheVariants as ends
use Rattle.run_outcome.specs.declared.ended.LimitFault.{LimitFault}
use Rattle.run_outcome.specs.declared.ended.LimitFault.TheVariants as limits
use Rattle.load_run.proofs.Fronts.{front-none}
use Rattle.load_run.specs.Loading.{Concludes, IsConcluded, IsLimitAt, Stage, text_to_say}
use Rattle.load_run.specs.Asking.{Counts, cost_in, found_in, queries_of}
use Rattle.load_run.specs.declared.found.Found.{Found}
use Rattle.load_run.specs.Making.{IsAskingEnd, ReachLimit, made_line, says_made}

-- ---- a query that is refused

-- it ends a make for want of memory or by the disk
pub refused-asking : (readable : Bool) (old new : World) (fault : EngineFault) → RefusedRead readable old new fault → IsTrue readable → (state : Contents) → HoldsState old state → IsAskingEnd (end_of_engine fault)
refused-asking readable old new engine.Disk refused told state holds = tt
refused-asking readable old new engine.Memory refused told state holds = tt
refused-asking readable old new engine.Stopped refused told state holds = tt
refused-asking readable old new (engine.Damaged damage) refused told state holds = absurd (refused.no_false_damage told state holds damage refl)
refused-asking readable old new engine.Full refused told state holds = absurd refused.causes
refused-asking readable old new engine.Worn refused told state holds = absurd refused.causes
refused-asking readable old new engine.NoRoom refused told state holds = absurd refused.causes
refused-asking readable old new engine.NotAStore refused told state holds = absurd refused.causes
refused-asking readable old new engine.Version1 refused told state holds = absurd refused.causes
refused-asking readable old new (engine.BadJournal at) refused told state holds = absurd refused.causes

-- and by no limit
pub refused-limit : (live number : ℕ) (fault : EngineFault) → IsReadFault fault → IsLimitAt live number (end_of_engine fault)
refused-limit live number engine.Disk reads = tt
refused-limit live number engine.Memory reads = tt
refused-limit live number engine.Stopped reads = tt
refused-limit live number (engine.Damaged damage) reads = tt
refused-limit live number _ reads = absurd reads

-- ---- the whole

-- nothing was said then
pub concludes-unasked : (T : Type 0) (at : Stage) (old new : World) (end : Ended) → Rests old new → IsAskingEnd end → Concludes {T = T} at old new (Err end)
concludes-unasked T at old new end rests is = record { left = rested rests.adds; ends = by_end end is }
  where
    by_end : (end : Ended) → IsAskingEnd end → IsConcluded {T = T} at old new (Err end)
    by_end ends.Memory is = front-none (text_to_say at) old.said new.said rests.said
    by_end ends.Disk is = front-none (text_to_say at) old.said new.said rests.said
    by_end _ is = absurd is

-- the last line, by what was counted
pub made-says : (seed count queries stored skipped : ℕ) (state : Contents) (found : Found) → queries ≡ queries_of count → Counts (found_in state seed queries) found
    → made_line count queries found.hits found.cost ≡ says_made seed count state stored skipped
unfolding says_made
made-says seed count queries stored skipped state found is counts =
    ap (λ h. made_line count queries h found.cost) counts.number ∙ ap (made_line count queries (length (found_in state seed queries))) counts.sum
    ∙ ap (λ q. made_line count q (length (found_in state seed q)) (cost_in (found_in state seed q))) is

-- a limit that the places reach
pub limit-of : (count live number : ℕ) (fault : LimitFault) → IsLimitAt (live + (0 + count)) (number + (0 + count)) (ends.Limit fault) → ReachLimit count fault live number
limit-of count live number limits.Full reaches = omega (arith, reaches)
limit-of count live number limits.Worn reaches = omega (arith, reaches)
limit-of count live number limits.NoRoom reaches = tt
