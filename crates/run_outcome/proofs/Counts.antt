-- Counts of faults that are as they were where a call doesn't end by them.
use Rattle.std.proofs.Common.{◌≡◌, ◌≢◌, ◌∙◌, refl, ap}
use Rattle.std.specs.Prelude.{Result, Ok, Err}
use Rattle.disk_model.specs.World.{World}
use Rattle.irtree_engine.specs.declared.fault.EngineFault.{EngineFault}
use Rattle.irtree_engine.specs.declared.fault.EngineFault.TheVariants as engine
use Rattle.run_outcome.specs.Causes.{KeepsCounts, end_of_engine}
use Rattle.run_outcome.specs.declared.ended.Ended.{Ended}
use Rattle.run_outcome.specs.declared.ended.Ended.TheVariants as ends

-- both are, however it ends
pub keeps-both : {T : Type 0} (old new : World) (result : Result T Ended) → new.faults ≡ old.faults → new.sink_faults ≡ old.sink_faults → KeepsCounts old new result
keeps-both old new result disk sink = record { disk = λ other. disk; sink = λ other said. sink }

-- as where no call was made
pub keeps-none : {T : Type 0} (now : World) (result : Result T Ended) → KeepsCounts now now result
keeps-none now result = keeps-both now now result refl refl

-- one call behind another that ended well
pub keeps-then : {A T : Type 0} (old now new : World) (value : A) (result : Result T Ended) → KeepsCounts old now (Ok value) → KeepsCounts now new result → KeepsCounts old new result
keeps-then old now new value result first next = record {
  disk = λ other. next.disk other ∙ first.disk (λ e. absurd (cc));
  sink = λ other said. next.sink other said ∙ first.sink (λ e. absurd (cc)) (λ e. absurd (cc));
}

-- and counts that then stayed
pub keeps-on : {T : Type 0} (old now new : World) (result : Result T Ended) → new.faults ≡ now.faults → new.sink_faults ≡ now.sink_faults → KeepsCounts old now result → KeepsCounts old new result
keeps-on old now new result faults sink_faults keeps = record { disk = λ other. faults ∙ keeps.disk other; sink = λ other said. sink_faults ∙ keeps.sink other said }

-- or that had stayed before
pub keeps-from : {T : Type 0} (old now new : World) (result : Result T Ended) → now.faults ≡ old.faults → now.sink_faults ≡ old.sink_faults → KeepsCounts now new result → KeepsCounts old new result
keeps-from old now new result faults sink_faults keeps = record { disk = λ other. keeps.disk other ∙ faults; sink = λ other said. keeps.sink other said ∙ sink_faults }

-- an end of a call that would have answered another kind of value
pub keeps-failed : (A B : Type 0) (old new : World) (end : Ended) → KeepsCounts {T = A} old new (Err end) → KeepsCounts {T = B} old new (Err end)
keeps-failed A B old new end keeps = record {
  disk = λ other. keeps.disk (λ e. let is : end ≡ ends.Disk = cc in other (ap Err is));
  sink = λ other said. keeps.sink (λ e. let is : end ≡ ends.Disk = cc in other (ap Err is)) (λ e. let is : end ≡ ends.Sink = cc in said (ap Err is));
}

-- or that ended well, with another value or end: both are
pub keeps-done : {A B : Type 0} (old new : World) (value : A) (result : Result B Ended) → KeepsCounts old new (Ok value) → KeepsCounts old new result
keeps-done old new value result keeps = keeps-both old new result (keeps.disk (λ e. absurd (cc))) (keeps.sink (λ e. absurd (cc)) (λ e. absurd (cc)))

-- a call of the engine that was refused: the sink wasn't asked
pub keeps-fault : (T : Type 0) (old new : World) (fault : EngineFault) → (fault ≢ engine.Disk → new.faults ≡ old.faults) → new.sink_faults ≡ old.sink_faults → KeepsCounts {T = T} old new (Err (end_of_engine fault))
keeps-fault T old new fault stays sink = record {
  disk = λ other. stays (λ is. other (ap (λ f. Err (end_of_engine f)) is));
  sink = λ other said. sink;
}
