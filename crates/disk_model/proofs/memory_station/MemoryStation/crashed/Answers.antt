use Rattle.std.proofs.Common.{◌≡◌, refl, sym, subst}
use Rattle.std.proofs.lemmas.Result.{IfOk-weaker}
use Rattle.disk_model.specs.World.{Image}
use Rattle.disk_model.specs.Replay.{MayLeave}
use Rattle.disk_model.specs.Memory.{holds, state_of}
use Rattle.disk_model.specs.Crash.{left_by}
use Rattle.disk_model.specs.Stored.{first_state}
use Rattle.disk_model.proofs.Crashes.{leaves_torn}
use Rattle.disk_model.proofs.Results.{IfOk-map_err}
use Rattle.disk_model.proofs.memory_station.MemoryStation.crashed.Goals as goal

pub returns-clause-left : goal.returns-clause-left
returns-clause-left c = IfOk-map_err _ _ _ _ c.map_err.ensures.cases c.map_err.ensures.variant c.after_crash.ensures.left

pub returns-clause-may : goal.returns-clause-may
returns-clause-may c =
    let station = c.args.self.now in
    IfOk-weaker c.map_err.result (λ held. holds held ≡ left_by c.args.tear (state_of station)) _
    (λ held is. subst (λ (image : Image). MayLeave (state_of station) image) (sym is) (leaves_torn c.args.tear (first_state station.first) station.made.items refl))
    (returns-clause-left c)
