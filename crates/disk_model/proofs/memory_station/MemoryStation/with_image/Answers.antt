use Rattle.disk_model.proofs.Results.{IfOk-map_err}
use Rattle.disk_model.proofs.memory_station.MemoryStation.with_image.Goals as goal

pub returns-clause-holds : goal.returns-clause-holds
returns-clause-holds c = IfOk-map_err _ _ _ _ c.map_err.ensures.cases c.map_err.ensures.variant c.holding.ensures.holds
