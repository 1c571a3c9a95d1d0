use Rattle.std.proofs.Common.{sym, ◌∙◌}
use Rattle.disk_model.proofs.memory_station.MemoryStation.holding.Goals as goal

pub over-requires : goal.over-requires
over-requires c = c.in_ok-areas.ensures ∙ sym c.in_ok-first.ensures

pub returns-clause-holds : goal.returns-clause-holds
returns-clause-holds c = c.over.ensures.holds ∙ c.in_ok-areas.ensures
