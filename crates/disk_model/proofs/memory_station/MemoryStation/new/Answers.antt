use Rattle.std.proofs.Common.{sym, ◌∙◌}
use Rattle.disk_model.proofs.memory_station.MemoryStation.new.Goals as goal

pub over-requires : goal.over-requires
over-requires c = c.empty-2.ensures ∙ sym c.empty.ensures

pub returns-clause-holds : goal.returns-clause-holds
returns-clause-holds c = c.over.ensures.holds ∙ c.empty-2.ensures
