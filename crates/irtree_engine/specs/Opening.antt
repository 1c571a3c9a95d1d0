-- What a refused opening leaves.
use Rattle.disk_model.specs.World.{World, WritesNothing}
use Rattle.page_journal.specs.Record.{StandsFor, IsReady, applied}
use Rattle.irtree_engine.specs.declared.fault.EngineFault.{EngineFault}
use Rattle.irtree_engine.specs.declared.fault.EngineFault.TheVariants.{NotAStore, BadJournal, Damaged, Version1}

-- The journal is recovered: nothing is pending, the journal is at its beginning, and the disk holds the pages that it held before.
pub record IsRecovered (old new : World) : Type 0 where
  pub ready : IsReady 0 new
  pub stands : StandsFor old.seen (applied new.seen)

-- A journal that holds no record is left alone, and an image that is no store is recovered.
abbrev pub LeavesRefused : EngineFault → World → World → Type 0
LeavesRefused (BadJournal at) old new = WritesNothing old new
LeavesRefused NotAStore old new = IsRecovered old new
LeavesRefused (Damaged damage) old new = IsRecovered old new
LeavesRefused Version1 old new = IsRecovered old new
LeavesRefused _ old new = Unit {0}
