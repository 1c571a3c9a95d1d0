-- The faults of the layers below, as the engine names them.
use Rattle.page_face.specs.declared.fault.PageFault.{PageFault}
use Rattle.page_face.specs.declared.fault.PageFault.TheVariants as pages
use Rattle.irtree_engine.specs.declared.fault.EngineFault.{EngineFault}
use Rattle.irtree_engine.specs.declared.fault.EngineFault.TheVariants.{Disk, NotAStore, BadJournal, Damaged, NoRoom, Stopped, Version1, Memory}

-- a refusal of the pages
abbrev pub fault_of_pages : PageFault → EngineFault
fault_of_pages pages.Disk = Disk
fault_of_pages pages.NoRoom = NoRoom
fault_of_pages pages.Stopped = Stopped
fault_of_pages (pages.Damaged damage) = Damaged damage
fault_of_pages pages.Memory = Memory

-- what an opening may be refused for
abbrev pub IsOpenFault : EngineFault → Type 0
IsOpenFault Disk = Unit {0}
IsOpenFault NotAStore = Unit {0}
IsOpenFault (BadJournal at) = Unit {0}
IsOpenFault (Damaged damage) = Unit {0}
IsOpenFault Version1 = Unit {0}
IsOpenFault _ = ⊥

-- what a call that only reads may be refused for
abbrev pub IsReadFault : EngineFault → Type 0
IsReadFault Disk = Unit {0}
IsReadFault (Damaged damage) = Unit {0}
IsReadFault Stopped = Unit {0}
IsReadFault Memory = Unit {0}
IsReadFault _ = ⊥

-- what settling may be refused for
abbrev pub IsSettleFault : EngineFault → Type 0
IsSettleFault Disk = Unit {0}
IsSettleFault Stopped = Unit {0}
IsSettleFault _ = ⊥
