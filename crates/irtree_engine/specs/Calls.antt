-- Why a call that changes the pages by updates fails. `g` is what a bound `P: Pages` gives, in a clause `P.Pages`.
use Rattle.std.specs.Prelude.{Result, IsTrue, IsErrOf}
use Rattle.irtree_engine.specs.declared.fault.EngineFault.{EngineFault}
use Rattle.irtree_engine.specs.declared.fault.EngineFault.TheVariants.{Disk, NoRoom, Stopped}
use Rattle.page_face.specs.Causes.{Rose}
use Rattle.page_face.specs.declared.pages.Pages.{Ghosts}

-- of these causes: the disk failed in it, no page was left to take, or the pages were stopped before it
pub record FailsUpdating {P X : Type 0} (g : Ghosts P) (old new : P) (result : Result X EngineFault) : Type 0 where
  pub disk : IsErrOf result Disk → Rose (g.faults old) (g.faults new)
  pub full : IsErrOf result NoRoom → Rose (g.refused old) (g.refused new)
  pub stopped : IsErrOf result Stopped → IsTrue (g.is_stopped old)
