-- That no end of a change hides a fault of the disk.
use Rattle.std.proofs.Common.{◌≡◌, ◌∙◌, ap, Result, Err}
use Rattle.std.specs.Prelude.{◌≢◌}
use Rattle.page_face.specs.declared.fault.PageFault.{PageFault}
use Rattle.page_face.specs.declared.fault.PageFault.TheVariants as pages
use Rattle.irtree_engine.specs.declared.fault.EngineFault.{EngineFault}
use Rattle.irtree_engine.specs.declared.fault.EngineFault.TheVariants.{Disk}
use Rattle.irtree_engine.specs.Faults.{fault_of_pages}

-- what the engine doesn't name Disk the pages didn't
pub other-fault : {T : Type 0} (fault : PageFault) (named : EngineFault) (result : Result T EngineFault) → named ≡ fault_of_pages fault → result ≡ Err named → result ≢ Err Disk → fault ≢ pages.Disk
other-fault fault named result is was other e = other (was ∙ ap Err (is ∙ ap fault_of_pages e))
