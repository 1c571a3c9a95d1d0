-- What a refusal of the pages is due to.
use Rattle.std.proofs.Common.{◌≡◌, Result, refl, sym, subst}
use Rattle.page_face.specs.declared.fault.Damage.{Damage}
use Rattle.page_face.specs.declared.fault.PageFault.{PageFault}
use Rattle.page_face.specs.declared.fault.PageFault.TheVariants as pages
use Rattle.place_values.specs.declared.update.UpdateFault.{UpdateFault}
use Rattle.irtree_engine.specs.declared.fault.EngineFault.{EngineFault}
use Rattle.irtree_engine.specs.Faults.{fault_of_pages}
use Rattle.irtree_engine.specs.Updates.{IsDueTo}

-- a refusal of the pages that is no damage is due to no update
pages-due : {T : Type 0} (outcome : Result T UpdateFault) (fault : PageFault) → ((damage : Damage) → fault ≡ pages.Damaged damage → ⊥) → IsDueTo outcome (fault_of_pages fault)
pages-due outcome pages.Disk no_false_damage = tt
pages-due outcome pages.NoRoom no_false_damage = tt
pages-due outcome pages.Stopped no_false_damage = tt
pages-due outcome (pages.Damaged damage) no_false_damage = no_false_damage damage refl
pages-due outcome pages.Memory no_false_damage = tt

-- and so is what the engine makes of it
pub passed-due : {T : Type 0} (outcome : Result T UpdateFault) (fault : PageFault) (engine : EngineFault) → engine ≡ fault_of_pages fault → ((damage : Damage) → fault ≡ pages.Damaged damage → ⊥) → IsDueTo outcome engine
passed-due outcome fault engine is no_false_damage = subst (IsDueTo outcome) (sym is) (pages-due outcome fault no_false_damage)
