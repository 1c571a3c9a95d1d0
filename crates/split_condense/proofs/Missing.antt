-- The damage that a refusal names.
use Rattle.std.proofs.Common.{◌≡◌, ap, sym, Err}
use Rattle.std.specs.Result.{IsErrOf}
use Rattle.page_face.specs.declared.fault.Damage.{Damage}
use Rattle.page_face.specs.declared.fault.PageFault.{PageFault}
use Rattle.page_face.specs.declared.fault.PageFault.TheVariants.{Damaged, Disk, NoRoom, Stopped, Memory}
use Rattle.btree_nodes.proofs.Walks.{same-fault}

damage_in : Damage → PageFault → Damage
damage_in other (Damaged damage) = damage
damage_in other Disk = other
damage_in other NoRoom = other
damage_in other Stopped = other
damage_in other Memory = other

pub named-same : {T : Type 0} (first second : Damage) → IsErrOf {T = T} {E = PageFault} (Err (Damaged first)) (Damaged second) → second ≡ first
unfolding damage_in
named-same {T = T} first second e = sym (ap (damage_in first) (same-fault {T = T} _ _ e))
