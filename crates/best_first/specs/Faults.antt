-- Which fault an opener holds after a call.
use Rattle.std.specs.Prelude.{Option, Some, Result, Ok, Err}
use Rattle.page_face.specs.declared.fault.PageFault.{PageFault}
use Rattle.page_face.specs.declared.fault.PageFault.TheVariants.{Disk, NoRoom, Stopped, Damaged, Memory}

-- the fault, but for want of memory
abbrev pub held_with : PageFault → Option PageFault → Option PageFault
held_with Disk held = Some Disk
held_with NoRoom held = Some NoRoom
held_with Stopped held = Some Stopped
held_with (Damaged damage) held = Some (Damaged damage)
held_with Memory held = held

-- the last one other than want of memory
abbrev pub held_after : {A : Type 0} → Result A PageFault → Option PageFault → Option PageFault
held_after (Ok a) held = held
held_after (Err fault) held = held_with fault held
