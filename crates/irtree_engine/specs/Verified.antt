-- What a check of a whole store finds, by the image.
use Rattle.disk_model.specs.World.{Image}
use Rattle.page_face.specs.declared.fault.Damage.{Damage}
use Rattle.place_values.specs.State.{Contents}
use Rattle.store_model.specs.Stands.{Stands}
use Rattle.store_verify.specs.Breaks.{IsBroken}
use Rattle.irtree_engine.specs.Queries.{contents_held}

-- the image stands for some state
abbrev pub HoldsSome : Image → Type 0
HoldsSome image = (state : Contents) × Stands image state

-- what is named is broken there, by page 0's fields and the pages counted that the image holds
abbrev pub IsBrokenIn : Image → Damage → Type 0
IsBrokenIn image damage = IsBroken (contents_held image).block (contents_held image).pages damage
