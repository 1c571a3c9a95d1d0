-- What carrying a store of version 1 over to version 2 leaves, and why it is refused.
use Rattle.std.specs.Prelude.{◌≡◌, ◌≢◌, ◌⊎◌, ℕ, ◌*◌, List, Option, Some, None}
use Rattle.disk_model.specs.World.{World, Image, WritesNothing}
use Rattle.page_face.specs.declared.fault.Damage.{Damage}
use Rattle.page_face.specs.declared.fault.Rule.TheVariants.{Head}
use Rattle.page_journal.specs.Record.{IsReady, StandsFor, applied}
use Rattle.page_store.specs.Contents.{page_bytes}
use Rattle.page_store.specs.Opening.{head_damage}
use Rattle.page_store.specs.declared.opening.OpenFault.{OpenFault}
use Rattle.page_store.specs.declared.opening.OpenFault.TheVariants as opens
use Rattle.page_store.specs.Superblock.{HasMagicOfVersion1, KeepsHeadOfVersion1}
use Rattle.place_values.specs.State.{Contents}
use Rattle.store_model.specs.Stands.{Stands}
use Rattle.table_updates.specs.Version1.{StandsVersion1}
use Rattle.irtree_engine.specs.declared.fault.EngineFault.{EngineFault}
use Rattle.irtree_engine.specs.declared.fault.EngineFault.TheVariants.{Disk, NotAStore, BadJournal, Damaged, NoRoom, Version1, Memory}
use Rattle.irtree_engine.specs.Holding.{HasBrokenHead, IsOpenable}
use Rattle.irtree_engine.specs.Opening.{IsRecovered}
use Rattle.irtree_engine.specs.Queries.{contents_held}
use Rattle.irtree_engine.specs.Updates.{IsRoomAtMost, ArePagesAtMost}

-- the image stands for the state by version 1 or by version 2
abbrev pub StandsEither : Contents → Image → Type 0
StandsEither state image = StandsVersion1 image state ⊎ Stands image state

-- it does, and nothing was said
abbrev pub LeavesEither : Contents → World → Image → List ℕ → Type 0
LeavesEither state old image said = StandsEither state image × (said ≡ old.said)

-- the image stands for no state by either version
abbrev pub StandsForNeither : Image → Type 0
StandsForNeither image = (state : Contents) → StandsEither state image → ⊥

-- The image is opened by version 1: it stands for pages whose page 0 begins with the magic of version 1 and keeps the rule Head.
pub record IsOpenableVersion1 (image : Image) : Type 0 where
  pub area : ℕ → ℕ
  pub stands : StandsFor image area
  pub magic : HasMagicOfVersion1 (page_bytes area 0)
  pub keeps : KeepsHeadOfVersion1 (page_bytes area 0)

-- The image stands for pages whose page 0 begins with the magic of version 1 and breaks the rule Head.
pub record HasBrokenHeadVersion1 (image : Image) : Type 0 where
  pub area : ℕ → ℕ
  pub stands : StandsFor image area
  pub magic : HasMagicOfVersion1 (page_bytes area 0)
  pub broken : KeepsHeadOfVersion1 (page_bytes area 0) → ⊥

-- by which version the image is opened: where a number of places is named, by version 1, and else by version 2
abbrev pub IsOpenedFor : Option ℕ → Image → Type 0
IsOpenedFor None image = IsOpenable image
IsOpenedFor (Some count) image = IsOpenableVersion1 image

-- what an upgrade may be refused for
abbrev pub IsUpgradeFault : EngineFault → Type 0
IsUpgradeFault Disk = Unit {0}
IsUpgradeFault NotAStore = Unit {0}
IsUpgradeFault (BadJournal at) = Unit {0}
IsUpgradeFault (Damaged damage) = Unit {0}
IsUpgradeFault NoRoom = Unit {0}
IsUpgradeFault Memory = Unit {0}
IsUpgradeFault _ = ⊥

-- Nothing is pending, the journal is at its beginning, and page 0 of the pages that the disk stands for begins with the magic of version 1.
pub record IsReadyVersion1 (world : World) : Type 0 where
  pub ready : IsReady 0 world
  pub magic : HasMagicOfVersion1 (page_bytes (applied world.seen) 0)

-- the image stands for no state by version 1
abbrev pub StandsForNoneVersion1 : Image → Type 0
StandsForNoneVersion1 image = (state : Contents) → StandsVersion1 image state → ⊥

-- where a store of version 1 is damaged: at page 0 as it is opened, or behind that, by another rule than Head
abbrev pub IsVersion1Damage : Damage → Image → Type 0
IsVersion1Damage damage image = ((damage ≡ head_damage) × HasBrokenHeadVersion1 image) ⊎ ((damage.rule ≢ Head) × IsOpenableVersion1 image)

-- where an upgrade may be refused for damage: at page 0 of version 2 as it is opened, or as a store of version 1 is damaged
abbrev pub IsUpgradeDamage : Damage → Image → Type 0
IsUpgradeDamage damage image = ((damage ≡ head_damage) × HasBrokenHead image) ⊎ IsVersion1Damage damage image

-- why a store of version 1 may be refused whose journal holds nothing
abbrev pub IsVersion1Fault : EngineFault → Type 0
IsVersion1Fault Disk = Unit {0}
IsVersion1Fault (Damaged damage) = Unit {0}
IsVersion1Fault NoRoom = Unit {0}
IsVersion1Fault Memory = Unit {0}
IsVersion1Fault _ = ⊥

-- a fault of an opening
abbrev pub fault_of_opening : OpenFault → EngineFault
fault_of_opening opens.Disk = Disk
fault_of_opening opens.NotAStore = NotAStore
fault_of_opening (opens.BadJournal at) = BadJournal at
fault_of_opening (opens.Damaged damage) = Damaged damage
fault_of_opening opens.Version1 = Version1
fault_of_opening opens.Memory = Memory

-- ---- what a refused upgrade leaves

-- What a refusal leaves: where the journal is bad, what there was; else, but where the disk failed, the journal recovered and the pages as
-- they were.
abbrev pub LeavesUnchanged : EngineFault → World → World → Type 0
LeavesUnchanged Disk old new = Unit {0}
LeavesUnchanged (BadJournal at) old new = WritesNothing old new
LeavesUnchanged _ old new = IsRecovered old new

-- How many pages the places of version 1 may take at most as they are put into the new map: each a page for every level of it, of which there
-- are 256 at most, and one for a new root.
abbrev pub most_carried : ℕ → ℕ
most_carried live = 257 * live

-- The pages that the disk has room for beside those counted are no more than the image's places may take as they are carried over, nor are
-- they with the image's free pages added.
abbrev pub LacksRoomToCarry : ℕ → Image → Type 0
LacksRoomToCarry room image =
    let held = contents_held image in
    let most = most_carried held.block.head.live in
    IsRoomAtMost most room held.block.counted × ArePagesAtMost most room held.pages held.block.counted held.block.first_free
