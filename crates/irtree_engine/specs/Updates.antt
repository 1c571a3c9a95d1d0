-- What updates do to the state that an image stands for, and why they are refused.
use Rattle.std.specs.Prelude.{◌≡◌, ◌⊎◌, ℕ, ◌+◌, ◌*◌, ◌≤◌, ◌^◌, List, [], ◌∷◌, length, Result, Ok, Err}
use Rattle.disk_model.specs.World.{World, Image}
use Rattle.page_face.specs.FreeList.{PageMap, IsFreeList}
use Rattle.page_store.specs.declared.superblock.Superblock.{Superblock}
use Rattle.place_values.specs.State.{Contents}
use Rattle.place_values.specs.Update.{effect_of}
use Rattle.place_values.specs.declared.update.Applied.{Applied}
use Rattle.place_values.specs.declared.update.Update.{Update}
use Rattle.place_values.specs.declared.update.UpdateFault.{UpdateFault}
use Rattle.place_values.specs.declared.update.UpdateFault.TheVariants as updates
use Rattle.store_model.specs.Stands.{PagesStand, Stands}
use Rattle.irtree_engine.specs.declared.fault.EngineFault.{EngineFault}
use Rattle.irtree_engine.specs.declared.fault.EngineFault.TheVariants.{Disk, Damaged, Full, Worn, NoRoom, Stopped, Memory}

-- what follows an update that is accepted, or what refuses it
abbrev pub accepted : Result Applied UpdateFault → Result Contents UpdateFault → Result Contents UpdateFault
accepted (Ok applied) rest = rest
accepted (Err fault) rest = Err fault

-- the state after updates that are all accepted, or what the first one that isn't meets
abbrev pub state_after_all : Contents → List Update → Result Contents UpdateFault
state_after_all state [] = Ok state
state_after_all state (update ∷ updates) =
    accepted (effect_of state update).answer (state_after_all (effect_of state update).state updates)

-- the image stands for the state that came out
abbrev pub StandsForOutcome : Result Contents UpdateFault → Image → Type 0
StandsForOutcome (Ok after) image = Stands image after
StandsForOutcome (Err fault) image = ⊥

-- page 0's fields and the pages stand for the state that came out
abbrev pub StandForOutcome : Result Contents UpdateFault → Superblock → PageMap → Type 0
StandForOutcome (Ok after) block pages = PagesStand block pages after
StandForOutcome (Err fault) block pages = ⊥

-- The image stands for the state before an update or for the one after it, and nothing was said.
abbrev pub LeavesOneOf : Contents → Contents → World → Image → List ℕ → Type 0
LeavesOneOf before after old image said = (Stands image before ⊎ Stands image after) × (said ≡ old.said)

-- The image stands for the state before some updates or for the one after all of them, and nothing was said.
abbrev pub LeavesAllOrNone : Contents → List Update → World → Image → List ℕ → Type 0
LeavesAllOrNone before updates old image said =
    (Stands image before ⊎ StandsForOutcome (state_after_all before updates) image) × (said ≡ old.said)

-- what an update may be refused for
abbrev pub IsUpdateFault : EngineFault → Type 0
IsUpdateFault Disk = Unit {0}
IsUpdateFault (Damaged damage) = Unit {0}
IsUpdateFault Full = Unit {0}
IsUpdateFault Worn = Unit {0}
IsUpdateFault NoRoom = Unit {0}
IsUpdateFault Stopped = Unit {0}
IsUpdateFault Memory = Unit {0}
IsUpdateFault _ = ⊥

-- what a commit may be refused for
abbrev pub IsCommitFault : EngineFault → Type 0
IsCommitFault Disk = Unit {0}
IsCommitFault Memory = Unit {0}
IsCommitFault _ = ⊥

-- A state comes from another by updates: the update number rose where anything changed.
abbrev pub IsLater : Contents → Contents → Type 0
IsLater before after = after.number ≡ before.number → after ≡ before

-- On an image that stands for a state Full and Worn come by what the updates meet in it, and damage never does.
abbrev pub IsDueTo : {T : Type 0} → Result T UpdateFault → EngineFault → Type 0
IsDueTo outcome Full = outcome ≡ Err updates.Full
IsDueTo outcome Worn = outcome ≡ Err updates.Worn
IsDueTo outcome (Damaged damage) = ⊥
IsDueTo outcome _ = Unit {0}

-- And on any image by the numbers of page 0: how many places live, and the update number, each with what so many updates add.
abbrev pub IsAtLimit : ℕ → ℕ → EngineFault → Type 0
IsAtLimit live number Full = 1000000 ≤ live
IsAtLimit live number Worn = 2 ^ 40 ≤ number
IsAtLimit live number _ = Unit {0}

-- How many takes of a page so many updates in one commit are allowed, over so many pages counted: a fuse that no change in order comes near.
-- An update makes 129 puts into the tables, of a place and of 64 words by text and by number, and sets 64 rows at each level of the tree; a put
-- takes a page for each level of its map whose page splits. Where a node of the tree splits, the rows of what moves are put anew: they are
-- no more than there are rows at its level, and are in leaves that are half full at least. Hence a few for each page counted.
abbrev pub most_takes : ℕ → ℕ → ℕ
most_takes updates counted = 65536 + 128 * updates + 8 * counted

-- the room is no more than the pages counted and so many more
abbrev pub IsRoomAtMost : ℕ → ℕ → ℕ → Type 0
IsRoomAtMost most room counted = room ≤ counted + most

-- the pages of the free list, and those that there is room for beside the pages counted, are together no more than so many
abbrev pub ArePagesAtMost : ℕ → ℕ → PageMap → ℕ → ℕ → Type 0
ArePagesAtMost most room pages counted first = (free : List ℕ) → IsFreeList pages counted first free → room + length free ≤ counted + most

-- there is room for no more pages than so many updates are allowed to take
abbrev pub LacksRoom : ℕ → ℕ → ℕ → Type 0
LacksRoom updates room counted = IsRoomAtMost (most_takes updates counted) room counted

-- so it is with the pages of the free list added
abbrev pub LacksPages : ℕ → ℕ → PageMap → ℕ → ℕ → Type 0
LacksPages updates room pages counted first = ArePagesAtMost (most_takes updates counted) room pages counted first
