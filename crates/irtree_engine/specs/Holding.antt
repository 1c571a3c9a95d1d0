-- What a disk stands for, and what opening it leaves.
use Rattle.std.specs.Prelude.{◌≡◌, ℕ, List, false}
use Rattle.disk_model.specs.World.{World, Image}
use Rattle.page_journal.specs.Record.{StandsFor}
use Rattle.page_store.specs.Contents.{page_bytes}
use Rattle.page_store.specs.Superblock.{IsStorePage, is_zero, HasMagic, HasMagicOfVersion1, KeepsHead}
use Rattle.place_values.specs.State.{Contents}
use Rattle.store_model.specs.Stands.{Stands}

-- What reads give stands for a state.
abbrev pub HoldsState : World → Contents → Type 0
HoldsState world state = Stands world.seen state

-- The image stands for the state, and nothing was said.
abbrev pub LeavesState : Contents → World → Image → List ℕ → Type 0
LeavesState state old image said = Stands image state × (said ≡ old.said)

-- The image stands for no state.
abbrev pub StandsForNone : Image → Type 0
StandsForNone image = (state : Contents) → Stands image state → ⊥

-- The image is opened: it stands for pages whose page 0 is zeros, or begins with the magic and keeps the rule Head.
pub record IsOpenable (image : Image) : Type 0 where
  pub area : ℕ → ℕ
  pub stands : StandsFor image area
  pub page : IsStorePage (page_bytes area 0)

-- The image stands for pages whose page 0 is no store's: it is not zeros, and begins neither with the magic nor with that of version 1.
pub record IsForeign (image : Image) : Type 0 where
  pub area : ℕ → ℕ
  pub stands : StandsFor image area
  pub filled : is_zero (page_bytes area 0) ≡ false
  pub other : HasMagic (page_bytes area 0) → ⊥
  pub version1 : HasMagicOfVersion1 (page_bytes area 0) → ⊥

-- The image stands for pages whose page 0 begins with the magic of version 1.
pub record IsVersion1 (image : Image) : Type 0 where
  pub area : ℕ → ℕ
  pub stands : StandsFor image area
  pub magic : HasMagicOfVersion1 (page_bytes area 0)

-- The image stands for pages whose page 0 begins with the magic and breaks the rule Head.
pub record HasBrokenHead (image : Image) : Type 0 where
  pub area : ℕ → ℕ
  pub stands : StandsFor image area
  pub magic : HasMagic (page_bytes area 0)
  pub broken : KeepsHead (page_bytes area 0) → ⊥
