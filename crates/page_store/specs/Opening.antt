-- What opening a store does to its disk, and why it is refused.
use Rattle.std.specs.Prelude.{◌≡◌, ◌≢◌, ◌⊎◌, ℕ, ◌+◌, ◌<◌, ◌≤◌, List, ◌++◌, Result, Err, IsErrOf}
use Rattle.std.specs.List.{AllByRecursion}
use Rattle.disk_model.specs.World.{World, Image, Range, Rose}
use Rattle.disk_model.specs.declared.disk.Area.TheVariants.{Pages, Journal}
use Rattle.page_journal.specs.Record.{StandsFor, IsReady, applied}
use Rattle.page_face.specs.declared.fault.Damage.{Damage}
use Rattle.page_face.specs.declared.fault.Rule.TheVariants.{Head}
use Rattle.page_store.specs.declared.superblock.Superblock.{Superblock}
use Rattle.page_store.specs.declared.superblock.HeadFault.{HeadFault}
use Rattle.page_store.specs.declared.opening.OpenFault.{OpenFault}
use Rattle.page_store.specs.declared.opening.OpenFault.TheVariants as faults
use Rattle.page_store.specs.Store.{Rests}
use Rattle.page_store.specs.Superblock.{IsStorePage, IsHeadFault, IsPageOfVersion1, IsFaultOfVersion1}
use Rattle.page_store.specs.Contents.{page_bytes, IsCommitted}

-- the read is of the journal, or of page 0
abbrev pub IsOpeningRead : Range → Type 0
IsOpeningRead r = (r.area ≡ Journal) ⊎ ((r.area ≡ Pages) × (r.at + r.len ≤ 4096))

-- From old to new nothing was said, and of the area Pages only page 0 was read.
pub record SaysNothingReadsHead (old new : World) : Type 0 where
  pub said : new.said ≡ old.said
  pub more : List Range
  pub reads : new.reads ≡ old.reads ++ more
  pub each : AllByRecursion IsOpeningRead more

-- Page 0 was read behind a recovery: nothing is pending, the journal is at its beginning, the disk holds the pages that it held before, and
-- this is page 0 of them.
pub record IsFirstRead (page : List ℕ) (old new : World) : Type 0 where
  pub ready : IsReady 0 new
  pub stands : StandsFor old.seen (applied new.seen)
  pub page_is : page ≡ page_bytes (applied new.seen) 0

-- why page 0 can't be read behind a recovery: the disk failed, or the journal is bad
abbrev pub IsFirstFault : OpenFault → Type 0
IsFirstFault faults.Disk = Unit {0}
IsFirstFault (faults.BadJournal at) = Unit {0}
IsFirstFault _ = ⊥

-- The store is open: the disk stands for the pages that it stood for before, and page 0 of them for this.
pub record IsOpened (block : Superblock) (old new : World) : Type 0 where
  pub stands : StandsFor old.seen (applied new.seen)
  pub page : IsStorePage (page_bytes (applied new.seen) 0)
  pub committed : IsCommitted block 0 new

-- So is a store of version 1.
pub record IsOpenedVersion1 (block : Superblock) (old new : World) : Type 0 where
  pub stands : StandsFor old.seen (applied new.seen)
  pub page : IsPageOfVersion1 (page_bytes (applied new.seen) 0)
  pub committed : IsCommitted block 0 new

-- The journal was recovered: nothing is pending, the journal is at its beginning, and the disk holds the pages that it held before.
-- Page 0 of them is none of a store, for this cause.
pub record IsRefused (fault : HeadFault) (old new : World) : Type 0 where
  pub ready : IsReady 0 new
  pub stands : StandsFor old.seen (applied new.seen)
  pub page : IsHeadFault fault (page_bytes (applied new.seen) 0)

-- The journal was recovered as well, and page 0 is none of a store of version 1, for this cause.
pub record IsRefusedVersion1 (fault : HeadFault) (old new : World) : Type 0 where
  pub ready : IsReady 0 new
  pub stands : StandsFor old.seen (applied new.seen)
  pub page : IsFaultOfVersion1 fault (page_bytes (applied new.seen) 0)

-- Of the journal only its first byte is changed, and if that is 0, no area is.
pub record Recovers (old new : World) : Type 0 where
  pub closed : old.seen Journal 0 ≡ 0 → Rests old new
  pub journal : (i : ℕ) → 0 < i → new.seen Journal i ≡ old.seen Journal i

-- the rule Head, broken at page 0
abbrev pub head_damage : Damage
head_damage = record { page = 0; rule = Head }

-- Disk comes just where the disk's count rose, or stands at its last value, and no count falls
pub record HasOpenCause {T : Type 0} (old new : World) (result : Result T OpenFault) : Type 0 where
  pub later : old.faults ≤ new.faults
  pub sink : new.sink_faults ≡ old.sink_faults
  pub rose : IsErrOf result faults.Disk → Rose old.faults new.faults
  pub stays : result ≢ Err faults.Disk → new.faults ≡ old.faults

-- The image stands for pages whose page 0 is none of a store, for this cause.
pub record IsNoStore (fault : HeadFault) (image : Image) : Type 0 where
  pub area : ℕ → ℕ
  pub stands : StandsFor image area
  pub page : IsHeadFault fault (page_bytes area 0)

-- The image stands for pages whose page 0 is none of a store of version 1, for this cause.
pub record IsNoStoreOfVersion1 (fault : HeadFault) (image : Image) : Type 0 where
  pub area : ℕ → ℕ
  pub stands : StandsFor image area
  pub page : IsFaultOfVersion1 fault (page_bytes area 0)
