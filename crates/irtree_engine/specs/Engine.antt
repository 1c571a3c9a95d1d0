-- What an engine has, what its calls leave alone, why they refuse, and what stands behind a refusal.
use Rattle.std.specs.Prelude.{◌≡◌, ◌≢◌, ◌↔◌, ℕ, ◌+◌, ◌≤◌, List, [], Result, Err, IsTrue, IfErr, IsErrOf, OnErr, true}
use Rattle.disk_model.specs.World.{World, Rose}
use Rattle.disk_model.specs.declared.disk.Disk.{Ghosts}
use Rattle.page_face.specs.Causes as pages
use Rattle.page_face.specs.FreeList.{PageMap}
use Rattle.page_face.specs.declared.fault.Damage.{Damage}
use Rattle.page_face.specs.declared.fault.Rule.TheVariants.{Head}
use Rattle.page_face.specs.declared.head.Head as heads
use Rattle.page_journal.specs.Record.{applied}
use Rattle.page_store.specs.Contents.{counted_pages, shown}
use Rattle.page_store.specs.Store.{ReadsOnly, Rests}
use Rattle.page_store.specs.declared.superblock.Superblock.{Superblock}
use Rattle.irtree_engine.specs.Faults.{IsReadFault, IsSettleFault}
use Rattle.irtree_engine.specs.Updates.{IsUpdateFault, LacksPages, LacksRoom}
use Rattle.irtree_engine.specs.declared.engine.Engine.{Engine}
use Rattle.irtree_engine.specs.declared.fault.EngineFault.{EngineFault}
use Rattle.irtree_engine.specs.declared.fault.EngineFault.TheVariants.{Disk, Damaged, NoRoom, Stopped}

-- `g` is what a bound `D: Disk` gives.
module _ {D P : Type 0} {g : Ghosts D} where
  -- ---- what an engine has

  -- what is known of its station's disk
  abbrev pub world_of : Engine D P g → World
  world_of engine = g.world engine.store.disk.now

  -- how many pages that disk may have
  abbrev pub disk_room_of : Engine D P g → ℕ
  disk_room_of engine = g.room_of engine.store.disk.now

  -- page 0's fields as they stand: the pages counted, the first free page and the head
  abbrev pub block_of : Engine D P g → Superblock
  block_of engine = engine.store.current

  -- the pages from 1 up to those counted, as reads give them
  abbrev pub pages_of : Engine D P g → PageMap
  pages_of engine = counted_pages engine.store.current.counted (shown g.readable (applied (g.world engine.store.disk.now).seen) engine.store.overlay)

  -- the pages that the last call asked for, in order
  abbrev pub log_of : Engine D P g → List ℕ
  log_of engine = engine.store.asked.items

  -- ---- what a call leaves alone

  -- What an update leaves alone. It says nothing, lowers no count, and changes neither the loan nor what the disk has room for.
  pub record LeavesAlone (old new : Engine D P g) : Type 0 where
    -- the disk is the same loan
    pub same_loan : new.store.disk.ghost_name ≡ old.store.disk.ghost_name
    -- it may have as many pages as before
    pub room : disk_room_of new ≡ disk_room_of old
    -- its count of faults doesn't fall
    pub later : (world_of old).faults ≤ (world_of new).faults
    -- the sink's count of faults stays
    pub sink : (world_of new).sink_faults ≡ (world_of old).sink_faults
    -- nothing is said
    pub silent : IsTrue g.readable → (world_of new).said ≡ (world_of old).said
    -- the count of refused takes doesn't fall
    pub refused : old.store.refused ≤ new.store.refused

  -- What a call that only reads leaves alone: all but the disk's count of faults, the log, and what memory holds of the pages.
  pub record OnlyLooks (old new : Engine D P g) : Type 0 where
    -- the disk is the same loan
    pub same_loan : new.store.disk.ghost_name ≡ old.store.disk.ghost_name
    -- it may have as many pages as before
    pub room : disk_room_of new ≡ disk_room_of old
    -- its count of faults doesn't fall
    pub later : (world_of old).faults ≤ (world_of new).faults
    -- the sink's count of faults stays
    pub sink : (world_of new).sink_faults ≡ (world_of old).sink_faults
    -- no area changed and nothing was said
    pub rests : IsTrue g.readable → Rests (world_of old) (world_of new)
    -- no take was refused
    pub refused : new.store.refused ≡ old.store.refused
    -- the engine is stopped if it was
    pub goes_on : new.stopped ≡ old.stopped
    -- page 0's fields are as before
    pub head : block_of new ≡ block_of old
    -- each read of the device is of a page in the log
    pub log : IsTrue g.readable → ReadsOnly (log_of new) (world_of old) (world_of new)

  -- What settling leaves alone: all but the areas of the disk, its count of faults and whether the engine is stopped.
  pub record OnlySettles (old new : Engine D P g) : Type 0 where
    -- the disk is the same loan
    pub same_loan : new.store.disk.ghost_name ≡ old.store.disk.ghost_name
    -- it may have as many pages as before
    pub room : disk_room_of new ≡ disk_room_of old
    -- its count of faults doesn't fall
    pub later : (world_of old).faults ≤ (world_of new).faults
    -- the sink's count of faults stays
    pub sink : (world_of new).sink_faults ≡ (world_of old).sink_faults
    -- nothing is said
    pub silent : IsTrue g.readable → (world_of new).said ≡ (world_of old).said
    -- no take was refused
    pub refused : new.store.refused ≡ old.store.refused
    -- the log is that of the call before
    pub log : log_of new ≡ log_of old
    -- page 0's fields are as before
    pub head : block_of new ≡ block_of old

  -- How far updates raise page 0's numbers: for each by one at most, how many places live and the update number.
  pub record RaisesByAtMost (updates : ℕ) (old new : Engine D P g) : Type 0 where
    -- how many places live
    pub live : (block_of new).head.live ≤ (block_of old).head.live + updates
    -- the update number
    pub number : (block_of new).head.number ≤ (block_of old).head.number + updates

  -- ---- why a call refuses

  -- Why so many updates in one commit are refused, on any image.
  pub record RefusesUpdates {T : Type 0} (updates : ℕ) (old new : Engine D P g) (result : Result T EngineFault) : Type 0 where
    -- for what an update may be refused, and for nothing else
    pub causes : IfErr result IsUpdateFault
    -- Stopped exactly if an earlier commit failed
    pub stopped : IsErrOf result Stopped ↔ IsTrue old.stopped
    -- then nothing is looked at: the log is empty
    pub emptied : IsErrOf result Stopped → log_of new ≡ []
    -- Disk only if the disk failed in this call
    pub disk : IsErrOf result Disk → Rose (world_of old).faults (world_of new).faults
    -- which no other end hides
    pub stays : result ≢ Err Disk → (world_of new).faults ≡ (world_of old).faults
    -- damage never of the rule Head on a disk whose bytes are known
    pub no_head : IsTrue g.readable → (damage : Damage) → IsErrOf result (Damaged damage) → damage.rule ≢ Head
    -- NoRoom only if a take was refused in this call
    pub no_room : IsErrOf result NoRoom → pages.Rose old.store.refused new.store.refused
    -- and there is room for no more pages than so many updates are allowed to take
    pub room_left : IsErrOf result NoRoom → LacksRoom updates (disk_room_of old) (block_of old).counted
    -- nor is there with the pages of the free list added
    pub free_left : IsErrOf result NoRoom → LacksPages updates (disk_room_of old) (pages_of new) (block_of old).counted (block_of old).first_free

  -- Why a call that only reads is refused, on any image.
  pub record RefusesLook {T : Type 0} (old new : Engine D P g) (result : Result T EngineFault) : Type 0 where
    -- for what such a call may be refused, and for nothing else
    pub causes : IfErr result IsReadFault
    -- Stopped exactly if an earlier commit failed
    pub stopped : IsErrOf result Stopped ↔ IsTrue old.stopped
    -- then nothing is looked at: the log is empty
    pub emptied : IsErrOf result Stopped → log_of new ≡ []
    -- Disk only if the disk failed in this call
    pub disk : IsErrOf result Disk → Rose (world_of old).faults (world_of new).faults
    -- which no other end hides
    pub stays : result ≢ Err Disk → (world_of new).faults ≡ (world_of old).faults
    -- damage never of the rule Head on a disk whose bytes are known
    pub no_head : IsTrue g.readable → (damage : Damage) → IsErrOf result (Damaged damage) → damage.rule ≢ Head

  -- Why settling is refused, and what stands then.
  pub record RefusesSettling {T : Type 0} (old new : Engine D P g) (result : Result T EngineFault) : Type 0 where
    -- for what settling may be refused, and for nothing else
    pub causes : IfErr result IsSettleFault
    -- Stopped exactly if an earlier commit failed
    pub stopped : IsErrOf result Stopped ↔ IsTrue old.stopped
    -- Disk only if the disk failed in this call
    pub disk : IsErrOf result Disk → Rose (world_of old).faults (world_of new).faults
    -- which no other end hides
    pub stays : result ≢ Err Disk → (world_of new).faults ≡ (world_of old).faults
    -- and which stops the engine
    pub stops : IsErrOf result Disk → new.stopped ≡ true
    -- any other end leaves it stopped or not as it was
    pub goes_on : result ≢ Err Disk → new.stopped ≡ old.stopped
    -- and a refusal without Disk has made no call of the disk
    pub untouched : result ≢ Err Disk → OnErr result (new.store.disk ≡ old.store.disk)

  -- ---- what stands behind a refusal

  -- What stands behind updates that were refused.
  pub record StandsRefused {T : Type 0} (old new : Engine D P g) (result : Result T EngineFault) : Type 0 where
    -- no end but Disk stops the engine
    pub goes_on : result ≢ Err Disk → new.stopped ≡ old.stopped
    -- behind a refusal that didn't stop it the image is as before
    pub rests : IsTrue g.readable → OnErr result (new.stopped ≡ old.stopped → Rests (world_of old) (world_of new))
    -- and behind NoRoom page 0's fields are
    pub as_before : IsErrOf result NoRoom → block_of new ≡ block_of old
