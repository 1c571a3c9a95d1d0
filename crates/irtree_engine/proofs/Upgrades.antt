-- What carrying a store of version 1 over leaves stands for what stood before it.
use Rattle.std.proofs.Common.{◌≡◌, ◌≢◌, ℕ, Bool, true, false, cond, [], Result, Ok, Err, OnOk, inl, inr, ◌⊎◌, ⊎_elim, refl, ap, sym, subst, ◌∙◌}
use Rattle.disk_model.specs.World.{World, Image, LeavesOnly}
use Rattle.disk_model.proofs.Moments.{then, within}
use Rattle.page_face.specs.declared.fault.Damage.{Damage}
use Rattle.page_face.specs.declared.fault.Rule.TheVariants.{Head}
use Rattle.page_face.specs.declared.head.Version.TheVariants.{One, Two}
use Rattle.disk_model.specs.declared.disk.Area.TheVariants.{Journal}
use Rattle.page_journal.specs.Record.{IsJournal, StandsFor, StandsAlike, applied, journal_end}
use Rattle.page_store.specs.Contents.{Contents, HoldsContents, HoldsOneOf, IsCommitted, Overlay, contents_in, contents_of, counted_pages, page_bytes, shown}
use Rattle.page_store.specs.Opening.{head_damage}
use Rattle.page_store.specs.Store.{Rests}
use Rattle.page_store.specs.declared.opening.OpenFault.{OpenFault}
use Rattle.page_store.specs.declared.opening.OpenFault.TheVariants as opens
use Rattle.page_store.specs.Superblock.{HasMagicOfVersion1, IsPageOfVersion1, IsStorePage, KeepsHeadOfVersion1, empty_store, fields_of, is_zero, superblock_in}
use Rattle.page_store.specs.declared.superblock.Superblock.{Superblock}
use Rattle.page_store.proofs.Overlays.{cleared_contents}
use Rattle.place_values.specs.State as states
use Rattle.store_model.specs.Stands.{PagesStand, Stands}
use Rattle.store_model.proofs.Images.{area-one}
use Rattle.table_updates.specs.Version1.{PagesStandVersion1, StandsVersion1}
use Rattle.irtree_engine.specs.declared.fault.EngineFault.{EngineFault}
use Rattle.irtree_engine.specs.declared.fault.EngineFault.TheVariants as engine
use Rattle.irtree_engine.specs.Holding.{HasBrokenHead, IsForeign, IsVersion1, LeavesState, StandsForNone}
use Rattle.irtree_engine.specs.Opening.{IsRecovered}
use Rattle.irtree_engine.specs.Upgrades.{HasBrokenHeadVersion1, IsOpenableVersion1, IsReadyVersion1, IsUpgradeDamage, IsVersion1Damage, IsVersion1Fault, LacksRoomToCarry, LeavesEither, LeavesUnchanged, StandsForNeither, StandsForNoneVersion1, fault_of_opening, most_carried}
use Rattle.irtree_engine.specs.Updates.{ArePagesAtMost, IsRoomAtMost}
use Rattle.irtree_engine.proofs.Openings.{version1-filled, version1-other}
use Rattle.irtree_engine.proofs.Standing.{committed-held}

-- ---- images of version 1

-- an image of the same pages stands for the same state
pub alike-version1 : (old image : Image) (state : states.Contents) → ((pages : ℕ → ℕ) → StandsFor old pages → StandsFor image pages) → StandsVersion1 old state → StandsVersion1 image state
alike-version1 old image state alike stands = record {
  contents = stands.contents;
  holds = record {
    area = stands.holds.area;
    stands = alike stands.holds.area stands.holds.stands;
    holds = stands.holds.holds;
    page = stands.holds.page;
    version1 = stands.holds.version1;
  };
  stand = stands.stand;
}

-- every image of an opening stands for the state before it
pub opening-version1 : (old new : World) (state : states.Contents) → StandsVersion1 old.seen state → LeavesOnly old new (StandsAlike old) → LeavesOnly old new (LeavesEither state old)
opening-version1 old new state stands leaves = within leaves (λ image said alike. (inl (alike-version1 old.seen image state alike.0 stands), alike.1))

-- so does the disk once its journal is recovered
pub recovered-version1 : (old mid : World) (state : states.Contents) → IsRecovered old mid → StandsVersion1 old.seen state → StandsVersion1 mid.seen state
recovered-version1 old mid state recovered = alike-version1 old.seen mid.seen state (λ pages stands. (recovered.ready.journal, stands.1 ∙ sym recovered.stands.1))

-- and so does a store over it
pub store-version1 : {D : Type 0} (world : D → World) (over mid : D) (old : World) (state : states.Contents) → over ≡ mid → IsRecovered old (world mid) → StandsVersion1 old.seen state → StandsVersion1 (world over).seen state
store-version1 world over mid old state same recovered stands = subst (λ disk. StandsVersion1 (world disk).seen state) (sym same) (recovered-version1 old (world mid) state recovered stands)

-- the disk's page 0 begins with the magic of version 1 then
pub recovered-magic : (old mid : World) → IsRecovered old mid → IsVersion1 old.seen → IsReadyVersion1 mid
recovered-magic old mid recovered is = record {
  ready = recovered.ready;
  magic = subst (λ (area : ℕ → ℕ). HasMagicOfVersion1 (page_bytes area 0)) (is.stands.1 ∙ sym recovered.stands.1) is.magic;
}

-- page 0 of an image of version 1 begins with that magic and keeps the rule Head
pub version1-page : (image : Image) (state : states.Contents) (stands : StandsVersion1 image state) → HasMagicOfVersion1 (page_bytes stands.holds.area 0) × KeepsHeadOfVersion1 (page_bytes stands.holds.area 0)
version1-page image state stands = split (is_zero (page_bytes stands.holds.area 0)) refl
  where
    split : (b : Bool) → is_zero (page_bytes stands.holds.area 0) ≡ b → HasMagicOfVersion1 (page_bytes stands.holds.area 0) × KeepsHeadOfVersion1 (page_bytes stands.holds.area 0)
    split true zeros =
        let block : superblock_in (page_bytes stands.holds.area 0) ≡ empty_store = ap (λ b. cond b empty_store (fields_of (page_bytes stands.holds.area 0))) zeros in
        let version : One ≡ Two = sym stands.stand.version ∙ sym (ap (λ (c : Contents). c.block.head.version) stands.holds.holds) ∙ ap (λ (b : Superblock). b.head.version) block in
        absurd (cc version)
    split false some = stands.holds.version1 stands.stand.version stands.stand.range some

-- an image that is opened by version 2 stands for nothing by version 1
pub version1-closed : (image : Image) (area : ℕ → ℕ) (state : states.Contents) → StandsFor image area → IsStorePage (page_bytes area 0) → StandsVersion1 image state → ⊥
version1-closed image area state opened page stands =
    let same : stands.holds.area ≡ area = area-one image stands.holds.area area stands.holds.stands opened in
    let magic : HasMagicOfVersion1 (page_bytes area 0) = subst (λ (p : ℕ → ℕ). HasMagicOfVersion1 (page_bytes p 0)) same (version1-page image state stands).0 in
    version1-other (page_bytes area 0) magic (page (version1-filled (page_bytes area 0) magic)).0

-- ---- over a store

-- where nothing waits to be committed, the pages stand for what the image stands for
pub committed-version1 : (readable : Bool) (world : World) (overlay : Overlay) (current last : Superblock) (end : ℕ) (state : states.Contents) → readable ≡ true → overlay.entries ≡ [] → current ≡ last → IsCommitted last end world → StandsVersion1 world.seen state
    → PagesStandVersion1 current (counted_pages current.counted (shown readable (applied world.seen) overlay)) state
committed-version1 readable world overlay current last end state told none settled committed stands =
    let area = area-one world.seen stands.holds.area (applied world.seen) stands.holds.stands (committed.ready.journal, refl) in
    let is : stands.contents ≡ contents_of (applied world.seen) overlay last =
    sym stands.holds.holds ∙ ap contents_in area ∙ sym (cleared_contents overlay (applied world.seen) last none committed.head) in
    subst (λ (b : Superblock). PagesStandVersion1 b (counted_pages b.counted (shown readable (applied world.seen) overlay)) state) (sym settled)
    (subst (λ (b : Bool). PagesStandVersion1 last (counted_pages last.counted (shown b (applied world.seen) overlay)) state) (sym told)
    (subst (λ (c : Contents). PagesStandVersion1 c.block c.pages state) is stands.stand))

-- the pages that a committed disk stands for hold the contents that stand for the state
area-version1 : (block : Superblock) (at : ℕ) (world : World) (state : states.Contents) → IsCommitted block at world → StandsVersion1 world.seen state
    → PagesStandVersion1 (contents_in (applied world.seen)).block (contents_in (applied world.seen)).pages state
area-version1 block at world state committed stands =
    let area = area-one world.seen stands.holds.area (applied world.seen) stands.holds.stands (committed.ready.journal, refl) in
    subst (λ (c : Contents). PagesStandVersion1 c.block c.pages state) (sym stands.holds.holds ∙ ap contents_in area) stands.stand

-- a crash at any moment of the commit leaves the state by version 1 or by version 2
pub commit-either : (block : Superblock) (at : ℕ) (old new : World) (contents : Contents) (state : states.Contents) → IsCommitted block at old → StandsVersion1 old.seen state → PagesStand contents.block contents.pages state
    → LeavesOnly old new (HoldsOneOf (contents_in (applied old.seen)) contents old) → LeavesOnly old new (LeavesEither state old)
commit-either block at old new contents state committed stands stand leaves = within leaves (λ image said left. (
  ⊎_elim
      (λ (is : HoldsContents (contents_in (applied old.seen)) image). inl record { contents = contents_in (applied old.seen); holds = is; stand = area-version1 block at old state committed stands })
      (λ (is : HoldsContents contents image). inr record { contents = contents; holds = is; stand = stand })
      left.0,
  left.1,
))

-- and so it is where the state stands by version 2 from then on
pub either-then : (old mid new : World) (state : states.Contents) → mid.said ≡ old.said → LeavesOnly old mid (LeavesEither state old) → LeavesOnly mid new (LeavesState state mid) → LeavesOnly old new (LeavesEither state old)
either-then old mid new state quiet first second = (then) first (within second (λ image said left. (inr left.0, left.1 ∙ quiet)))

-- calls that leave the disk alone leave what it stands for by version 1
pub rest-version1 : (old mid : World) (state : states.Contents) → mid.seen ≡ old.seen → StandsVersion1 old.seen state → StandsVersion1 mid.seen state
rest-version1 old mid state same = subst (λ (image : Image). StandsVersion1 image state) (sym same)

-- there is little room by what the image holds, where there is by the fields and pages of a store of which nothing waits to be committed
abbrev IsLittle : ℕ → Contents → Type 0
IsLittle room held = IsRoomAtMost (most_carried held.block.head.live) room held.block.counted × ArePagesAtMost (most_carried held.block.head.live) room held.pages held.block.counted held.block.first_free

pub lacks-carrying : (readable : Bool) (world : World) (overlay : Overlay) (current last : Superblock) (end room : ℕ) → readable ≡ true → overlay.entries ≡ [] → current ≡ last → IsCommitted last end world
    → IsRoomAtMost (most_carried current.head.live) room current.counted
    → ArePagesAtMost (most_carried current.head.live) room (counted_pages current.counted (shown readable (applied world.seen) overlay)) current.counted current.first_free
    → LacksRoomToCarry room world.seen
lacks-carrying readable world overlay current last end room told none settled committed few fewer =
    subst (λ (held : Contents). IsLittle room held) (committed-held readable world overlay current last end told none settled committed) (few, fewer)

-- ---- what a refusal leaves

-- one recovery behind another is one
pub recovered-further : (old mid new : World) → IsRecovered old mid → IsRecovered mid new → IsRecovered old new
recovered-further old mid new first second = record { ready = second.ready; stands = (first.stands.0, second.stands.1 ∙ first.stands.1) }

-- and so are calls behind one that change no area
pub recovered-rests : (old mid new : World) → IsRecovered old mid → Rests mid new → IsRecovered old new
recovered-rests old mid new first rests = record {
  ready = record {
    safe = λ image may. first.ready.safe image (rests.crash image may) ∙ sym rests.seen;
    journal = subst (λ (i : Image). IsJournal (i Journal)) (sym rests.seen) first.ready.journal;
    end = subst (λ (i : Image). journal_end (i Journal) ≡ 0) (sym rests.seen) first.ready.end;
  };
  stands = (first.stands.0, subst (λ (i : Image). applied i ≡ applied mid.seen) (sym rests.seen) refl ∙ first.stands.1);
}

-- so a refusal leaves it that is no fault of the disk
pub refused-left : (old new : World) (fault : EngineFault) → IsVersion1Fault fault → ((fault ≡ engine.Disk → ⊥) → IsRecovered old new) → LeavesUnchanged fault old new
refused-left old new engine.Disk causes left = tt
refused-left old new (engine.Damaged damage) causes left = left (λ e. cc)
refused-left old new engine.NoRoom causes left = left (λ e. cc)
refused-left old new engine.Memory causes left = left (λ e. cc)
refused-left old new engine.NotAStore causes left = absurd causes
refused-left old new (engine.BadJournal at) causes left = absurd causes
refused-left old new engine.Full causes left = absurd causes
refused-left old new engine.Worn causes left = absurd causes
refused-left old new engine.Stopped causes left = absurd causes
refused-left old new engine.Version1 causes left = absurd causes

-- every image of a recovery that comes behind another one holds what the first image held
pub alike-further : (old mid new : World) → IsRecovered old mid → mid.said ≡ old.said → LeavesOnly old mid (StandsAlike old) → LeavesOnly mid new (StandsAlike mid) → LeavesOnly old new (StandsAlike old)
alike-further old mid new recovered quiet first second = (then) first (within second (λ image said alike. (
  λ pages stands. alike.0 pages (recovered.ready.journal, stands.1 ∙ sym recovered.stands.1),
  alike.1 ∙ quiet,
)))

-- ---- what a refusal says

-- why a change stops that found no page: by no damage, and for a cause of carrying over
pub wanted-damage : (fault : EngineFault) (damage : Damage) → (fault ≡ engine.NoRoom) ⊎ (fault ≡ engine.Memory) ⊎ (fault ≡ engine.Disk) → fault ≡ engine.Damaged damage → ⊥
wanted-damage fault damage (inl room) is = absurd (cc)
wanted-damage fault damage (inr (inl memory)) is = absurd (cc)
wanted-damage fault damage (inr (inr disk)) is = absurd (cc)

pub wanted-cause : (fault : EngineFault) → (fault ≡ engine.NoRoom) ⊎ (fault ≡ engine.Memory) ⊎ (fault ≡ engine.Disk) → IsVersion1Fault fault
wanted-cause fault (inl room) = subst IsVersion1Fault (sym room) tt
wanted-cause fault (inr (inl memory)) = subst IsVersion1Fault (sym memory) tt
wanted-cause fault (inr (inr disk)) = subst IsVersion1Fault (sym disk) tt

-- what an opening may be refused for where page 0 begins with the magic of version 1 and the journal is right
pub opening-cause : (fault : OpenFault) → (fault ≡ opens.NotAStore → ⊥) → ((at : ℕ) → fault ≡ opens.BadJournal at → ⊥) → (fault ≡ opens.Version1 → ⊥) → IsVersion1Fault (fault_of_opening fault)
opening-cause opens.Disk other bad old = tt
opening-cause opens.NotAStore other bad old = absurd (other refl)
opening-cause (opens.BadJournal at) other bad old = absurd (bad at refl)
opening-cause (opens.Damaged damage) other bad old = tt
opening-cause opens.Version1 other bad old = absurd (old refl)
opening-cause opens.Memory other bad old = tt

-- page 0 of a disk that is ready keeps its magic through an opening
pub magic-then : (old mid : World) → IsReadyVersion1 old → StandsFor old.seen (applied mid.seen) → HasMagicOfVersion1 (page_bytes (applied mid.seen) 0)
magic-then old mid ready stands = subst (λ (area : ℕ → ℕ). HasMagicOfVersion1 (page_bytes area 0)) (sym stands.1) ready.magic

-- so the image is opened by version 1
pub opened-openable : (old mid : World) → IsReadyVersion1 old → StandsFor old.seen (applied mid.seen) → IsPageOfVersion1 (page_bytes (applied mid.seen) 0) → IsOpenableVersion1 old.seen
opened-openable old mid ready stands page =
    let magic = magic-then old mid ready stands in
    record { area = applied mid.seen; stands = stands; magic = magic; keeps = (page (version1-filled (page_bytes (applied mid.seen) 0) magic)).1 }

-- what the disk is once its journal is recovered it was before
pub openable-back : (old mid : World) → IsRecovered old mid → IsOpenableVersion1 mid.seen → IsOpenableVersion1 old.seen
openable-back old mid recovered is = record { area = is.area; stands = (recovered.stands.0, is.stands.1 ∙ recovered.stands.1); magic = is.magic; keeps = is.keeps }

-- and so it is damaged
pub damage-back : (old mid : World) (damage : Damage) → IsRecovered old mid → IsVersion1Damage damage mid.seen → IsUpgradeDamage damage old.seen
damage-back old mid damage recovered is = ⊎_elim
    (λ (head : (damage ≡ head_damage) × HasBrokenHeadVersion1 mid.seen). inr (inl (
      head.0,
      record { area = head.1.area; stands = (recovered.stands.0, head.1.stands.1 ∙ recovered.stands.1); magic = head.1.magic; broken = head.1.broken },
    )))
    (λ (behind : (damage.rule ≢ Head) × IsOpenableVersion1 mid.seen). inr (inr (behind.0, openable-back old mid recovered behind.1)))
    is

-- an image that stands for a state by version 1 has no foreign page 0
pub foreign-version1 : (image : Image) (state : states.Contents) → IsForeign image → StandsVersion1 image state → ⊥
foreign-version1 image state foreign stands =
    let same : stands.holds.area ≡ foreign.area = area-one image stands.holds.area foreign.area stands.holds.stands foreign.stands in
    foreign.version1 (subst (λ (p : ℕ → ℕ). HasMagicOfVersion1 (page_bytes p 0)) same (version1-page image state stands).0)

-- nor one of version 2 that breaks the rule Head
pub broken-version1 : (image : Image) (state : states.Contents) → HasBrokenHead image → StandsVersion1 image state → ⊥
broken-version1 image state broken stands =
    let same : stands.holds.area ≡ broken.area = area-one image stands.holds.area broken.area stands.holds.stands broken.stands in
    version1-other (page_bytes broken.area 0) (subst (λ (p : ℕ → ℕ). HasMagicOfVersion1 (page_bytes p 0)) same (version1-page image state stands).0) broken.magic

-- an image that stands for nothing by the one version and by the other stands for neither
pub neither : (image : Image) → StandsForNone image → StandsForNoneVersion1 image → StandsForNeither image
neither image none none1 state either = ⊎_elim (λ (old : StandsVersion1 image state). none1 state old) (λ (is : Stands image state). none state is) either

-- what is said of a disk is said of the one that was given back
pub given-back : {D : Type 0} (P : D → Type 0) (was back : D) → was ≡ back → P was → P back
given-back P was back same holds = subst P same holds

-- what holds always holds where a call succeeds
pub on-ok : {T E : Type 0} (result : Result T E) {P : Type 0} → P → OnOk result P
on-ok (Ok done) holds = holds
on-ok (Err fault) holds = tt
