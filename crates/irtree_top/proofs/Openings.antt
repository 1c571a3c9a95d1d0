-- A job behind the opening of its store.
use Rattle.std.proofs.Common.{◌≡◌, ℕ, zero, ◌==◌, Bool, false, List, [], ◌∷◌, slice_index, inl, inr, refl, sym, ap, subst, arith}
use Rattle.std.proofs.lemmas.Bool.{and_left, ne_eqb}
use Rattle.std.specs.Prelude.{Result, Ok, Err, IfErr, IsTrue}
use Rattle.disk_model.specs.World.{World, Image, LeavesOnly, LeavesOnlySeen, Rose}
use Rattle.page_face.specs.declared.fault.Damage.{Damage}
use Rattle.place_values.specs.State.{Contents}
use Rattle.irtree_engine.specs.Faults.{IsOpenFault}
use Rattle.irtree_engine.specs.Holding.{HasBrokenHead, HoldsState, IsForeign, IsOpenable, IsVersion1, StandsForNone}
use Rattle.irtree_engine.specs.Opening.{LeavesRefused}
use Rattle.irtree_engine.specs.declared.fault.EngineFault.{EngineFault}
use Rattle.irtree_engine.specs.declared.fault.EngineFault.TheVariants as engine
use Rattle.run_outcome.specs.Causes.{end_of_engine, HasJobEnd, IsJobEnd, IsStoreEnd}
use Rattle.run_outcome.proofs.Counts.{keeps-from}
use Rattle.run_outcome.specs.declared.ended.LimitFault.{LimitFault}
use Rattle.run_outcome.specs.declared.ended.StoreFault.{StoreFault}
use Rattle.run_outcome.specs.declared.ended.StoreFault.TheVariants as stores
use Rattle.page_journal.specs.Record.{IsBad, StandsAlike}
use Rattle.run_outcome.specs.declared.ended.Ended.{Ended}
use Rattle.run_outcome.specs.declared.ended.Ended.TheVariants as ends
use Rattle.page_store.specs.Opening.{IsOpened, head_damage}
use Rattle.page_store.specs.Contents.{page_bytes}
use Rattle.page_store.specs.Superblock.{HasMagic, IsStorePage, is_zero}
use Rattle.page_store.specs.declared.superblock.Superblock.{Superblock}
use Rattle.store_model.proofs.Images.{area-one}
use Rattle.command_words.specs.declared.job.Action.{Action}
use Rattle.irtree_top.specs.Run.{EndsJob, HasRunEnd, IsLimitReached, ReachesLimitBy, IsBehindOpening, IsBroken, IsCompleteEnd, IsLimitOf, IsRunEnd, LeavesAlone}
use Rattle.command_words.specs.Job.{Asked}
use Rattle.irtree_top.proofs.Fronts.{none-said}

-- what a refused opening says of the image
pub record Refuses (readable : Bool) (old new : World) (fault : EngineFault) : Type 0 where
  pub disk : fault ≡ engine.Disk → Rose old.faults new.faults
  pub none : IsTrue readable → (fault ≡ engine.Disk → ⊥) → StandsForNone old.seen
  pub foreign : IsTrue readable → fault ≡ engine.NotAStore → IsForeign old.seen
  pub bad : IsTrue readable → (at : ℕ) → fault ≡ engine.BadJournal at → IsBad old.seen at
  pub version1 : IsTrue readable → fault ≡ engine.Version1 → IsVersion1 old.seen
  pub head : IsTrue readable → (damage : Damage) → fault ≡ engine.Damaged damage → (damage ≡ head_damage) × HasBrokenHead old.seen

-- an opening that is refused for another cause than a fault of the disk says that the image stands for none
pub none-by : {image : Image} (fault : EngineFault) → IsOpenFault fault → (fault ≡ engine.Disk → ⊥)
    → (fault ≡ engine.NotAStore → StandsForNone image) → (fault ≡ engine.Version1 → StandsForNone image) → ((at : ℕ) → fault ≡ engine.BadJournal at → StandsForNone image) → ((damage : Damage) → fault ≡ engine.Damaged damage → StandsForNone image) → StandsForNone image
none-by engine.Disk opens other none old bad damaged = absurd (other refl)
none-by engine.NotAStore opens other none old bad damaged = none refl
none-by engine.Version1 opens other none old bad damaged = old refl
none-by (engine.BadJournal at) opens other none old bad damaged = bad at refl
none-by (engine.Damaged damage) opens other none old bad damaged = damaged damage refl
none-by engine.Full opens other none old bad damaged = absurd opens
none-by engine.Worn opens other none old bad damaged = absurd opens
none-by engine.NoRoom opens other none old bad damaged = absurd opens
none-by engine.Stopped opens other none old bad damaged = absurd opens
none-by engine.Memory opens other none old bad damaged = absurd opens

-- the cause of a refused opening
pub refused-cause : (readable : Bool) (source : ℕ) (old new : World) (fault : EngineFault) → IsOpenFault fault → Refuses readable old new fault → IsRunEnd readable source source old new (end_of_engine fault)
refused-cause readable source old new engine.Disk opens refuses = refuses.disk refl
refused-cause readable source old new engine.NotAStore opens refuses = λ t. (refuses.none t (λ e. cc), refuses.foreign t refl)
refused-cause readable source old new engine.Version1 opens refuses = λ t. (refuses.none t (λ e. cc), refuses.version1 t refl)
refused-cause readable source old new (engine.BadJournal at) opens refuses = λ t. (refuses.none t (λ e. cc), refuses.bad t at refl)
refused-cause readable source old new (engine.Damaged damage) opens refuses = λ t. (refuses.none t (λ e. cc), inl (refuses.head t damage refl))
refused-cause readable source old new engine.Full opens refuses = absurd opens
refused-cause readable source old new engine.Worn opens refuses = absurd opens
refused-cause readable source old new engine.NoRoom opens refuses = absurd opens
refused-cause readable source old new engine.Stopped opens refuses = absurd opens
refused-cause readable source old new engine.Memory opens refuses = absurd opens

-- a job whose opening was refused has said nothing
pub refused-job : (T : Type 0) (readable : Bool) → IsTrue readable → (asked : Asked) (state : Contents) (input left : List ℕ) (old new : World) → HoldsState old state → new.said ≡ old.said → (fault : EngineFault) → IsOpenFault fault → Refuses readable old new fault
    → EndsJob {T = T} asked state input left old new (Err (end_of_engine fault))
refused-job T readable t asked state input left old new holds none engine.Disk opens refuses = λ whole is. none-said whole.turn.text old.said new.said none
refused-job T readable t asked state input left old new holds none engine.NotAStore opens refuses = refuses.none t (λ e. cc) state holds
refused-job T readable t asked state input left old new holds none engine.Version1 opens refuses = refuses.none t (λ e. cc) state holds
refused-job T readable t asked state input left old new holds none (engine.BadJournal at) opens refuses = refuses.none t (λ e. cc) state holds
refused-job T readable t asked state input left old new holds none (engine.Damaged damage) opens refuses = refuses.none t (λ e. cc) state holds
refused-job T readable t asked state input left old new holds none engine.Full opens refuses = absurd opens
refused-job T readable t asked state input left old new holds none engine.Worn opens refuses = absurd opens
refused-job T readable t asked state input left old new holds none engine.NoRoom opens refuses = absurd opens
refused-job T readable t asked state input left old new holds none engine.Stopped opens refuses = absurd opens
refused-job T readable t asked state input left old new holds none engine.Memory opens refuses = absurd opens

module _ (readable : Bool) (old was new : World) (faults : was.faults ≡ old.faults) (sink : was.sink_faults ≡ old.sink_faults) (opened : IsTrue readable → IsOpenable old.seen)
    (stands : IsTrue readable → (state : Contents) → HoldsState old state → HoldsState was state) where
  -- damage that was met behind the opening
  broken-from : (fault : StoreFault) → IsStoreEnd readable was fault → IsTrue readable → IsBroken fault old.seen
  broken-from (stores.Damaged damage) cause t = ((λ state holds. (cause t).0 state (stands t state holds)), inr ((cause t).1, opened t))
  broken-from stores.NotAStore cause t = absurd cause
  broken-from stores.Version1 cause t = absurd cause
  broken-from (stores.BadJournal at) cause t = absurd cause

  cause-from : (source_old source_new : ℕ) (end : Ended) → IsJobEnd readable source_old source_new was new end → IsRunEnd readable source_old source_new old new end
  cause-from source_old source_new ends.Memory cause = tt
  cause-from source_old source_new ends.Disk cause = omega (arith, cause, faults)
  cause-from source_old source_new ends.Source cause = (cause, opened)
  cause-from source_old source_new ends.Sink cause = (omega (arith, cause, sink), opened)
  cause-from source_old source_new (ends.Input fault) cause = opened
  cause-from source_old source_new (ends.Store fault) cause = broken-from fault cause
  cause-from source_old source_new (ends.Limit fault) cause = opened
  cause-from source_old source_new ends.Done cause = absurd cause
  cause-from source_old source_new ends.Words cause = absurd cause

  -- a job's cause, behind the opening
  pub job-cause : (T : Type 0) (source_old source_new : ℕ) (result : Result T Ended) → HasJobEnd readable source_old source_new was new result → HasRunEnd readable source_old source_new old new result
  job-cause T source_old source_new (Ok done) cause = record {
    source = cause.source;
    faults = omega (arith, cause.faults, faults);
    sink = omega (arith, cause.sink, sink);
    reads = cause.reads;
    keeps = keeps-from old was new (Ok done) faults sink cause.keeps;
    opened = opened;
    cause = tt;
  }
  job-cause T source_old source_new (Err end) cause = record {
    source = cause.source;
    faults = omega (arith, cause.faults, faults);
    sink = omega (arith, cause.sink, sink);
    reads = cause.reads;
    keeps = keeps-from old was new (Err end) faults sink cause.keeps;
    opened = λ t. tt;
    cause = cause-from source_old source_new end cause.cause;
  }

-- an end behind the opening says that the image is opened
pub behind-opening : (readable : Bool) (source_old source_new : ℕ) (old new : World) (end : Ended) → IsRunEnd readable source_old source_new old new end → IsBehindOpening end → IsTrue readable → IsOpenable old.seen
behind-opening readable source_old source_new old new ends.Memory cause behind = absurd behind
behind-opening readable source_old source_new old new ends.Disk cause behind = absurd behind
behind-opening readable source_old source_new old new ends.Source cause behind = cause.1
behind-opening readable source_old source_new old new ends.Sink cause behind = cause.1
behind-opening readable source_old source_new old new (ends.Input fault) cause behind = cause
behind-opening readable source_old source_new old new (ends.Store fault) cause behind = absurd behind
behind-opening readable source_old source_new old new (ends.Limit fault) cause behind = cause
behind-opening readable source_old source_new old new ends.Done cause behind = absurd cause
behind-opening readable source_old source_new old new ends.Words cause behind = absurd cause

-- ---- what the opening leaves

-- the image of a store that was opened
pub opened-image : (block : Superblock) (old new : World) → IsOpened block old new → IsOpenable old.seen
opened-image block old new opened = record { area = _; stands = opened.stands; page = opened.page }

-- nothing is pending then
pub opened-quiet : (block : Superblock) (old new : World) → IsOpened block old new → LeavesOnlySeen new
opened-quiet block old new opened = opened.committed.ready.safe

-- and a limit that is reached from the numbers of its page 0
pub opened-limit : (block : Superblock) (old new : World) → IsOpened block old new → (fault : LimitFault) (asked : Asked) (input : List ℕ) → ReachesLimitBy asked.action asked fault block.head.live block.head.number input → IsLimitReached fault asked input old.seen
opened-limit block old new opened fault asked input reaches = record {
  area = _;
  stands = opened.stands;
  reaches = subst (λ (b : Superblock). ReachesLimitBy asked.action asked fault b.head.live b.head.number input) (sym opened.committed.head) reaches;
}

-- how an opening that is refused ends a run
abbrev pub IsOpeningEnd : Ended → Type 0
IsOpeningEnd ends.Disk = Unit {0}
IsOpeningEnd (ends.Store fault) = Unit {0}
IsOpeningEnd _ = ⊥

pub opening-end : (fault : EngineFault) → IsOpenFault fault → IsOpeningEnd (end_of_engine fault)
opening-end engine.Disk opens = tt
opening-end engine.NotAStore opens = tt
opening-end engine.Version1 opens = tt
opening-end (engine.BadJournal at) opens = tt
opening-end (engine.Damaged damage) opens = tt
opening-end engine.Full opens = absurd opens
opening-end engine.Worn opens = absurd opens
opening-end engine.NoRoom opens = absurd opens
opening-end engine.Stopped opens = absurd opens
opening-end engine.Memory opens = absurd opens

-- a store that is refused as it is opened is left alone
pub refused-alone : (old new : World) (fault : EngineFault) → LeavesRefused fault old new → LeavesOnly old new (StandsAlike old) → new.said ≡ old.said → LeavesAlone (end_of_engine fault) old new
refused-alone old new engine.Disk left alike said = tt
refused-alone old new engine.NotAStore left alike said = record { recovered = left; alike = alike; said = said }
refused-alone old new engine.Version1 left alike said = record { recovered = left; alike = alike; said = said }
refused-alone old new (engine.BadJournal at) left alike said = left
refused-alone old new (engine.Damaged damage) left alike said = λ is. record { recovered = left; alike = alike; said = said }
refused-alone old new engine.Full left alike said = tt
refused-alone old new engine.Worn left alike said = tt
refused-alone old new engine.NoRoom left alike said = tt
refused-alone old new engine.Stopped left alike said = tt
refused-alone old new engine.Memory left alike said = tt

-- a page that begins with the magic isn't all zero
magic-filled : (page : List ℕ) → HasMagic page → is_zero page ≡ false
magic-filled [] is = let first : zero ≡ 73 = ap (λ (l : List ℕ). slice_index l 0) is in absurd (omega arith)
magic-filled (byte ∷ page) is =
    let first : byte ≡ 73 = ap (λ (l : List ℕ). slice_index l 0) is in
    and_left (byte == 0) (is_zero page) (ne_eqb byte 0 (λ zeros. omega arith))

-- a store whose page 0 breaks the rule Head isn't opened
unopened : (image : Image) → HasBrokenHead image → IsOpenable image → ⊥
unopened image broken opened =
    let same : opened.area ≡ broken.area = area-one image opened.area broken.area opened.stands broken.stands in
    let page : IsStorePage (page_bytes broken.area 0) = subst (λ area. IsStorePage (page_bytes area 0)) same opened.page in
    broken.broken (page (magic-filled (page_bytes broken.area 0) broken.magic)).1

module _ (old new : World) (opened : IsOpenable old.seen) where
  -- behind the opening no store is refused for its page 0 or its journal
  end-alone : (readable : Bool) (source_old source_new : ℕ) (was after : World) (end : Ended) → IsJobEnd readable source_old source_new was after end → LeavesAlone end old new
  end-alone readable source_old source_new was after ends.Memory cause = tt
  end-alone readable source_old source_new was after ends.Disk cause = tt
  end-alone readable source_old source_new was after ends.Source cause = tt
  end-alone readable source_old source_new was after ends.Sink cause = tt
  end-alone readable source_old source_new was after (ends.Input fault) cause = tt
  end-alone readable source_old source_new was after (ends.Limit fault) cause = tt
  end-alone readable source_old source_new was after (ends.Store (stores.Damaged damage)) cause = λ broken. absurd (unopened old.seen broken opened)
  end-alone readable source_old source_new was after (ends.Store stores.NotAStore) cause = absurd cause
  end-alone readable source_old source_new was after (ends.Store stores.Version1) cause = absurd cause
  end-alone readable source_old source_new was after (ends.Store (stores.BadJournal at)) cause = absurd cause
  end-alone readable source_old source_new was after ends.Done cause = tt
  end-alone readable source_old source_new was after ends.Words cause = tt

  pub job-alone : (T : Type 0) (readable : Bool) (source_old source_new : ℕ) (was after : World) (result : Result T Ended) → HasJobEnd readable source_old source_new was after result → IfErr result (λ end. LeavesAlone end old new)
  job-alone T readable source_old source_new was after (Ok done) cause = tt
  job-alone T readable source_old source_new was after (Err end) cause = end-alone readable source_old source_new was after end cause.cause

-- ---- an end by the words

-- Where no count rose and the image stands for a state, a run ends by its words.
pub complete-end : (readable : Bool) (source_old source_new : ℕ) (old new : World) (action : Action) (state : Contents) → IsTrue readable → HoldsState old state
    → (Rose source_old source_new → ⊥) → (Rose old.faults new.faults → ⊥) → (Rose old.sink_faults new.sink_faults → ⊥)
    → (end : Ended) → ((fault : LimitFault) → end ≡ ends.Limit fault → IsLimitOf action fault) → IsRunEnd readable source_old source_new old new end → IsCompleteEnd action end
complete-end readable source_old source_new old new action state t holds source disk sink ends.Memory limit cause = tt
complete-end readable source_old source_new old new action state t holds source disk sink ends.Disk limit cause = absurd (disk cause)
complete-end readable source_old source_new old new action state t holds source disk sink ends.Source limit cause = absurd (source cause.0)
complete-end readable source_old source_new old new action state t holds source disk sink ends.Sink limit cause = absurd (sink cause.0)
complete-end readable source_old source_new old new action state t holds source disk sink (ends.Input fault) limit cause = tt
complete-end readable source_old source_new old new action state t holds source disk sink (ends.Limit fault) limit cause = limit fault refl
complete-end readable source_old source_new old new action state t holds source disk sink (ends.Store stores.NotAStore) limit cause = absurd ((cause t).0 state holds)
complete-end readable source_old source_new old new action state t holds source disk sink (ends.Store stores.Version1) limit cause = absurd ((cause t).0 state holds)
complete-end readable source_old source_new old new action state t holds source disk sink (ends.Store (stores.BadJournal at)) limit cause = absurd ((cause t).0 state holds)
complete-end readable source_old source_new old new action state t holds source disk sink (ends.Store (stores.Damaged damage)) limit cause = absurd ((cause t).0 state holds)
complete-end readable source_old source_new old new action state t holds source disk sink ends.Done limit cause = absurd cause
complete-end readable source_old source_new old new action state t holds source disk sink ends.Words limit cause = absurd cause

-- what is said of a disk is said of the one that was given back
pub given-back : {D : Type 0} (P : D → Type 0) (was back : D) → was ≡ back → P was → P back
given-back P was back same holds = subst P same holds
