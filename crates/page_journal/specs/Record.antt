-- Records of pages in the journal, one behind the other, and which pages an image stands for.
use Rattle.std.specs.Prelude.{◌≡◌, ◌≢◌, ◌⊎◌, ℕ, zero, suc, ◌+◌, ◌*◌, ◌/◌, ◌%◌, ◌^◌, ◌<◌, ◌≤◌, ◌==◌, if◌then◌else◌, List, [], ◌∷◌, ◌++◌, length, slice_index, map, Option, Some, None, Box, get_or, Result, Err, IsErrOf}
use Rattle.std.specs.Int.{w32, from_be_bytes, to_be_bytes}
use Rattle.std.specs.List.{AllByRecursion, flat_map}
use Rattle.std.specs.declared.alloc.Global.{Global}
use Rattle.disk_model.specs.World.{World, Image, LeavesOnly, LeavesOnlySeen, Rose, ReadsJournalOnly, AgreeAt}
use Rattle.disk_model.specs.declared.disk.Area.{Area}
use Rattle.page_journal.specs.declared.fault.JournalFault.{JournalFault}
use Rattle.page_journal.specs.declared.fault.JournalFault.TheVariants.{Disk}
use Rattle.disk_model.specs.declared.disk.Area.TheVariants.{Pages, Journal}

-- ---- batches of pages

-- so many pages, each with its number and its bytes
pub record Batch : Type 0 where
  pub count : ℕ
  pub number : ℕ → ℕ
  pub byte : ℕ → ℕ → ℕ

-- the pages of a map's entries
abbrev pub given : List (ℕ × Box (List ℕ) Global) → List (ℕ × List ℕ)
given entries = map (λ e. (e.0, e.1.value)) entries

-- the pages of the entries that have one
abbrev pub kept : List (ℕ × Option (Box (List ℕ) Global)) → List (ℕ × List ℕ)
kept [] = []
kept ((number, Some page) ∷ entries) = (number, page.value) ∷ kept entries
kept ((number, None) ∷ entries) = kept entries

-- the batch of a list of pages
abbrev pub batch_of : List (ℕ × List ℕ) → Batch
batch_of pages = record { count = length pages; number = λ k. (get_or pages k (0, [])).0; byte = λ k i. slice_index (get_or pages k (0, [])).1 i }

-- each page of the batch is numbered above the one before it
abbrev pub IsAscending : Batch → Type 0
IsAscending batch = (k : ℕ) → k + 1 < batch.count → batch.number k < batch.number (k + 1)

-- pages with the first n of a batch written, in order
unfoldable pub written_up_to : Batch → ℕ → (ℕ → ℕ) → ℕ → ℕ
written_up_to batch zero pages i = pages i
written_up_to batch (suc n) pages i = if i / 4096 == batch.number n then batch.byte n (i % 4096) else written_up_to batch n pages i

-- pages with all of a batch written
abbrev pub with_batch : Batch → (ℕ → ℕ) → ℕ → ℕ
with_batch batch pages = written_up_to batch batch.count pages

-- ---- records

-- the number that four bytes spell
abbrev pub word : (ℕ → ℕ) → ℕ → ℕ
word area at = from_be_bytes w32 (area at ∷ area (at + 1) ∷ area (at + 2) ∷ area (at + 3) ∷ [])

-- the pages of the record whose gate stands here
abbrev pub batch_at : (ℕ → ℕ) → ℕ → Batch
batch_at journal at = record { count = word journal (at + 1); number = λ k. word journal (at + 5 + 4100 * k); byte = λ k i. journal (at + 9 + 4100 * k + i) }

-- where the gate behind that record stands
abbrev pub next_gate : (ℕ → ℕ) → ℕ → ℕ
next_gate journal at = at + 5 + 4100 * (batch_at journal at).count

-- Here an open gate stands before a record: it has pages, their numbers ascend, and the next gate stands below 2^48 - 1.
pub record IsRecordAt (journal : ℕ → ℕ) (at : ℕ) : Type 0 where
  pub open_gate : journal at ≢ 0
  pub some : 0 < (batch_at journal at).count
  pub fits : next_gate journal at + 1 < 2 ^ 48
  pub ascending : IsAscending (batch_at journal at)

-- where the n-th gate stands; the first is the 0-th
unfoldable pub gate_of : (ℕ → ℕ) → ℕ → ℕ
gate_of journal zero = 0
gate_of journal (suc n) = next_gate journal (gate_of journal n)

-- pages with the first n records of a journal written, in order
unfoldable pub with_records : (ℕ → ℕ) → ℕ → (ℕ → ℕ) → ℕ → ℕ
with_records journal zero pages = pages
with_records journal (suc n) pages = with_batch (batch_at journal (gate_of journal n)) (with_records journal n pages)

-- the number of the first closed gate from the n-th on, of so many that are looked at
unfoldable pub first_closed : ℕ → (ℕ → ℕ) → ℕ → ℕ
first_closed zero journal n = n
first_closed (suc more) journal n = if journal (gate_of journal n) == 0 then n else first_closed more journal (suc n)

-- How many records stand before the first closed gate. No gate stands past 2^48, so no more have to be looked at.
unfoldable pub record_count : (ℕ → ℕ) → ℕ
record_count journal = first_closed (2 ^ 48) journal 0

-- where the first closed gate stands
abbrev pub journal_end : (ℕ → ℕ) → ℕ
journal_end journal = gate_of journal (record_count journal)

-- Before the first closed gate stand records alone.
pub record IsJournal (journal : ℕ → ℕ) : Type 0 where
  pub records : (k : ℕ) → k < record_count journal → IsRecordAt journal (gate_of journal k)
  pub closed : journal (journal_end journal) ≡ 0

-- So many records stand one behind the other, and then a closed gate.
pub record HasRecords (journal : ℕ → ℕ) (n : ℕ) : Type 0 where
  pub records : (k : ℕ) → k < n → IsRecordAt journal (gate_of journal k)
  pub closed : journal (gate_of journal n) ≡ 0

-- ---- what an image stands for

-- the pages of an image with its journal applied: the records before the first closed gate are written, in order
unfoldable pub applied : Image → ℕ → ℕ
applied image = with_records (image Journal) (record_count (image Journal)) (image Pages)

-- The journal is right, and with it applied these are the pages.
abbrev pub StandsFor : Image → (ℕ → ℕ) → Type 0
StandsFor image pages = IsJournal (image Journal) × (pages ≡ applied image)

-- The image stands for these pages, and nothing was said.
abbrev pub LeavesPages : (ℕ → ℕ) → World → Image → List ℕ → Type 0
LeavesPages pages old image said = StandsFor image pages × (said ≡ old.said)

-- The image stands for the pages as they were, or with the batch written. Nothing was said.
abbrev pub IsBeforeOrAfter : Batch → World → Image → List ℕ → Type 0
IsBeforeOrAfter batch old image said = (StandsFor image (applied old.seen) ⊎ StandsFor image (with_batch batch (applied old.seen))) × (said ≡ old.said)

-- The image stands for whatever the other stands for. Nothing was said.
abbrev pub StandsAlike : World → Image → List ℕ → Type 0
StandsAlike old image said = ((pages : ℕ → ℕ) → StandsFor old.seen pages → StandsFor image pages) × (said ≡ old.said)

-- Nothing is pending, the journal is right, and its first closed gate stands here.
pub record IsReady (at : ℕ) (world : World) : Type 0 where
  pub safe : LeavesOnlySeen world
  pub journal : IsJournal (world.seen Journal)
  pub end : journal_end (world.seen Journal) ≡ at

-- The journal's records write this page whole: what stood there before them doesn't matter.
abbrev pub IsOverwritten : (ℕ → ℕ) → ℕ → Type 0
IsOverwritten journal number =
    (p q : ℕ → ℕ) (i : ℕ) → i / 4096 ≡ number → with_records journal (record_count journal) p i ≡ with_records journal (record_count journal) q i

-- The records of the new journal write whole each page that those of the old one do, and those of the batch.
pub record OverwritesAlso (batch : Batch) (old new : Image) : Type 0 where
  pub still : (number : ℕ) → IsOverwritten (old Journal) number → IsOverwritten (new Journal) number
  pub also : (k : ℕ) → k < batch.count → IsOverwritten (new Journal) (batch.number k)

-- The batch holds the last image of each page that the records write: with it written, the pages are those with the journal applied.
pub record AreLastImages (batch : Batch) (image : Image) : Type 0 where
  pub ascending : IsAscending batch
  pub are : applied image ≡ with_batch batch (image Pages)
  pub each : (k : ℕ) → k < batch.count → IsOverwritten (image Journal) (batch.number k)

-- ---- the bytes of a record

-- a page's entry in a record
abbrev pub entry_bytes : ℕ × List ℕ → List ℕ
entry_bytes page = to_be_bytes w32 page.0 ++ page.1

-- A record behind its gate: the number of pages, their entries, and the next gate, which is closed.
abbrev pub record_bytes : List (ℕ × List ℕ) → List ℕ
record_bytes pages = to_be_bytes w32 (length pages) ++ (flat_map entry_bytes pages ++ 0 ∷ [])

-- The bytes are the record of these pages: at least one, numbered by a u32 each in ascending order, of 4,096 bytes each.
pub record IsRecordOf (pages : List (ℕ × List ℕ)) (bytes : List ℕ) : Type 0 where
  pub some : 0 < length pages
  pub few : length pages < 2 ^ 32
  pub ascending : IsAscending (batch_of pages)
  pub each : AllByRecursion (λ (p : ℕ × List ℕ). (p.0 < 2 ^ 32) × (length p.1 ≡ 4096)) pages
  pub are : bytes ≡ record_bytes pages

-- ---- bad journals

-- The first field of the record whose gate stands here that breaks its form begins at this byte: its number of pages, which is 0 or so
-- great that the next gate would not stand below 2^48 - 1, or a page's number that isn't above the one before.
abbrev pub IsFirstFault : (ℕ → ℕ) → ℕ → ℕ → Type 0
IsFirstFault journal at fault =
    ((fault ≡ at + 1) × (((batch_at journal at).count ≡ 0) ⊎ (2 ^ 48 ≤ next_gate journal at + 1)))
    ⊎ ((k : ℕ) × (k + 1 < (batch_at journal at).count) × (next_gate journal at + 1 < 2 ^ 48) × (fault ≡ at + 5 + 4100 * (k + 1))
    × ((j : ℕ) → j < k → (batch_at journal at).number j < (batch_at journal at).number (j + 1)) × ((batch_at journal at).number (k + 1) ≤ (batch_at journal at).number k))

-- The record whose gate stands here has pages, and the next gate stands below 2^48 - 1.
pub record Fits (journal : ℕ → ℕ) (at : ℕ) : Type 0 where
  pub some : 0 < (batch_at journal at).count
  pub fits : next_gate journal at + 1 < 2 ^ 48

-- Some records stand one behind the other, and behind them an open gate before bytes that are no record, whose first fault is at this byte.
pub record IsBad (image : Image) (fault : ℕ) : Type 0 where
  pub count : ℕ
  pub records : (k : ℕ) → k < count → IsRecordAt (image Journal) (gate_of (image Journal) k)
  pub open_gate : image Journal (gate_of (image Journal) count) ≢ 0
  pub first : IsFirstFault (image Journal) (gate_of (image Journal) count) fault

-- ---- calls

-- nothing was said, and no page read
pub record SaysNothing (old new : World) : Type 0 where
  pub said : new.said ≡ old.said
  pub reads : ReadsJournalOnly old new

-- Disk comes just where the disk's count rose, or stands at its last value, and no count falls
pub record HasJournalCause {T : Type 0} (old new : World) (result : Result T JournalFault) : Type 0 where
  pub later : old.faults ≤ new.faults
  pub sink : new.sink_faults ≡ old.sink_faults
  pub rose : IsErrOf result Disk → Rose old.faults new.faults
  pub stays : result ≢ Err Disk → new.faults ≡ old.faults

-- ---- places that a step of a call leaves alone

-- all places but those behind a gate of the journal
abbrev pub AllBehindGate : ℕ → Area → ℕ → Type 0
AllBehindGate at area i = area ≡ Journal → i ≤ at

-- all places but a gate
abbrev pub AllButGate : ℕ → Area → ℕ → Type 0
AllButGate at area i = area ≡ Journal → i ≢ at

-- all places but the batch's pages
abbrev pub AllButPages : Batch → Area → ℕ → Type 0
AllButPages batch area i = area ≡ Pages → (k : ℕ) → k < batch.count → i / 4096 ≢ batch.number k

-- all places but the pages that the first n records write
abbrev pub AllButRecords : (ℕ → ℕ) → ℕ → Area → ℕ → Type 0
AllButRecords journal n area i = area ≡ Pages → (m : ℕ) → m < n → AllButPages (batch_at journal (gate_of journal m)) area i

-- the image is one of these, but for places outside of K
pub record ComesFrom (K : Area → ℕ → Type 0) (may_leave : Image → Type 0) (new : Image) : Type 0 where
  pub old : Image
  pub may : may_leave old
  pub same : AgreeAt K old new

-- From old to new no place of K was written, whatever was pending before. Nothing was said, and only the journal was read.
pub record Spares (K : Area → ℕ → Type 0) (old new : World) : Type 0 where
  pub seen : AgreeAt K old.seen new.seen
  pub may : (image : Image) → new.may_leave image → ComesFrom K old.may_leave image
  pub adds : LeavesOnly old new (λ image said. ComesFrom K old.may_leave image × (said ≡ old.said))
  pub said : new.said ≡ old.said
  pub reads : ReadsJournalOnly old new
