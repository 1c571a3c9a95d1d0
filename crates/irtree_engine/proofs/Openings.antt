-- What an opening or a checkpoint leaves stands for what stood before it.
use Rattle.std.proofs.Common.{◌≡◌, ℕ, zero, ◌==◌, ◌+◌, ◌<◌, ◌≤◌, ◌^◌, false, List, [], ◌∷◌, slice_index, ⊎_elim, ap, sym, subst, ◌∙◌, arith}
use Rattle.std.proofs.lemmas.Bool.{and_left, cases_lt, ne_eqb}
use Rattle.disk_model.specs.World.{World, Image, LeavesOnly}
use Rattle.disk_model.specs.declared.disk.Area.TheVariants.{Journal}
use Rattle.disk_model.proofs.Moments.{within}
use Rattle.page_journal.specs.Record.{StandsFor, StandsAlike, LeavesPages, IsBad, IsFirstFault, IsJournal, IsRecordAt, applied, batch_at, gate_of, next_gate, record_count}
use Rattle.page_store.specs.Contents.{page_bytes}
use Rattle.page_store.specs.Superblock.{HasMagic, HasMagicOfVersion1, IsStorePage, is_zero}
use Rattle.place_values.specs.State.{Contents}
use Rattle.store_model.specs.Stands.{Stands}
use Rattle.store_model.proofs.Images.{area-one}
use Rattle.irtree_engine.specs.Holding.{HoldsState, IsVersion1, LeavesState, StandsForNone}

-- an image of the same pages stands for the same state
pub alike-stands : (old image : Image) (state : Contents) → ((pages : ℕ → ℕ) → StandsFor old pages → StandsFor image pages) → Stands old state → Stands image state
alike-stands old image state alike stands = record {
  contents = stands.contents;
  holds = record {
    area = stands.holds.area;
    stands = alike stands.holds.area stands.holds.stands;
    holds = stands.holds.holds;
    page = stands.holds.page;
    version1 = stands.holds.version1;
  };
  stand = stands.stand;
}

-- every image of an opening stands for the state before it
pub opening-leaves : (old new : World) (state : Contents) → HoldsState old state → LeavesOnly old new (StandsAlike old) → LeavesOnly old new (LeavesState state old)
opening-leaves old new state holds leaves = within leaves (λ image said alike. (alike-stands old.seen image state alike.0 holds, alike.1))

-- an image of the pages that a disk stands for stands for the disk's state
pub pages-stand : (old image : Image) (state : Contents) → StandsFor image (applied old) → Stands old state → Stands image state
pages-stand old image state are = alike-stands old image state (λ pages stands. (are.0, stands.1 ∙ are.1))

-- and every image of a checkpoint does
pub settling-leaves : (old new : World) (state : Contents) → HoldsState old state → LeavesOnly old new (LeavesPages (applied old.seen) old) → LeavesOnly old new (LeavesState state old)
settling-leaves old new state holds leaves = within leaves (λ image said left. (pages-stand old.seen image state left.0 holds, left.1))

-- a record has no field that breaks its form
no-fault : (journal : ℕ → ℕ) (at fault : ℕ) → IsRecordAt journal at → IsFirstFault journal at fault → ⊥
no-fault journal at fault record_at = ⊎_elim
    (λ count. ⊎_elim
    (λ (none : (batch_at journal at).count ≡ 0). (let some = record_at.some in omega (arith, some, none)))
    (λ (past : 2 ^ 48 ≤ next_gate journal at + 1). (let fits = record_at.fits in omega (arith, fits, past)))
    count.1)
    (λ falls. (let up = record_at.ascending falls.0 falls.1 in let down = falls.5 in omega (arith, up, down)))

-- a bad journal is no journal
pub bad-journal : (image : Image) (at : ℕ) → IsBad image at → IsJournal (image Journal) → ⊥
bad-journal image at bad journal = ⊎_elim
    (λ (before : bad.count < record_count (image Journal)). no-fault (image Journal) (gate_of (image Journal) bad.count) at (journal.records bad.count before) bad.first)
    (λ (behind : record_count (image Journal) ≤ bad.count). ⊎_elim
    (λ (past : record_count (image Journal) < bad.count). (bad.records (record_count (image Journal)) past).open_gate journal.closed)
    (λ (most : bad.count ≤ record_count (image Journal)). bad.open_gate (ap (λ n. image Journal (gate_of (image Journal) n)) (omega (arith, behind, most)) ∙ journal.closed))
    (cases_lt (record_count (image Journal)) bad.count))
    (cases_lt bad.count (record_count (image Journal)))

-- an image of a bad journal stands for nothing
pub bad-none : (image : Image) (at : ℕ) → IsBad image at → StandsForNone image
bad-none image at bad state stands = bad-journal image at bad stands.holds.stands.0

-- a page that begins with the magic of version 1 isn't all zero
pub version1-filled : (page : List ℕ) → HasMagicOfVersion1 page → is_zero page ≡ false
version1-filled [] is = let first : zero ≡ 73 = ap (λ (l : List ℕ). slice_index l 0) is in absurd (omega arith)
version1-filled (byte ∷ page) is =
    let first : byte ≡ 73 = ap (λ (l : List ℕ). slice_index l 0) is in
    and_left (byte == 0) (is_zero page) (ne_eqb byte 0 (λ zeros. omega arith))

-- nor does it begin with the magic
pub version1-other : (page : List ℕ) → HasMagicOfVersion1 page → HasMagic page → ⊥
version1-other page is also = let last : 49 ≡ 50 = ap (λ (l : List ℕ). slice_index l 7) (sym is ∙ also) in absurd (omega (arith, last))

-- an image whose page 0 does stands for nothing
pub version1-none : (image : Image) → IsVersion1 image → StandsForNone image
version1-none image old state stands =
    let same : stands.holds.area ≡ old.area = area-one image stands.holds.area old.area stands.holds.stands old.stands in
    let page : IsStorePage (page_bytes old.area 0) = subst (λ area. IsStorePage (page_bytes area 0)) same (stands.holds.page stands.stand.tables.range) in
    version1-other (page_bytes old.area 0) old.magic (page (version1-filled (page_bytes old.area 0) old.magic)).0
