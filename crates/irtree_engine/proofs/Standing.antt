-- What the pages of a store that is committed stand for.
use Rattle.std.proofs.Common.{◌≡◌, ℕ, Bool, true, false, List, [], ◌∷◌, length, Option, Some, None, IsSome, eq-eqb, ◌||◌, refl, sym, ap, subst, ◌∙◌, arith, nat_lt, ◌==◌}
use Rattle.std.proofs.lemmas.Bool.{ne_eqb, lt-ltb}
use Rattle.std.specs.List.{AllByRecursion}
use Rattle.disk_model.specs.World.{World}
use Rattle.page_journal.specs.Record.{applied}
use Rattle.page_store.specs.declared.superblock.Superblock.{Superblock}
use Rattle.page_store.specs.Contents.{Contents, Overlay, IsCommitted, IsSized, contents_in, contents_of, counted_pages, first_of, page_bytes, page_in, shown}
use Rattle.page_store.proofs.Bytes.{length-page_bytes}
use Rattle.page_store.proofs.Overlays.{cleared_contents}
use Rattle.page_face.specs.FreeList.{PageMap}
use Rattle.page_face.specs.declared.fault.Damage.{Damage}
use Rattle.page_face.specs.declared.fault.PageFault.{PageFault}
use Rattle.page_face.specs.declared.fault.PageFault.TheVariants as pages
use Rattle.btree_nodes.specs.Damages.{AreReadable}
use Rattle.btree_nodes.specs.Supply.{view}
use Rattle.paged_map.specs.Maps.{AreCounted}
use Rattle.spatial_base.specs.Key.{Name}
use Rattle.row_codec.specs.declared.counted.Counted.{Counted}
use Rattle.row_codec.specs.declared.stored.Stored.{Stored}
use Rattle.row_codec.specs.Pairs.{Pair}
use Rattle.row_codec.specs.Stored.{held_pairs}
use Rattle.store_tables.specs.Entries.{word_of_number}
use Rattle.store_tables.specs.Holding.{table_uses}
use Rattle.store_tables.proofs.ToldLemmas.{apart-counted}
use Rattle.store_model.specs.Updates.{has_pair}
use Rattle.store_model.proofs.Places.{known-each}
use Rattle.table_updates.specs.Known.{AreKnown, AreAllKnown}
use Rattle.irtree_engine.specs.declared.fault.EngineFault.TheVariants.{Damaged}
use Rattle.irtree_engine.specs.Faults.{fault_of_pages}
use Rattle.irtree_engine.specs.Queries.{contents_held}
use Rattle.place_values.specs.State as states
use Rattle.store_model.specs.Stands.{PagesStand, PagesStandFor, Stands, tables_in}
use Rattle.store_model.proofs.Images.{area-one}

-- where nothing waits to be committed, the pages stand for what the image stands for
pub committed-stand : (readable : Bool) (world : World) (overlay : Overlay) (current last : Superblock) (end : ℕ) (state : states.Contents) → readable ≡ true → overlay.entries ≡ [] → current ≡ last → IsCommitted last end world → Stands world.seen state
    → PagesStand current (counted_pages current.counted (shown readable (applied world.seen) overlay)) state
committed-stand readable world overlay current last end state told none settled committed stands =
    let area = area-one world.seen stands.holds.area (applied world.seen) stands.holds.stands (committed.ready.journal, refl) in
    let is : stands.contents ≡ contents_of (applied world.seen) overlay last =
    sym stands.holds.holds ∙ ap contents_in area ∙ sym (cleared_contents overlay (applied world.seen) last none committed.head) in
    subst (λ (b : Superblock). PagesStand b (counted_pages b.counted (shown readable (applied world.seen) overlay)) state) (sym settled)
    (subst (λ (b : Bool). PagesStand last (counted_pages last.counted (shown b (applied world.seen) overlay)) state) (sym told)
    (subst (λ (c : Contents). PagesStand c.block c.pages state) is stands.stand))

-- where nothing waits to be committed, page 0's fields as they stand and the pages are what the image holds
pub committed-held : (readable : Bool) (world : World) (overlay : Overlay) (current last : Superblock) (end : ℕ) → readable ≡ true → overlay.entries ≡ [] → current ≡ last → IsCommitted last end world
    → ◌≡◌ {A = Contents} (record { block = current; pages = counted_pages current.counted (shown readable (applied world.seen) overlay) }) (contents_held world.seen)
committed-held readable world overlay current last end told none settled committed =
    ap (λ (b : Superblock). record { block = b; pages = counted_pages b.counted (shown readable (applied world.seen) overlay) }) settled
    ∙ ap (λ (b : Bool). record { block = last; pages = counted_pages last.counted (shown b (applied world.seen) overlay) }) told
    ∙ cleared_contents overlay (applied world.seen) last none committed.head

-- each counted page of a store is told
pub store-told : (readable : Bool) (area : ℕ → ℕ) (overlay : Overlay) (count : ℕ) → readable ≡ true → IsSized overlay → AreReadable (counted_pages count (shown readable area overlay)) count
store-told readable area overlay count told sized n some lt =
    let not_0 : (n == 0) ≡ false = ne_eqb n 0 (λ e. omega arith) in
    let counted : nat_lt n count ≡ true = lt-ltb n count lt in
    let size : length (counted_pages count (shown readable area overlay) n) ≡ 4096 = rw (not_0, counted, told) (long (page_in overlay n) refl) in
    omega (arith, size)
  where
    long : (page : Option (List ℕ)) → page_in overlay n ≡ page → length (first_of (page_in overlay n) (page_bytes area n)) ≡ 4096
    long None is = ap (λ (o : Option (List ℕ)). length (first_of o (page_bytes area n))) is ∙ length-page_bytes area n
    long (Some page) is = ap (λ (o : Option (List ℕ)). length (first_of o (page_bytes area n))) is ∙ sized n page is

-- each page that the tables use is counted
pub stand-counted : {claims : ℕ → ℕ → ℕ} {last : ℕ} {block : Superblock} {pages : PageMap} {state : states.Contents} → (stand : PagesStandFor claims last block pages state) → AreCounted (table_uses pages (tables_in block.head)) block.counted
stand-counted {claims} {last} {block} {pages} stand = apart-counted (view pages block.counted block.first_free stand.tables.free) (tables_in block.head) stand.tables.apart

-- each number of each place has a word
pub stand-known : {block : Superblock} {pages : PageMap} {state : states.Contents} → (stand : PagesStand block pages state) → AreAllKnown stand.entries.numbers stand.entries.places
stand-known {block} stand = all stand.entries.places (known-each stand.entries block.head.next_word stand.tables.sound.words)
  where
    one : (numbers : List (ℕ × Counted)) (pairs : List Pair) → ((n : ℕ) → has_pair n pairs ≡ true → IsSome (word_of_number n numbers)) → AreKnown numbers pairs
    one numbers [] known = tt
    one numbers (p ∷ pairs) known =
        let here : has_pair p.0 (p ∷ pairs) ≡ true = rw (eq-eqb p.0 p.0 refl) refl in
        (known p.0 here, one numbers pairs (λ n among. known n (later n among)))
      where
        later : (n : ℕ) → has_pair n pairs ≡ true → has_pair n (p ∷ pairs) ≡ true
        later n among = either (p.0 == n) among
          where
            either : (b : Bool) → has_pair n pairs ≡ true → (b || has_pair n pairs) ≡ true
            either true among = refl
            either false among = among

    all : (places : List (Name × Stored)) → AllByRecursion (λ (e : Name × Stored). (n : ℕ) → has_pair n (held_pairs e.1) ≡ true → IsSome (word_of_number n stand.entries.numbers)) places → AreAllKnown stand.entries.numbers places
    all [] known = tt
    all (e ∷ places) known = (one stand.entries.numbers (held_pairs e.1) known.0, all places known.1)

-- a fault of the engine that is damage was one of the pages
pub damaged-from : (fault : PageFault) (damage : Damage) → fault_of_pages fault ≡ Damaged damage → fault ≡ pages.Damaged damage
damaged-from pages.Disk damage e = absurd (cc)
damaged-from pages.NoRoom damage e = absurd (cc)
damaged-from pages.Stopped damage e = absurd (cc)
damaged-from pages.Memory damage e = absurd (cc)
damaged-from (pages.Damaged d) damage e = cc
