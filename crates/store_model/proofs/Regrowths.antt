-- The tables and the tree between the two steps of an update, and once the tree follows.
use Rattle.std.proofs.Common.{◌≡◌, ℕ, zero, suc, ◌+◌, ◌<◌, ◌≤◌, List, Option, refl, sym, ap, subst, subst₂, ◌∙◌, arith}
use Rattle.page_face.specs.FreeList.{PageMap}
use Rattle.page_face.specs.declared.head.Head.{Head}
use Rattle.page_store.specs.Superblock.{IsInRange}
use Rattle.page_store.specs.declared.superblock.Superblock.{Superblock}
use Rattle.btree_nodes.specs.Supply.{spare, view}
use Rattle.btree_nodes.specs.Tree.{map_uses}
use Rattle.place_values.specs.State.{Contents}
use Rattle.rtree_nodes.specs.Slots.{Item, got}
use Rattle.rtree_nodes.specs.Stock as stock
use Rattle.rtree_nodes.specs.Stock.{rows_form}
use Rattle.rtree_nodes.specs.Pages.{node_of}
use Rattle.irtree_shape.specs.Made.{nodes_in}
use Rattle.irtree_shape.specs.Whole.{tree_uses}
use Rattle.irtree_shape.specs.Regrown.{IsRegrown}
use Rattle.store_tables.specs.declared.tables.Tables.{Tables}
use Rattle.store_tables.specs.Entries.{Entries}
use Rattle.store_tables.specs.Holding.{Holds, IsApart, IsSameMap, numbers_form, places_form, table_uses, texts_form}
use Rattle.store_tables.proofs.FrameLemmas.{map-frame}
use Rattle.store_model.specs.Stands.{AreSoundFor, PagesStandFor, TablesStandFor, TreeStands, at_number, entry_sum, state_in, tables_in}
use Rattle.store_model.proofs.Trees.{spare-away}

-- page 0's fields are the same but for the tree's roots and the update number
pub record IsRerooted (old new : Head) : Type 0 where
  pub tables : tables_in new ≡ tables_in old
  pub serial : new.serial ≡ old.serial
  pub live : new.live ≡ old.live

-- the tables stand for new entries over this free list, and the tree still for those before
pub record StandsBetween (claims : ℕ → ℕ → ℕ) (last : ℕ) (block : Superblock) (pages : PageMap) (others : ℕ → ℕ) (mine entries : Entries) (free : List ℕ) : Type 0 where
  pub tables : TablesStandFor claims last block pages others entries
  pub free_is : tables.free ≡ free
  pub tree : TreeStands block.head pages mine others

-- page 0's fields and the pages stand for a state by these entries
abbrev pub PagesOver : (ℕ → ℕ → ℕ) → ℕ → Superblock → PageMap → Contents → Entries → Type 0
PagesOver claims last block pages state entries = (stand : PagesStandFor claims last block pages state) × (stand.entries ≡ entries)

module _ {claims : ℕ → ℕ → ℕ} {last : ℕ} (block : Superblock) (pages : PageMap) (others : ℕ → ℕ) (entries mine : Entries) (tables : TablesStandFor claims last block pages others entries) (stands : TreeStands block.head pages mine others) (after : Superblock) (later : PageMap)
    (gone come : Option Item) (regrown : IsRegrown node_of (stock.view pages block.head.rows block.counted block.first_free tables.free) later after.head.rows after.counted after.first_free block.head.tree after.head.tree gone come)
    (last_after : ℕ) (range : IsInRange (at_number last_after after)) (serials : after.head.serial ≤ after.head.number + 1) (rerooted : IsRerooted block.head after.head) where
  -- a page of a table is neither the tree's nor spare: it stays
  table-stays : (n : ℕ) → 0 < table_uses pages (tables_in block.head) n → later n ≡ pages n
  table-stays zero used = let away = tables.apart.away in absurd (omega (arith, used, away))
  table-stays (suc m) used =
      let one = tables.every (suc m) (omega arith) in
      let uses = stands.uses_are (suc m) in
      (regrown.moves.others (suc m) (omega (arith, used, one, uses)) (omega (arith, used, one, uses))).page

  -- so the place table is the same map
  places-same : IsSameMap places_form pages later block.head.places
  places-same = map-frame places_form pages later block.head.places tables.holds.places.tree (λ n used. table-stays n (omega (arith, used)))

  -- the words by text are
  texts-same : IsSameMap texts_form pages later block.head.texts
  texts-same = map-frame texts_form pages later block.head.texts tables.holds.texts.tree (λ n used. table-stays n (omega (arith, used)))

  -- and the words by number
  numbers-same : IsSameMap numbers_form pages later block.head.numbers
  numbers-same = map-frame numbers_form pages later block.head.numbers tables.holds.numbers.tree (λ n used. table-stays n (omega (arith, used)))

  -- the tables hold what they held
  holds-later : Holds later (tables_in block.head) entries
  holds-later = record {
    places = record { tree = places-same.tree; rows = places-same.rows ∙ tables.holds.places.rows; each = tables.holds.places.each };
    texts = record { tree = texts-same.tree; rows = texts-same.rows ∙ tables.holds.texts.rows; each = tables.holds.texts.each };
    numbers = record { tree = numbers-same.tree; rows = numbers-same.rows ∙ tables.holds.numbers.rows; each = tables.holds.numbers.each };
  }

  -- on the same pages
  uses-later : (n : ℕ) → table_uses later (tables_in block.head) n ≡ table_uses pages (tables_in block.head) n
  uses-later n = omega (arith, places-same.uses n, texts-same.uses n, numbers-same.uses n)

  -- which pages the tree and its rows use then
  abbrev others_later : ℕ → ℕ
  others_later n = tree_uses (nodes_in node_of later after.head.rows) after.head.tree n + map_uses rows_form later after.head.rows n

  -- what these and the free list have together is the same
  kept-later : (n : ℕ) → others_later n + spare regrown.free after.counted n ≡ others n + spare tables.free block.counted n
  kept-later n =
      let kept = regrown.moves.kept n in
      let uses = stands.uses_are n in
      omega (arith, kept, uses)

  -- no page of a table is spare now
  once-later : (n : ℕ) → table_uses later (tables_in block.head) n + spare regrown.free after.counted n ≤ 1
  once-later zero =
      let none = tables.apart.away in
      let away = tables.away in
      omega (arith, none, away, uses-later 0, kept-later 0, spare-away block pages others entries tables)
  once-later (suc m) = let one = tables.every (suc m) (omega arith) in omega (arith, one, uses-later (suc m), kept-later (suc m))

  -- and the free list ends at 0
  apart-later : IsApart (view later after.counted after.first_free regrown.free) (tables_in block.head)
  apart-later = record {
    supplied = regrown.whole.supplied.rows.kept.supplied;
    once = once-later;
    away = uses-later 0 ∙ tables.apart.away;
    some = range.counted;
  }

  -- the tables stand for the entries beside the pages of the new tree and its rows
  tables-later : TablesStandFor claims last_after after later others_later entries
  tables-later = record {
    range = range;
    serials = serials;
    free = regrown.free;
    holds = subst (λ (ts : Tables). Holds later ts entries) (sym rerooted.tables) holds-later;
    apart = subst (IsApart (view later after.counted after.first_free regrown.free)) (sym rerooted.tables) apart-later;
    every = λ n some. (let one = tables.every n some in
        let uses : table_uses later (tables_in after.head) n ≡ table_uses later (tables_in block.head) n = ap (λ (ts : Tables). table_uses later ts n) rerooted.tables in
        omega (arith, one, uses, uses-later n, kept-later n));
    away = (let tree = regrown.whole.away in let rows = regrown.whole.supplied.rows.kept.away in omega (arith, tree, rows));
    sound = subst₂ (λ n m. AreSoundFor claims entries n m) (ap (λ (ts : Tables). ts.next_word) (sym rerooted.tables)) (sym rerooted.serial) tables.sound;
    live = rerooted.live ∙ tables.live;
  }

  -- Where the tables stand for new entries and the tree for those before, and an update of the tree makes up for the difference, the pages stand for the state of the new entries.
  pub stand-regrown : ((f : Item → ℕ) → entry_sum f entries.places + got f gone ≡ entry_sum f mine.places + got f come) → PagesOver claims last_after after later (state_in entries after.head.serial after.head.number) entries
  stand-regrown sums = (
    record {
      entries = entries;
      others = others_later;
      tables = tables-later;
      tree = record {
        tree = regrown.whole.tree;
        entries_are = λ f. (let sum = regrown.sum_is f in let before = stands.entries_are f in omega (arith, sum, before, sums f));
        map = regrown.whole.supplied.rows.kept.map;
        filled = regrown.whole.supplied.rows.filled;
        blank = regrown.whole.blank;
        named = regrown.whole.named;
        uses_are = λ n. refl;
      };
      is = refl;
    },
    refl,
  )

module _ {claims : ℕ → ℕ → ℕ} {last : ℕ} (block : Superblock) (pages : PageMap) (others : ℕ → ℕ) (mine entries : Entries) (free : List ℕ) (between : StandsBetween claims last block pages others mine entries free) where
  -- once the tree follows, the pages stand for the state of the new entries
  pub between-regrown : (after : Superblock) (later : PageMap) (gone come : Option Item)
      → IsRegrown node_of (stock.view pages block.head.rows block.counted block.first_free free) later after.head.rows after.counted after.first_free block.head.tree after.head.tree gone come → (last_after : ℕ) → IsInRange (at_number last_after after) → after.head.serial ≤ after.head.number + 1 → IsRerooted block.head after.head
      → ((f : Item → ℕ) → entry_sum f entries.places + got f gone ≡ entry_sum f mine.places + got f come) → PagesOver claims last_after after later (state_in entries after.head.serial after.head.number) entries
  between-regrown after later gone come regrown last_after range serials rerooted sums =
      stand-regrown block pages others entries mine between.tables between.tree after later gone come
      (subst (λ (fs : List ℕ). IsRegrown node_of (stock.view pages block.head.rows block.counted block.first_free fs) later after.head.rows after.counted after.first_free block.head.tree after.head.tree gone come) (sym between.free_is) regrown)
      last_after range serials rerooted sums
