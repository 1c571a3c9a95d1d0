-- The tables beside the map of version 1: while one of them changes, the other stays.
use Rattle.std.proofs.Common.{◌≡◌, ℕ, zero, suc, ◌+◌, ◌<◌, ◌≤◌, List, length, All, refl, sym, subst, ◌∙◌, arith}
use Rattle.spatial_base.specs.Key.{Name}
use Rattle.page_face.specs.FreeList.{PageMap}
use Rattle.page_store.specs.Superblock.{IsInRange}
use Rattle.page_store.specs.declared.superblock.Superblock.{Superblock}
use Rattle.btree_nodes.specs.Rows.{Row}
use Rattle.btree_nodes.specs.Supply.{View, spare_in, view}
use Rattle.paged_map.specs.Maps.{AreCounted, HasBecome, IsKept}
use Rattle.paged_map.proofs.Maps.{kept-counted}
use Rattle.place_values.specs.State.{IsSerialAbove}
use Rattle.row_codec.specs.declared.stored.Stored.{Stored}
use Rattle.store_tables.specs.Entries.{Entries}
use Rattle.store_tables.specs.Holding.{IsChanged, IsSameMap, numbers_form, places_form, table_uses, texts_form}
use Rattle.store_tables.proofs.FrameLemmas.{map-frame}
use Rattle.store_model.specs.Stands.{AreSoundFor, TablesStandFor, at_number, tables_in}
use Rattle.store_model.proofs.Tables.{ArePagesKept, TablesOver, tables-changed}
use Rattle.store_model.proofs.Trees.{tree-kept}
use Rattle.table_updates.specs.Carrying.{StandBeside, block_of}
use Rattle.table_updates.specs.Version1.{HoldsPlacesVersion1, claims_of, places_form_version1, version1_uses, with_places}
use Rattle.table_updates.proofs.Roots.{root-counted}

module _ (block : Superblock) (pages : PageMap) (others : ℕ → ℕ) (entries : Entries) (root : ℕ) (carried rest : List (Name × Stored)) (stand : StandBeside block pages others entries root carried rest) where
  -- page 0's fields that stand for what was carried over
  abbrev now : Superblock
  now = with_places block.head.places (length carried) block

  -- what a map sees of the pages
  abbrev before : View
  before = view pages block.counted block.first_free stand.tables.free

  -- no page is of two of the tables, the tree with its rows, the map of version 1, and those that can be taken
  once : (n : ℕ) → table_uses pages (tables_in block.head) n + (others n + version1_uses pages root n) + spare_in before n ≤ 1
  once zero =
      let away : others 0 + version1_uses pages root 0 ≡ 0 = stand.tables.away in
      let one : table_uses pages (tables_in block.head) 0 + spare_in before 0 ≤ 1 = stand.tables.apart.once 0 in
      omega (arith, away, one)
  once (suc m) =
      let one : table_uses pages (tables_in block.head) (suc m) + (others (suc m) + version1_uses pages root (suc m)) + spare_in before (suc m) ≡ 1 = stand.tables.every (suc m) (omega arith) in
      omega (arith, one)

  -- the map of version 1 is kept
  pub version1-kept : IsKept places_form_version1 before root
  version1-kept = record {
    map = stand.places.tree;
    supplied = stand.tables.apart.supplied;
    once = λ n. (let one = once n in omega (arith, one));
    away = (let away : others 0 + version1_uses pages root 0 ≡ 0 = stand.tables.away in omega (arith, away));
    some = stand.tables.apart.some;
  }

  -- and each of its pages is counted
  pub version1-counted : AreCounted (version1_uses pages root) block.counted
  version1-counted = kept-counted places_form_version1 before root version1-kept

  -- ---- more places are carried over

  module _ (after : PageMap) (count first root' : ℕ) (more : List (Name × Stored)) (changed : IsChanged before (tables_in block.head) after count first (tables_in (record block.head { places = root' })) (record entries { places = more })) (later : block.counted ≤ count) (linked : first < count)
      (serials : All (λ (e : Name × Stored). IsSerialAbove block.head.serial e.0) more) where
    -- page 0's fields then
    abbrev then : Superblock
    then = block_of count first (record block.head { places = root' })

    in_range : IsInRange (at_number block.head.number (with_places root' (length more) then))
    in_range = record {
      version = refl;
      counted = changed.apart.some;
      first_free = linked;
      places = (let one = changed.apart.once root' in root-counted places_form after root' count changed.free changed.apart.some (omega (arith, one)));
      texts = (let was = stand.tables.range.texts in omega (arith, was, later));
      numbers = (let was = stand.tables.range.numbers in omega (arith, was, later));
      rows = (let was = stand.tables.range.rows in omega (arith, was, later));
      tree = (let was = stand.tables.range.tree in omega (arith, was, later));
      serial = stand.tables.range.serial;
      serials = stand.tables.range.serials;
      number = stand.tables.range.number;
      next_word = stand.tables.range.next_word;
      words = stand.tables.range.words;
    }

    sound : AreSoundFor (claims_of entries.places) (record entries { places = more }) block.head.next_word block.head.serial
    sound = record { words = stand.tables.sound.words; serials = serials }

    -- the tables stand beside the same pages of others, which stayed
    beside : TablesOver (claims_of entries.places) block.head.number (with_places root' (length more) then) after (λ n. others n + version1_uses pages root n) (record entries { places = more }) changed.free × ArePagesKept (λ n. others n + version1_uses pages root n) pages after
    beside = tables-changed now pages (λ n. others n + version1_uses pages root n) (record entries { places = carried }) stand.tables (with_places root' (length more) then) after (record entries { places = more }) changed (claims_of entries.places) block.head.number
        in_range stand.tables.serials sound refl

    -- so the map of version 1 is the same
    same : IsSameMap places_form_version1 pages after root
    same = map-frame places_form_version1 pages after root stand.places.tree (λ n used. beside.1 n (omega (arith, used)))

    pub beside-put : StandBeside then after others entries root more rest
    beside-put = record {
      places = record { tree = same.tree; rows = same.rows ∙ stand.places.rows; each = stand.places.each };
      tables = subst (λ (f : ℕ → ℕ). TablesStandFor (claims_of entries.places) block.head.number (with_places root' (length more) then) after f (record entries { places = more })) (λ i n. others n + sym (same.uses n) i) beside.0.0;
      tree = tree-kept block.head then.head pages after entries others stand.tree refl refl (λ n used. beside.1 n (omega (arith, used)));
    }

  -- ---- a row of version 1 is taken out

  module _ (after : PageMap) (count first root' : ℕ) (left : List (Name × Stored)) (rows : List Row) (gone : HasBecome places_form_version1 before after count first root root' rows) (holds : HoldsPlacesVersion1 after root' left) (level : count ≡ block.counted) (linked : first < count) where
    -- each page of the tables stayed, and so did each of the tree and its rows
    stayed : (n : ℕ) → 0 < table_uses pages (tables_in block.head) n + others n → after n ≡ pages n
    stayed n used = let one = once n in gone.moves.others n (omega (arith, one, used)) (omega (arith, one, used))

    places-same : IsSameMap places_form pages after block.head.places
    places-same = map-frame places_form pages after block.head.places stand.tables.holds.places.tree (λ n used. stayed n (omega (arith, used)))

    texts-same : IsSameMap texts_form pages after block.head.texts
    texts-same = map-frame texts_form pages after block.head.texts stand.tables.holds.texts.tree (λ n used. stayed n (omega (arith, used)))

    numbers-same : IsSameMap numbers_form pages after block.head.numbers
    numbers-same = map-frame numbers_form pages after block.head.numbers stand.tables.holds.numbers.tree (λ n used. stayed n (omega (arith, used)))

    -- the tables use the same pages
    uses-same : (n : ℕ) → table_uses after (tables_in block.head) n ≡ table_uses pages (tables_in block.head) n
    uses-same n = let places = places-same.uses n in let texts = texts-same.uses n in let numbers = numbers-same.uses n in omega (arith, places, texts, numbers)

    pub beside-remove : StandBeside (block_of count first block.head) after others entries root' carried left
    beside-remove = record {
      places = holds;
      tables = record {
        range = record {
          version = refl;
          counted = gone.kept.some;
          first_free = linked;
          places = (let was = stand.tables.range.places in omega (arith, was, level));
          texts = (let was = stand.tables.range.texts in omega (arith, was, level));
          numbers = (let was = stand.tables.range.numbers in omega (arith, was, level));
          rows = (let was = stand.tables.range.rows in omega (arith, was, level));
          tree = (let was = stand.tables.range.tree in omega (arith, was, level));
          serial = stand.tables.range.serial;
          serials = stand.tables.range.serials;
          number = stand.tables.range.number;
          next_word = stand.tables.range.next_word;
          words = stand.tables.range.words;
        };
        serials = stand.tables.serials;
        free = gone.free;
        holds = record {
          places = record { tree = places-same.tree; rows = places-same.rows ∙ stand.tables.holds.places.rows; each = stand.tables.holds.places.each };
          texts = record { tree = texts-same.tree; rows = texts-same.rows ∙ stand.tables.holds.texts.rows; each = stand.tables.holds.texts.each };
          numbers = record { tree = numbers-same.tree; rows = numbers-same.rows ∙ stand.tables.holds.numbers.rows; each = stand.tables.holds.numbers.each };
        };
        apart = record {
          supplied = gone.kept.supplied;
          once = λ n. (let one = once n in let kept = gone.moves.kept n in let same = uses-same n in omega (arith, one, kept, same));
          away = (let away = stand.tables.apart.away in let same = uses-same 0 in omega (arith, away, same));
          some = gone.kept.some;
        };
        every = λ n some. (let one = stand.tables.every n some in let kept = gone.moves.kept n in let same = uses-same n in omega (arith, one, kept, same));
        away = (let away = stand.tables.away in let own = gone.kept.away in omega (arith, away, own));
        sound = stand.tables.sound;
        live = refl;
      };
      tree = tree-kept block.head block.head pages after entries others stand.tree refl refl (λ n used. stayed n (omega (arith, used)));
    }
