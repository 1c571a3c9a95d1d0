-- How carrying over begins, goes on and ends.
use Rattle.std.proofs.Common.{◌≡◌, ℕ, ◌+◌, ◌<◌, ◌≤◌, eq-eqb, cond, Bool, List, [], ◌∷◌, ◌++◌, length, map, All, Some, None, refl, sym, ap, subst, ◌∙◌, append-nil, arith}
use Rattle.std.proofs.lemmas.List.{append_assoc, map-append}
use Rattle.std.proofs.lemmas.List.Elements.{All-head, All-tail}
use Rattle.spatial_base.specs.Key.{Name, IsName}
use Rattle.page_face.specs.FreeList.{PageMap}
use Rattle.page_face.specs.declared.head.Head.{Head}
use Rattle.page_face.specs.declared.head.Version.TheVariants.{Two}
use Rattle.page_store.specs.declared.superblock.Superblock.{Superblock}
use Rattle.btree_nodes.specs.Rows.{IsWithin, Row, without}
use Rattle.btree_nodes.specs.Supply.{View, view}
use Rattle.btree_nodes.specs.Tree.{map_rows}
use Rattle.paged_map.specs.Maps.{HasBecome}
use Rattle.place_values.specs.State.{Contents, IsSerialAbove}
use Rattle.row_codec.specs.declared.stored.Stored.{Stored}
use Rattle.store_tables.specs.Coded.{IsEntryOf, key_code, place_row, row_by}
use Rattle.store_tables.specs.Entries.{Entries, place_after, with_place}
use Rattle.store_tables.specs.Holding.{HoldsPlaces, IsChanged}
use Rattle.store_tables.specs.declared.tables.Tables.{Tables}
use Rattle.store_model.specs.Stands.{PagesStand, TablesStandFor, state_in, tables_in}
use Rattle.store_model.proofs.Trees.{roots-same}
use Rattle.table_updates.specs.Carrying.{StandBeside, StandBetween, block_of}
use Rattle.table_updates.specs.Version1.{HoldsPlacesVersion1, IsPlaceVersion1, PagesStandVersion1, claims_of, places_form_version1, value_of_version1, version1_uses, with_places}
use Rattle.table_updates.proofs.Beside.{beside-put, beside-remove}
use Rattle.table_updates.proofs.Orders.{All-front, with_place-behind, within-behind}
use Rattle.table_updates.proofs.Roots.{root-none, rows-within}

-- ---- the beginning

-- where the pages stand for a state in version 1, no place was carried over yet
pub between-begun : (count first : ℕ) (head : Head) (pages : PageMap) (state : Contents) → (stand : PagesStandVersion1 (block_of count first head) pages state)
    → StandBetween (block_of count first (record head { version = Two; places = 0 })) pages stand.others stand.entries head.places head.live
between-begun count first head pages state stand =
    let within = rows-within places_form_version1 pages head.places stand.places.tree in
    record {
      carried = [];
      rest = stand.entries.places;
      all = refl;
      left_are = sym stand.live;
      stand = record {
        places = stand.places;
        tables = stand.tables;
        tree = roots-same head (record head { version = Two; places = 0 }) pages stand.entries stand.others stand.tree refl refl;
      };
      middle = 0;
      high = within.0;
      below = omega arith;
      above = subst (IsWithin 0 within.0) stand.places.rows within.1;
      serials = stand.serials;
    }

-- ---- a step

-- the first of some places, and those behind it
pub first-some : (places : List (Name × Stored)) (e : Name × Stored) → place_after None places ≡ Some e → (behind : List (Name × Stored)) × (places ≡ e ∷ behind)
first-some [] e is = absurd (cc is)
first-some (d ∷ places) e is = (places, (let same : d ≡ e = cc is in λ i. same i ∷ places))

-- where there is no first one there is none
pub first-none : (places : List (Name × Stored)) → place_after None places ≡ None → length places ≡ 0
first-none [] is = refl
first-none (d ∷ places) is = absurd (cc is)

-- the rows without the first one
without-first : (row : Row) (rows : List Row) → without row.0 (row ∷ rows) ≡ rows
without-first row rows = ap (λ (b : Bool). cond b rows (row ∷ without row.0 rows)) (eq-eqb row.0 row.0 refl)

module _ (block : Superblock) (pages : PageMap) (others : ℕ → ℕ) (entries : Entries) (root left : ℕ) (between : StandBetween block pages others entries root (left + 1)) (first : Name × Stored) (behind : List (Name × Stored)) (is : between.rest ≡ first ∷ behind) where
  -- the places that are carried over then
  abbrev more : List (Name × Stored)
  more = between.carried ++ first ∷ []

  -- the map of version 1 holds the first place and those behind it
  holds-first : HoldsPlacesVersion1 pages root (first ∷ behind)
  holds-first = subst (HoldsPlacesVersion1 pages root) is between.stand.places

  formed : IsEntryOf IsName IsPlaceVersion1 first
  formed = All-head (IsEntryOf IsName IsPlaceVersion1) first behind holds-first.each

  -- its key is behind those that were carried over
  above : IsWithin between.middle between.high (map (row_by key_code value_of_version1) (first ∷ behind))
  above = subst (λ (places : List (Name × Stored)). IsWithin between.middle between.high (map (row_by key_code value_of_version1) places)) is between.above

  all : more ++ behind ≡ entries.places
  all = append_assoc between.carried (first ∷ []) behind ∙ ap (λ (places : List (Name × Stored)). between.carried ++ places) (sym is) ∙ between.all

  -- so it is put behind them
  pub with_place-next : with_place first.0 first.1 between.carried ≡ more
  with_place-next = with_place-behind first.0 first.1 between.carried 0 between.middle formed.0 between.stand.tables.holds.places.each between.below above.0

  -- the first place was put beside the map of version 1
  pub between-put : (after : PageMap) (count next : ℕ) (tables : Tables) → tables ≡ record (tables_in block.head) { places = tables.places }
      → IsChanged (view pages block.counted block.first_free between.stand.tables.free) (tables_in block.head) after count next tables (record entries { places = with_place first.0 first.1 between.carried })
      → block.counted ≤ count → next < count → StandBeside (block_of count next (record block.head { places = tables.places })) after others entries root more (first ∷ behind)
  between-put after count next tables own changed later linked =
      let was : View = view pages block.counted block.first_free between.stand.tables.free in
      let now : Entries = record entries { places = more } in
      beside-put block pages others entries root between.carried (first ∷ behind) (record { places = holds-first; tables = between.stand.tables; tree = between.stand.tree }) after count next tables.places more
      (subst (λ (t : Tables). IsChanged was (tables_in block.head) after count next t now) own
      (subst (λ (places : List (Name × Stored)). IsChanged was (tables_in block.head) after count next tables (record entries { places = places })) with_place-next changed))
      later linked (All-front (λ (e : Name × Stored). IsSerialAbove block.head.serial e.0) more behind (subst (All (λ (e : Name × Stored). IsSerialAbove block.head.serial e.0)) (sym all) between.serials))

  -- and taken out of it
  pub between-moved : (head : Head) (mid : PageMap) (count next : ℕ) → head.serial ≡ block.head.serial → (stand : StandBeside (block_of count next head) mid others entries root more (first ∷ behind)) → (key : ℕ) → key ≡ key_code first.0
      → (after : PageMap) (count' next' root' : ℕ) → (gone : HasBecome places_form_version1 (view mid count next stand.tables.free) after count' next' root root' (without key (map_rows places_form_version1 mid root))) → count' ≡ count → next' < count'
      → StandBetween (block_of count' next' head) after others entries root' left
  between-moved head mid count next serial stand key at after count' next' root' gone level linked = record {
    carried = more;
    rest = behind;
    all = all;
    left_are = (let long = between.left_are in let size = ap (λ (places : List (Name × Stored)). length places) is in omega (arith, long, size));
    stand = beside-remove (block_of count next head) mid others entries root more (first ∷ behind) stand after count' next' root' behind _ gone
        (record {
          tree = gone.kept.map;
          rows = gone.has ∙ (λ i. without (at i) (stand.places.rows i)) ∙ without-first (row_by key_code value_of_version1 first) (map (row_by key_code value_of_version1) behind);
          each = All-tail (IsEntryOf IsName IsPlaceVersion1) first behind stand.places.each;
        })
        level linked;
    middle = key_code first.0 + 1;
    high = between.high;
    below = subst (IsWithin 0 (key_code first.0 + 1)) (sym (map-append place_row between.carried (first ∷ []))) (within-behind 0 between.middle (map place_row between.carried) (place_row first) between.below above.0);
    above = above.1;
    serials = subst (λ (n : ℕ). All (λ (e : Name × Stored). IsSerialAbove n e.0) entries.places) (sym serial) between.serials;
  }

-- a head that has another root, after one that has another version and root
pub head-further : (old mid new : Head) → mid ≡ record old { version = Two; places = mid.places } → new ≡ record mid { places = new.places } → new ≡ record old { version = Two; places = new.places }
head-further old mid new first second = second ∙ λ i. record (first i) { places = new.places }

-- ---- the end

-- where no place is left the map of version 1 has no page
pub between-none : (block : Superblock) (pages : PageMap) (others : ℕ → ℕ) (entries : Entries) (root : ℕ) → StandBetween block pages others entries root 0 → root ≡ 0
between-none block pages others entries root between = none between.rest between.left_are between.stand.places
  where
    none : (rest : List (Name × Stored)) → length rest ≡ 0 → HoldsPlacesVersion1 pages root rest → root ≡ 0
    none [] long holds = root-none places_form_version1 pages root holds.tree (ap (λ (rows : List Row). length rows) holds.rows)
    none (e ∷ rest) long holds = absurd (omega (arith, long))

-- no place is left
nothing-left : {X : Type 0} (xs ys all : List X) → xs ++ ys ≡ all → length ys ≡ 0 → xs ≡ all
nothing-left xs [] all is long = sym (append-nil xs) ∙ is
nothing-left xs (y ∷ ys) all is long = absurd (omega (arith, long))

-- all places were carried over: the pages stand for the state
pub between-ended : (block : Superblock) (pages : PageMap) (others : ℕ → ℕ) (entries : Entries) → StandBetween block pages others entries 0 0 → (old : Head) → block.head ≡ record old { version = Two; places = block.head.places } → old.live ≡ length entries.places
    → (state : Contents) → state ≡ state_in entries old.serial old.number → PagesStand block pages state
between-ended block pages others entries between old same live state is = record {
  entries = entries;
  others = others;
  tables = record {
    range = record {
      version = ap (λ (h : Head). h.version) same;
      counted = tables.range.counted;
      first_free = tables.range.first_free;
      places = tables.range.places;
      texts = tables.range.texts;
      numbers = tables.range.numbers;
      rows = tables.range.rows;
      tree = tables.range.tree;
      serial = tables.range.serial;
      serials = tables.range.serials;
      number = tables.range.number;
      next_word = tables.range.next_word;
      words = tables.range.words;
    };
    serials = tables.serials;
    free = tables.free;
    holds = record { places = subst (HoldsPlaces pages block.head.places) carried_all tables.holds.places; texts = tables.holds.texts; numbers = tables.holds.numbers };
    apart = record { supplied = tables.apart.supplied; once = tables.apart.once; away = tables.apart.away; some = tables.apart.some };
    every = λ n some. (let one = tables.every n some in omega (arith, one));
    away = (let away = tables.away in omega (arith, away));
    sound = record { words = tables.sound.words; serials = between.serials };
    live = ap (λ (h : Head). h.live) same ∙ live;
  };
  tree = between.stand.tree;
  is = is ∙ λ i. state_in entries (sym (ap (λ (h : Head). h.serial) same) i) (sym (ap (λ (h : Head). h.number) same) i);
}
  where
    tables : TablesStandFor (claims_of entries.places) block.head.number (with_places block.head.places (length between.carried) block) pages (λ n. others n + version1_uses pages 0 n) (record entries { places = between.carried })
    tables = between.stand.tables

    carried_all : between.carried ≡ entries.places
    carried_all = nothing-left between.carried between.rest entries.places between.all between.left_are
