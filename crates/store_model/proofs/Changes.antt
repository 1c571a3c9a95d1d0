-- What an update's pages stand for.
use Rattle.std.proofs.Common.{◌≡◌, ℕ, ◌+◌, ◌*◌, ◌<◌, ◌≤◌, ◌^◌, ◌==◌, cond, is_some, List, length, Option, Some, None, option_map, refl, sym, ap, subst, ◌∙◌, arith}
use Rattle.std.proofs.lemmas.List.{length-map}
use Rattle.std.specs.List.{AllByRecursion}
use Rattle.std.specs.Map.{keys_of}
use Rattle.term_impacts.specs.Pairs.{IsWordMap}
use Rattle.spatial_base.specs.Key.{Name}
use Rattle.spatial_base.specs.Point.{Position}
use Rattle.page_face.specs.FreeList.{PageMap}
use Rattle.page_store.specs.Superblock.{IsInRange}
use Rattle.page_store.specs.declared.superblock.Superblock.{Superblock}
use Rattle.btree_nodes.specs.Supply.{view}
use Rattle.place_values.specs.declared.place.Place.{Place}
use Rattle.place_values.specs.State.{IsSerialAbove}
use Rattle.place_values.specs.State as states
use Rattle.row_codec.specs.declared.stored.Stored.{Stored}
use Rattle.rtree_nodes.specs.Slots.{got}
use Rattle.rtree_nodes.specs.Stock as stock
use Rattle.rtree_nodes.specs.Pages.{node_of}
use Rattle.irtree_shape.specs.Entries.{entry_at}
use Rattle.irtree_shape.specs.Regrown.{IsRegrown}
use Rattle.store_tables.specs.Entries.{Entries, place_of_key, with_place, without_place}
use Rattle.store_tables.specs.Holding.{IsChanged}
use Rattle.store_model.specs.Stands.{IsCounting, PagesStand, PagesStandFor, at_number, entry_sum, place_in, places_in, tables_in}
use Rattle.store_model.specs.Updates.{after_held, after_put, after_remove, by_number, numbered_for, stored_with}
use Rattle.store_model.specs.Ahead.{IsNamed, number_in, pairs_for, place_count}
use Rattle.store_model.proofs.Maps.{ascending-holds}
use Rattle.store_model.proofs.Places.{place-at}
use Rattle.store_model.proofs.Regrowths.{IsRerooted, PagesOver, StandsBetween, between-regrown}
use Rattle.store_model.proofs.Sums.{sum-with, sum-without}
use Rattle.store_model.proofs.Tables.{ArePagesKept, TablesOver, tables-held, tables-held-entries, tables-held-places, tables-next, tables-put, tables-put-entries, tables-put-places, tables-remove, tables-remove-entries, tables-remove-places}
use Rattle.store_model.proofs.Trees.{tree-kept}

module _ {claims : ℕ → ℕ → ℕ} {last : ℕ} (old : Superblock) (pages : PageMap) (state : states.Contents) (stand : PagesStandFor claims last old pages state) where
  -- the state's places were those of the entries
  places-before : state.places ≡ places_in stand.entries
  places-before = ap (λ (s : states.Contents). s.places) stand.is

  -- what lives at a key is what the tables have there
  pub at-before : (key : Name) → states.place_at key state.places ≡ option_map (place_in stand.entries.numbers) (place_of_key key stand.entries.places)
  at-before key = ap (states.place_at key) places-before ∙ place-at key stand.entries

  -- and a key lives where they have it
  pub lives-before : (key : Name) → is_some (states.place_at key state.places) ≡ is_some (place_of_key key stand.entries.places)
  lives-before key = ap is_some (at-before key) ∙ there (place_of_key key stand.entries.places)
    where
      there : (found : Option Stored) → is_some (option_map (place_in stand.entries.numbers) found) ≡ is_some found
      there None = refl
      there (Some stored) = refl

  -- as many places live as the state has
  pub live-before : length state.places ≡ old.head.live
  live-before = ap length places-before ∙ length-map stand.entries.places _ ∙ sym stand.tables.live

  -- where the tables stand for new entries beside the tree's pages, which stayed, the tree stands for those before
  between-kept : (then : ℕ → ℕ → ℕ) (last_then : ℕ) (mid : Superblock) (between : PageMap) (new : Entries) (free : List ℕ) → TablesOver then last_then mid between stand.others new free × ArePagesKept stand.others pages between
      → mid.head.rows ≡ old.head.rows → mid.head.tree ≡ old.head.tree → StandsBetween then last_then mid between stand.others stand.entries new free
  between-kept then last_then mid between new free tables rows tree = record {
    tables = tables.0.0;
    free_is = tables.0.1;
    tree = tree-kept old.head mid.head pages between stand.entries stand.others stand.tree rows tree tables.1;
  }

  -- the tables have a place at the key, on pages `between`, and the tree is as before; once the tree has the place's entry in place of
  -- the old one, the pages stand for the state with the place at the key
  place-put : (key : Name) (place : Place) (stored : Stored) (then : ℕ → ℕ → ℕ) (last_mid : ℕ) (mid : Superblock) (between : PageMap) (new : Entries) (free : List ℕ) → StandsBetween then last_mid mid between stand.others stand.entries new free
      → new.places ≡ with_place key stored stand.entries.places → places_in new ≡ states.with_place key place (places_in stand.entries)
      → (block : Superblock) (after : PageMap) → IsRegrown node_of (stock.view between mid.head.rows mid.counted mid.first_free free) after block.head.rows block.counted block.first_free mid.head.tree block.head.tree
      (option_map (entry_at key) (place_of_key key stand.entries.places)) (Some (entry_at key stored))
      → (last_then : ℕ) → IsInRange (at_number last_then block) → block.head.serial ≤ block.head.number + 1 → IsRerooted mid.head block.head
      → PagesOver then last_then block after (record { places = states.with_place key place state.places; serial = block.head.serial; number = block.head.number }) new
  place-put key place stored then last_mid mid between new free stands places is block after regrown last_then within serials rerooted =
      subst (λ (ps : states.Places). PagesOver then last_then block after (record { places = ps; serial = block.head.serial; number = block.head.number }) new) (is ∙ ap (states.with_place key place) (sym places-before))
      (between-regrown mid between stand.others stand.entries new free stands block after _ _ regrown last_then within serials rerooted
      (λ f. ap (λ (ps : List (Name × Stored)). entry_sum f ps + got f (option_map (entry_at key) (place_of_key key stand.entries.places))) places
      ∙ sum-with key f stored stand.entries.places (ascending-holds pages (tables_in old.head) stand.entries stand.tables.holds).places))

  -- a key's place is taken out of the tables, on pages `between`, and the tree is as before
  module _ (counting : IsCounting claims) (key : Name) (mid : Superblock) (between : PageMap) (changed : IsChanged (view pages old.counted old.first_free stand.tables.free) (tables_in old.head) between mid.counted mid.first_free (tables_in mid.head) (after_remove key stand.entries))
      (last_mid : ℕ) (range : IsInRange (at_number last_mid mid)) (rows : mid.head.rows ≡ old.head.rows) (tree : mid.head.tree ≡ old.head.tree) (next : mid.head.next_word ≡ old.head.next_word) (serial : mid.head.serial ≡ old.head.serial)
      (live : mid.head.live + cond (is_some (place_of_key key stand.entries.places)) 1 0 ≡ old.head.live) (later : old.head.number ≤ mid.head.number) where
    -- the tables stand for the entries without the key's place, the tree for those before
    pub mid-remove : StandsBetween claims last_mid mid between stand.others stand.entries (after_remove key stand.entries) changed.free
    mid-remove = between-kept claims last_mid mid between (after_remove key stand.entries) changed.free
        (tables-remove old pages stand.others stand.entries stand.tables counting key mid between changed last_mid range next serial live later) rows tree

    module _ (stored : Stored) (is : place_of_key key stand.entries.places ≡ Some stored) where
      -- once the tree is without that entry, the pages stand for the state without the key's place
      pub stand-remove : (block : Superblock) (after : PageMap)
          → IsRegrown node_of (stock.view between mid.head.rows mid.counted mid.first_free changed.free) after block.head.rows block.counted block.first_free mid.head.tree block.head.tree (Some (entry_at key stored)) None
          → (last_then : ℕ) → IsInRange (at_number last_then block) → block.head.serial ≤ block.head.number + 1 → IsRerooted mid.head block.head
          → PagesOver claims last_then block after (record { places = states.without_place key state.places; serial = block.head.serial; number = block.head.number }) (after_remove key stand.entries)
      stand-remove block after regrown last_then within serials rerooted =
          let new : Entries = after_remove key stand.entries in
          let places : new.places ≡ without_place key stand.entries.places = tables-remove-entries old pages stand.others stand.entries stand.tables counting key in
          let left = tables-remove-places old pages stand.others stand.entries stand.tables counting key in
          subst (λ (ps : states.Places). PagesOver claims last_then block after (record { places = ps; serial = block.head.serial; number = block.head.number }) new) (left ∙ ap (states.without_place key) (sym places-before))
          (between-regrown mid between stand.others stand.entries new changed.free mid-remove block after _ _ regrown last_then within serials rerooted
          (λ f. let sum = sum-without key f stand.entries.places in
          let gone : got f (option_map (entry_at key) (place_of_key key stand.entries.places)) ≡ f (entry_at key stored)
          = ap (λ (found : Option Stored). got f (option_map (entry_at key) found)) is in
          let same = ap (entry_sum f) places in
          omega (arith, sum, gone, same)))

module _ (old : Superblock) (pages : PageMap) (state : states.Contents) (stand : PagesStand old pages state) where
  module _ (key : Name) (point : Position) (words : List (List ℕ × ℕ)) (label : List ℕ) (map_of_words : IsWordMap words)
      (room : old.head.live + 1 < 2 ^ 32 + cond (is_some (place_of_key key stand.entries.places)) 1 0) where
    -- the next word number after the place was put
    abbrev next_then : ℕ
    next_then = (numbered_for key words old.head.next_word stand.entries).next_word

    -- the next word number keeps its range
    pub next-then : (old.head.next_word ≤ next_then) × (next_then ≤ 64 * (old.head.number + 1 + 1))
    next-then = tables-next old pages stand.others stand.entries stand.tables key point words label map_of_words room

    -- the tables have the place, on pages `between`, and the tree is as before
    module _ (mid : Superblock) (between : PageMap)
        (changed : IsChanged (view pages old.counted old.first_free stand.tables.free) (tables_in old.head) between mid.counted mid.first_free (tables_in mid.head) (after_put key point words label old.head.next_word stand.entries))
        (range : IsInRange mid) (rows : mid.head.rows ≡ old.head.rows) (tree : mid.head.tree ≡ old.head.tree) (next : mid.head.next_word ≡ next_then) (later : old.head.serial ≤ mid.head.serial) (below : IsSerialAbove mid.head.serial key)
        (live : mid.head.live + cond (is_some (place_of_key key stand.entries.places)) 1 0 ≡ old.head.live + 1) where
      -- the tables stand for the entries with the place, the tree for those before
      pub mid-put : StandsBetween (λ number places. places) mid.head.number mid between stand.others stand.entries (after_put key point words label old.head.next_word stand.entries) changed.free
      mid-put = between-kept old pages state stand (λ number places. places) mid.head.number mid between (after_put key point words label old.head.next_word stand.entries) changed.free
          (tables-put old pages stand.others stand.entries stand.tables key point words label map_of_words room mid between changed range next later below live) rows tree

      -- once the tree has the place's entry in place of the old one, the pages stand for the state with the place at the key
      pub stand-put : (block : Superblock) (after : PageMap)
          → IsRegrown node_of (stock.view between mid.head.rows mid.counted mid.first_free changed.free) after block.head.rows block.counted block.first_free mid.head.tree block.head.tree
          (option_map (entry_at key) (place_of_key key stand.entries.places)) (Some (entry_at key (stored_with point (by_number (numbered_for key words old.head.next_word stand.entries).pairs) label)))
          → IsInRange block → IsRerooted mid.head block.head
          → PagesStand block after (record { places = states.with_place key (record { point = point; words = words; label = label }) state.places; serial = block.head.serial; number = block.head.number })
      stand-put block after regrown within rerooted =
          (place-put old pages state stand key (record { point = point; words = words; label = label }) (stored_with point (by_number (numbered_for key words old.head.next_word stand.entries).pairs) label) (λ number places. places) mid.head.number mid between
          (after_put key point words label old.head.next_word stand.entries) changed.free mid-put (tables-put-entries old pages stand.others stand.entries stand.tables key point words label map_of_words room)
          (tables-put-places old pages stand.others stand.entries stand.tables key point words label map_of_words room) block after regrown block.head.number within within.serials rerooted).0

-- a place is put whose words were held ahead, beside what else is
module _ (numbers : List (List ℕ × ℕ)) (rest : ℕ → ℕ) (key : Name) (point : Position) (words : List (List ℕ × ℕ)) (label : List ℕ) (map_of_words : IsWordMap words) {last : ℕ} (old : Superblock) (pages : PageMap) (state : states.Contents)
    (stand : PagesStandFor (λ n k. k + (place_count (λ word. number_in numbers word == n) words + rest n)) last old pages state) (known : AllByRecursion (IsNamed numbers stand.entries.numbers) (keys_of words)) (mid : Superblock) (between : PageMap)
    (changed : IsChanged (view pages old.counted old.first_free stand.tables.free) (tables_in old.head) between mid.counted mid.first_free (tables_in mid.head) (after_held key point (pairs_for numbers words) label stand.entries))
    (last_mid : ℕ) (range : IsInRange (at_number last_mid mid)) (serials : mid.head.serial ≤ mid.head.number + 1) (rows : mid.head.rows ≡ old.head.rows) (tree : mid.head.tree ≡ old.head.tree) (next : mid.head.next_word ≡ old.head.next_word)
    (later : old.head.serial ≤ mid.head.serial) (below : IsSerialAbove mid.head.serial key) (live : mid.head.live + cond (is_some (place_of_key key stand.entries.places)) 1 0 ≡ old.head.live + 1) where
  -- the tables stand for the entries with the place, the tree for those before
  pub mid-held : StandsBetween (λ n k. k + rest n) last_mid mid between stand.others stand.entries (after_held key point (pairs_for numbers words) label stand.entries) changed.free
  mid-held = between-kept old pages state stand (λ n k. k + rest n) last_mid mid between (after_held key point (pairs_for numbers words) label stand.entries) changed.free
      (tables-held numbers rest key point words label map_of_words old pages stand.others stand.entries stand.tables known mid between changed last_mid range serials next later below live) rows tree

  -- once the tree has the place's entry in place of the old one, the pages stand for the state with the place at the key
  pub stand-held : (block : Superblock) (after : PageMap)
      → IsRegrown node_of (stock.view between mid.head.rows mid.counted mid.first_free changed.free) after block.head.rows block.counted block.first_free mid.head.tree block.head.tree
      (option_map (entry_at key) (place_of_key key stand.entries.places)) (Some (entry_at key (stored_with point (by_number (pairs_for numbers words)) label)))
      → (last_then : ℕ) → IsInRange (at_number last_then block) → block.head.serial ≤ block.head.number + 1 → IsRerooted mid.head block.head
      → PagesOver (λ n k. k + rest n) last_then block after (record { places = states.with_place key (record { point = point; words = words; label = label }) state.places; serial = block.head.serial; number = block.head.number })
      (after_held key point (pairs_for numbers words) label stand.entries)
  stand-held block after regrown last_then within serials_then rerooted =
      place-put old pages state stand key (record { point = point; words = words; label = label }) (stored_with point (by_number (pairs_for numbers words)) label) (λ n k. k + rest n) last_mid mid between
      (after_held key point (pairs_for numbers words) label stand.entries) changed.free mid-held (tables-held-entries numbers rest key point words label map_of_words old pages stand.others stand.entries stand.tables known)
      (tables-held-places numbers rest key point words label map_of_words old pages stand.others stand.entries stand.tables known) block after regrown last_then within serials_then rerooted
