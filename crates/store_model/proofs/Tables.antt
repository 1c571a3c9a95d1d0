-- What an update leaves of the tables, beside the pages of others.
use Rattle.std.proofs.Common.{◌≡◌, ℕ, zero, suc, ◌+◌, ◌*◌, ◌<◌, ◌≤◌, ◌^◌, ◌==◌, cond, is_some, List, length, refl, sym, ap, subst, subst₂, arith}
use Rattle.std.specs.List.{AllByRecursion}
use Rattle.std.specs.Map.{keys_of}
use Rattle.term_impacts.specs.Pairs.{IsWordMap}
use Rattle.spatial_base.specs.Key.{Name}
use Rattle.spatial_base.specs.Point.{Position}
use Rattle.page_face.specs.FreeList.{PageMap}
use Rattle.page_store.specs.Superblock.{IsInRange}
use Rattle.page_store.specs.declared.superblock.Superblock.{Superblock}
use Rattle.btree_nodes.specs.Supply.{spare, view}
use Rattle.place_values.specs.State.{IsSerialAbove}
use Rattle.place_values.specs.State as states
use Rattle.store_tables.specs.Entries.{Entries, place_of_key, with_place, without_place}
use Rattle.store_tables.specs.Holding.{IsChanged, table_uses}
use Rattle.store_model.specs.Stands.{AreSound, AreSoundFor, IsCounting, TablesStand, TablesStandFor, at_number, places_in, tables_in}
use Rattle.store_model.specs.Updates.{after_held, after_put, after_remove, by_number, numbered_for, stored_with}
use Rattle.store_model.specs.Ahead.{IsNamed, number_in, pairs_for, place_count}
use Rattle.store_model.proofs.Held.{held-entries, held-places, held-sound}
use Rattle.store_model.proofs.Maps.{ascending-holds}
use Rattle.store_model.proofs.Places.{length-with_place, length-without_place}
use Rattle.store_model.proofs.Puts.{put-entries, put-next, put-places, put-sound}
use Rattle.store_model.proofs.Removes.{remove-entries, remove-places, remove-sound}
use Rattle.store_model.proofs.Steps.{AreAscending}

-- each page that belongs to others is as it was
abbrev pub ArePagesKept : (ℕ → ℕ) → PageMap → PageMap → Type 0
ArePagesKept others before after = (n : ℕ) → 0 < others n → after n ≡ before n

-- the tables stand for the entries over this free list
abbrev pub TablesOver : (ℕ → ℕ → ℕ) → ℕ → Superblock → PageMap → (ℕ → ℕ) → Entries → List ℕ → Type 0
TablesOver claims last block pages others entries free = (tables : TablesStandFor claims last block pages others entries) × (tables.free ≡ free)

module _ {claims : ℕ → ℕ → ℕ} {last : ℕ} (old : Superblock) (pages : PageMap) (others : ℕ → ℕ) (entries : Entries) (stand : TablesStandFor claims last old pages others entries) where
  -- a page of others is used by no table, and can't be taken
  pub others-apart : (n : ℕ) → 0 < others n → (table_uses pages (tables_in old.head) n ≡ 0) × (spare stand.free old.counted n ≡ 0)
  others-apart zero some = let none = stand.away in absurd (omega (arith, some, none))
  others-apart (suc m) some = let one = stand.every (suc m) (omega arith) in (omega (arith, one, some), omega (arith, one, some))

  -- Where the tables changed and no page was lost, they stand for the new entries beside the same pages of others, which stayed.
  pub tables-changed : (block : Superblock) (after : PageMap) (new : Entries) → (changed : IsChanged (view pages old.counted old.first_free stand.free) (tables_in old.head) after block.counted block.first_free (tables_in block.head) new)
      → (then : ℕ → ℕ → ℕ) (last_then : ℕ) → IsInRange (at_number last_then block) → block.head.serial ≤ block.head.number + 1 → AreSoundFor then new block.head.next_word block.head.serial → block.head.live ≡ length new.places
      → TablesOver then last_then block after others new changed.free × ArePagesKept others pages after
  tables-changed block after new changed then last_then range serials sound live = (
    (
      record {
        range = range;
        serials = serials;
        free = changed.free;
        holds = changed.holds;
        apart = changed.apart;
        every = λ n some. (let kept = changed.moves.kept n in let one = stand.every n some in omega (arith, kept, one));
        away = stand.away;
        sound = sound;
        live = live;
      },
      refl,
    ),
    λ n some. (let apart = others-apart n some in changed.moves.others n apart.0 apart.1),
  )

  -- the tables were in the order of their keys
  pub ascending : AreAscending entries
  ascending = ascending-holds pages (tables_in old.head) entries stand.holds

  module _ (counting : IsCounting claims) (key : Name) where
    -- after a remove the table is without the key's place
    pub tables-remove-entries : (after_remove key entries).places ≡ without_place key entries.places
    tables-remove-entries = remove-entries claims counting key entries old.head.next_word old.head.serial stand.sound ascending stand.holds.places.each

    -- after a remove the entries are those of the places without the key's
    pub tables-remove-places : places_in (after_remove key entries) ≡ states.without_place key (places_in entries)
    tables-remove-places = remove-places claims counting key entries old.head.next_word old.head.serial stand.sound ascending stand.holds.places.each

    -- and the tables stand for them beside the same pages of others, which stayed
    pub tables-remove : (block : Superblock) (after : PageMap) → (changed : IsChanged (view pages old.counted old.first_free stand.free) (tables_in old.head) after block.counted block.first_free (tables_in block.head) (after_remove key entries))
        → (last_then : ℕ) → IsInRange (at_number last_then block) → block.head.next_word ≡ old.head.next_word → block.head.serial ≡ old.head.serial → block.head.live + cond (is_some (place_of_key key entries.places)) 1 0 ≡ old.head.live → old.head.number ≤ block.head.number
        → TablesOver claims last_then block after others (after_remove key entries) changed.free × ArePagesKept others pages after
    tables-remove block after changed last_then range next serial live later =
        let sound = remove-sound claims counting key entries old.head.next_word old.head.serial stand.sound ascending stand.holds.places.each in
        let long = ap length (tables-remove-entries) in
        let was = stand.live in
        tables-changed block after (after_remove key entries) changed claims last_then range (let was = stand.serials in omega (arith, was, serial, later)) (subst₂ (λ n m. AreSoundFor claims (after_remove key entries) n m) (sym next) (sym serial) sound)
        (omega (arith, live, was, long, length-without_place key entries.places))

module _ (old : Superblock) (pages : PageMap) (others : ℕ → ℕ) (entries : Entries) (stand : TablesStand old pages others entries) where
  module _ (key : Name) (point : Position) (words : List (List ℕ × ℕ)) (label : List ℕ) (map_of_words : IsWordMap words) (room : old.head.live + 1 < 2 ^ 32 + cond (is_some (place_of_key key entries.places)) 1 0) where
    -- the entries after the place was put
    abbrev put : Entries
    put = after_put key point words label old.head.next_word entries

    -- the next word number then
    abbrev next_then : ℕ
    next_then = (numbered_for key words old.head.next_word entries).next_word

    room_left : length (without_place key entries.places) + 1 < 2 ^ 32
    room_left = let live = stand.live in omega (arith, room, live, length-without_place key entries.places)

    numbers_left : old.head.next_word + length words ≤ 2 ^ 64
    numbers_left =
        let few = map_of_words.few in
        let most = stand.range.words in
        let number = stand.range.number in
        omega (arith, few, most, number)

    -- the next word number keeps its range
    pub tables-next : (old.head.next_word ≤ next_then) × (next_then ≤ 64 * (old.head.number + 1 + 1))
    tables-next =
        let next = put-next key point words label entries old.head.next_word stand.sound.words (ascending old pages others entries stand) stand.holds.places.each map_of_words room_left numbers_left in
        let few = map_of_words.few in
        let most = stand.range.words in
        (next.0, omega (arith, next.1, few, most))

    -- after a put the table has the place at the key
    pub tables-put-entries : put.places ≡ with_place key (stored_with point (by_number (numbered_for key words old.head.next_word entries).pairs) label) entries.places
    tables-put-entries = put-entries key point words label entries old.head.next_word stand.sound.words (ascending old pages others entries stand) stand.holds.places.each map_of_words room_left numbers_left

    -- after a put the entries are those of the places with this one at the key
    pub tables-put-places : places_in put ≡ states.with_place key (record { point = point; words = words; label = label }) (places_in entries)
    tables-put-places = put-places key point words label entries old.head.next_word stand.sound.words (ascending old pages others entries stand) stand.holds.places.each map_of_words room_left numbers_left

    -- and the tables stand for them beside the same pages of others, which stayed
    pub tables-put : (block : Superblock) (after : PageMap) → (changed : IsChanged (view pages old.counted old.first_free stand.free) (tables_in old.head) after block.counted block.first_free (tables_in block.head) put)
        → IsInRange block → block.head.next_word ≡ next_then → old.head.serial ≤ block.head.serial → IsSerialAbove block.head.serial key → block.head.live + cond (is_some (place_of_key key entries.places)) 1 0 ≡ old.head.live + 1
        → TablesOver (λ number places. places) block.head.number block after others put changed.free × ArePagesKept others pages after
    tables-put block after changed range next later below live =
        let sound = put-sound key point words label entries old.head.next_word stand.sound.words (ascending old pages others entries stand) stand.holds.places.each map_of_words room_left numbers_left old.head.serial block.head.serial stand.sound.serials later below in
        let long = ap length tables-put-entries in
        let was = stand.live in
        tables-changed old pages others entries stand block after put changed (λ number places. places) block.head.number range range.serials (subst (λ n. AreSound put n block.head.serial) (sym next) sound)
        (omega (arith, live, was, long, length-with_place key (stored_with point (by_number (numbered_for key words old.head.next_word entries).pairs) label) entries.places (ascending old pages others entries stand).places))

-- a place is put whose words were held ahead, beside what else is
module _ (numbers : List (List ℕ × ℕ)) (rest : ℕ → ℕ) (key : Name) (point : Position) (words : List (List ℕ × ℕ)) (label : List ℕ) (map_of_words : IsWordMap words) {last : ℕ} (old : Superblock) (pages : PageMap) (others : ℕ → ℕ) (entries : Entries)
    (stand : TablesStandFor (λ n k. k + (place_count (λ word. number_in numbers word == n) words + rest n)) last old pages others entries) (known : AllByRecursion (IsNamed numbers entries.numbers) (keys_of words)) where
  -- the entries after the place was put
  abbrev held : Entries
  held = after_held key point (pairs_for numbers words) label entries

  -- the table has the place at the key
  pub tables-held-entries : held.places ≡ with_place key (stored_with point (by_number (pairs_for numbers words)) label) entries.places
  tables-held-entries = held-entries numbers rest key point words label entries old.head.next_word stand.sound.words (ascending old pages others entries stand) stand.holds.places.each map_of_words known

  -- the entries are those of the places with this one at the key
  pub tables-held-places : places_in held ≡ states.with_place key (record { point = point; words = words; label = label }) (places_in entries)
  tables-held-places = held-places numbers rest key point words label entries old.head.next_word stand.sound.words (ascending old pages others entries stand) stand.holds.places.each map_of_words known

  -- and the tables stand for them beside the same pages of others, which stayed
  pub tables-held : (block : Superblock) (after : PageMap) → (changed : IsChanged (view pages old.counted old.first_free stand.free) (tables_in old.head) after block.counted block.first_free (tables_in block.head) held)
      → (last_then : ℕ) → IsInRange (at_number last_then block) → block.head.serial ≤ block.head.number + 1 → block.head.next_word ≡ old.head.next_word → old.head.serial ≤ block.head.serial → IsSerialAbove block.head.serial key
      → block.head.live + cond (is_some (place_of_key key entries.places)) 1 0 ≡ old.head.live + 1
      → TablesOver (λ n k. k + rest n) last_then block after others held changed.free × ArePagesKept others pages after
  tables-held block after changed last_then range serials next later below live =
      let sound = held-sound numbers rest key point words label entries old.head.next_word stand.sound.words (ascending old pages others entries stand) stand.holds.places.each map_of_words known old.head.serial block.head.serial stand.sound.serials later below in
      let long = ap length tables-held-entries in
      let was = stand.live in
      tables-changed old pages others entries stand block after held changed (λ n k. k + rest n) last_then range serials (subst (λ n. AreSoundFor (λ n k. k + rest n) held n block.head.serial) (sym next) sound)
      (omega (arith, live, was, long, length-with_place key (stored_with point (by_number (pairs_for numbers words)) label) entries.places (ascending old pages others entries stand).places))
