-- A batch whose words are held ahead: how it begins, goes on and ends.
use Rattle.std.proofs.Common.{◌≡◌, ℕ, ◌+◌, ◌*◌, ◌<◌, ◌≤◌, ◌^◌, cond, is_some, Bool, true, List, [], ◌∷◌, length, map, All, Option, Some, None, IsSome, option_map, refl, sym, ap, subst, ◌∙◌, arith}
use Rattle.std.proofs.lemmas.List.Sums.{count_by-le-length}
use Rattle.std.proofs.lemmas.Map.Entries.{length-values_of}
use Rattle.std.specs.List.{AllByRecursion}
use Rattle.std.specs.Map.{values_of}
use Rattle.term_impacts.specs.Pairs.{IsWordMap}
use Rattle.spatial_base.specs.Key.{Name}
use Rattle.spatial_base.specs.Point.{Position}
use Rattle.page_face.specs.FreeList.{PageMap}
use Rattle.page_store.specs.Superblock.{IsInRange}
use Rattle.page_store.specs.declared.superblock.Superblock.{Superblock}
use Rattle.btree_nodes.specs.Supply.{view}
use Rattle.rtree_nodes.specs.Stock as stock
use Rattle.rtree_nodes.specs.Pages.{node_of}
use Rattle.irtree_shape.specs.Entries.{entry_at}
use Rattle.irtree_shape.specs.Regrown.{IsRegrown}
use Rattle.place_values.specs.declared.place.Place.{Place}
use Rattle.place_values.specs.State.{IsSerialAbove}
use Rattle.place_values.specs.declared.update.Update.{Update}
use Rattle.place_values.specs.declared.update.Update.TheVariants.{Put, Remove}
use Rattle.place_values.specs.State as states
use Rattle.row_codec.specs.declared.stored.Stored.{Stored}
use Rattle.row_codec.specs.Stored.{held_pairs}
use Rattle.store_tables.specs.Entries.{Entries, place_of_key, without_place, word_of_number}
use Rattle.store_tables.specs.Holding.{IsChanged}
use Rattle.store_tables.specs.Words.{WordTablesAgree, has_number, holders}
use Rattle.store_model.specs.Ahead.{AreCountedWords, AreNamed, HeldAhead, StandAhead, after_put_by, ahead, claimed, held_ahead, last_number, next_by, pairs_by, pairs_for, puts_in, times_counted, word_count}
use Rattle.store_model.specs.Stands.{AreSoundFor, IsCounting, PagesStand, TreeStands, at_number, entry_sum, place_in, places_in, state_in, tables_in}
use Rattle.store_model.specs.Updates.{after_held, after_remove, by_number, has_pair, stored_with}
use Rattle.store_model.proofs.Changes.{next-then, stand-held, stand-put, stand-remove}
use Rattle.store_model.proofs.Regrowths.{IsRerooted}
use Rattle.store_model.proofs.Removes.{remove-released}
use Rattle.store_model.proofs.Steps.{KeepsWords}
use Rattle.store_model.proofs.Gathered.{IsHolding, few-counted, holding-all, named-gathered}
use Rattle.store_model.proofs.Held.{has_it, held-same, named-kept}
use Rattle.store_model.proofs.Numbers.{agree-claims}
use Rattle.store_model.proofs.Places.{known-each, place-same, same-released, word_of_row}
use Rattle.store_model.proofs.Tables.{ArePagesKept, TablesOver, ascending, tables-changed}
use Rattle.store_model.proofs.Trees.{tree-kept}

-- one place more claims one more, whatever is held ahead
pub counting-claimed : (held : Option (List (List ℕ × ℕ))) (left : List Update) → IsCounting (claimed held left)
counting-claimed None left = record { more = λ n k. refl; covers = λ n k. omega arith }
counting-claimed (Some numbers) left = record { more = λ n k. omega arith; covers = λ n k. omega arith }

-- at most as many Puts as updates
pub puts-most : (updates : List Update) → puts_in updates ≤ length updates
puts-most [] = omega arith
puts-most (Put key point words label ∷ updates) = let rest = puts-most updates in omega (arith, rest)
puts-most (Remove key ∷ updates) = let rest = puts-most updates in omega (arith, rest)

-- ---- the beginning

-- places whose numbers keep their words are the same places
places-same : (old new : Entries) → KeepsWords old.numbers new.numbers → (places : List (Name × Stored)) → AllByRecursion (λ (e : Name × Stored). (n : ℕ) → has_pair n (held_pairs e.1) ≡ true → IsSome (word_of_number n old.numbers)) places
    → map {B = Name × Place} (λ (e : Name × Stored). (e.0, place_in new.numbers e.1)) places ≡ map (λ (e : Name × Stored). (e.0, place_in old.numbers e.1)) places
places-same old new keeps [] known = refl
places-same old new keeps (e ∷ places) known =
    let here = place-same old.numbers new.numbers e.1 (λ n held. let word = word_of_row (word_of_number n old.numbers) (known.0 n held) in keeps n word.0 word.1 ∙ sym word.1) in
    let rest = places-same old new keeps places known.1 in
    λ i. (e.0, here i) ∷ rest i

module _ (old : Superblock) (pages : PageMap) (state : states.Contents) (stand : PagesStand old pages state) (updates : List Update) (counts : List (List ℕ × ℕ)) (are : AreCountedWords counts)
    (gathered : (has : List ℕ → Bool) → times_counted has counts ≡ word_count has updates) (few : times_counted (λ w. true) counts ≤ 64 * puts_in updates) (room : old.head.live + 64 * puts_in updates < 2 ^ 32) where
  -- what is held ahead
  abbrev held : HeldAhead
  held = held_ahead counts old.head.next_word stand.entries

  -- no count passes its end
  pub room-ahead : (n : ℕ) → holders n stand.entries.places + times_counted (λ w. true) counts < 2 ^ 32
  room-ahead n = let live = stand.tables.live in omega (arith, room, few, live, count_by-le-length (has_number n) (values_of stand.entries.places), length-values_of stand.entries.places)

  -- each word is held
  held-is : IsHolding (λ n. holders n stand.entries.places) stand.entries old.head.next_word counts held
  held-is = holding-all (λ n. holders n stand.entries.places) stand.entries old.head.next_word counts room-ahead are stand.tables.sound.words (ascending old pages stand.others stand.entries stand.tables)

  -- the next word number rises by no more than the words of the Puts
  pub next-ahead : (old.head.next_word ≤ held.next_word) × (held.next_word ≤ 64 * (old.head.number + puts_in updates + 1))
  next-ahead =
      let most = stand.tables.range.words in
      let rises = held-is.rises in
      let words = held-is.few in
      let long = few-counted counts are.some in
      (rises, omega (arith, most, words, long, few))

  -- Where the words of a batch were gathered and held, the pages stand for the same state with them held ahead.
  pub stand-begun : (mid : Superblock) (between : PageMap) → IsChanged (view pages old.counted old.first_free stand.tables.free) (tables_in old.head) between mid.counted mid.first_free (tables_in mid.head) held.entries
      → IsInRange (at_number (old.head.number + puts_in updates) mid) → mid.head.rows ≡ old.head.rows → mid.head.tree ≡ old.head.tree → mid.head.next_word ≡ held.next_word → mid.head.serial ≡ old.head.serial → mid.head.number ≡ old.head.number → mid.head.live ≡ old.head.live → old.head.number + length updates ≤ 2 ^ 40
      → StandAhead (Some held.numbers) updates mid between state
  stand-begun mid between changed range rows tree next serial number live last = record {
    stand = record { entries = held.entries; others = stand.others; tables = tables.0.0; tree = tree-now; is = is };
    named = named-gathered counts updates held.numbers held.entries.numbers gathered held-is.named;
    last = omega (arith, last, number);
  }
    where
      was : stand.entries.places ≡ held.entries.places
      was = sym held-is.places

      agree : WordTablesAgree (λ n. holders n held.entries.places + ahead held.numbers updates n) held.entries.texts held.entries.numbers mid.head.next_word
      agree = subst (λ (k : ℕ). WordTablesAgree (λ n. holders n held.entries.places + ahead held.numbers updates n) held.entries.texts held.entries.numbers k) (sym next)
          (agree-claims (λ n. holders n stand.entries.places + times_counted (has_it held.numbers n) counts) _ held.entries.texts held.entries.numbers held.next_word
          (λ n. λ i. holders n (was i) + gathered (has_it held.numbers n) i) held-is.agree)

      sound : AreSoundFor (λ n k. k + ahead held.numbers updates n) held.entries mid.head.next_word mid.head.serial
      sound = record {
        words = agree;
        serials = subst (λ (k : ℕ). All (λ (e : Name × Stored). IsSerialAbove k e.0) held.entries.places) (sym serial) (subst (All (λ (e : Name × Stored). IsSerialAbove old.head.serial e.0)) was stand.tables.sound.serials);
      }

      tables : TablesOver (λ n k. k + ahead held.numbers updates n) (mid.head.number + puts_in updates) mid between stand.others held.entries changed.free × ArePagesKept stand.others pages between
      tables = tables-changed old pages stand.others stand.entries stand.tables mid between held.entries changed (λ n k. k + ahead held.numbers updates n) (mid.head.number + puts_in updates)
          (subst (λ (k : ℕ). IsInRange (at_number (k + puts_in updates) mid)) (sym number) range) (let before = stand.tables.serials in omega (arith, before, serial, number)) sound (live ∙ stand.tables.live ∙ ap length was)

      tree-was : TreeStands mid.head between stand.entries stand.others
      tree-was = tree-kept old.head mid.head pages between stand.entries stand.others stand.tree rows tree tables.1

      tree-now : TreeStands mid.head between held.entries stand.others
      tree-now = record {
        tree = tree-was.tree;
        entries_are = λ f. tree-was.entries_are f ∙ ap (entry_sum f) was;
        map = tree-was.map;
        filled = tree-was.filled;
        blank = tree-was.blank;
        named = tree-was.named;
        uses_are = tree-was.uses_are;
      }

      same : places_in stand.entries ≡ places_in held.entries
      same = sym (places-same stand.entries held.entries held-is.keeps stand.entries.places (known-each stand.entries old.head.next_word stand.tables.sound.words)) ∙ ap (map {B = Name × Place} (λ (e : Name × Stored). (e.0, place_in held.entries.numbers e.1))) was

      is : state ≡ state_in held.entries mid.head.serial mid.head.number
      is = stand.is ∙ λ i. record { places = same i; serial = sym serial i; number = sym number i }

-- ---- the end

-- where no update is left the pages stand as between updates
pub stand-ended : (held : Option (List (List ℕ × ℕ))) (block : Superblock) (pages : PageMap) (state : states.Contents) → StandAhead held [] block pages state → PagesStand block pages state
stand-ended None block pages state is = is.stand
stand-ended (Some numbers) block pages state is = record {
  entries = is.stand.entries;
  others = is.stand.others;
  tables = record {
    range = subst (λ (k : ℕ). IsInRange (at_number k block)) none is.stand.tables.range;
    serials = is.stand.tables.serials;
    free = is.stand.tables.free;
    holds = is.stand.tables.holds;
    apart = is.stand.tables.apart;
    every = is.stand.tables.every;
    away = is.stand.tables.away;
    sound = record {
      words = agree-claims (λ n. holders n is.stand.entries.places + 0) (λ n. holders n is.stand.entries.places) is.stand.entries.texts is.stand.entries.numbers block.head.next_word (λ n. omega arith) is.stand.tables.sound.words;
      serials = is.stand.tables.sound.serials;
    };
    live = is.stand.tables.live;
  };
  tree = is.stand.tree;
  is = is.stand.is;
}
  where
    none : block.head.number + 0 ≡ block.head.number
    none = omega arith

-- between updates the pages stand as in a batch that holds nothing ahead
pub stand-plain : (left : List Update) (block : Superblock) (pages : PageMap) (state : states.Contents) → PagesStand block pages state → StandAhead None left block pages state
stand-plain left block pages state stand = record { stand = stand; named = tt; last = tt }

-- ---- an update

-- a place is put
module _ (held : Option (List (List ℕ × ℕ))) (left : List Update) (name : Option Name) (key : Name) (point : Position) (words : List (List ℕ × ℕ)) (label : List ℕ) (map_of_words : IsWordMap words) (old : Superblock) (pages : PageMap) (state : states.Contents)
    (is : StandAhead held (Put name point words label ∷ left) old pages state) (room : old.head.live + 1 < 2 ^ 32 + cond (is_some (place_of_key key is.stand.entries.places)) 1 0) where
  -- the next word number keeps its range
  pub next-by : (old.head.next_word ≤ next_by held key words old.head.next_word is.stand.entries) × (next_by held key words old.head.next_word is.stand.entries ≤ 64 * (last_number held left (old.head.number + 1) + 1))
  next-by = by held is room
    where
      by : (h : Option (List (List ℕ × ℕ))) (is : StandAhead h (Put name point words label ∷ left) old pages state) → old.head.live + 1 < 2 ^ 32 + cond (is_some (place_of_key key is.stand.entries.places)) 1 0
          → (old.head.next_word ≤ next_by h key words old.head.next_word is.stand.entries) × (next_by h key words old.head.next_word is.stand.entries ≤ 64 * (last_number h left (old.head.number + 1) + 1))
      by None is room = next-then old pages state is.stand key point words label map_of_words room
      by (Some numbers) is room = (let most = is.stand.tables.range.words in (omega arith, omega (arith, most)))

  module _ (mid : Superblock) (between : PageMap)
      (changed : IsChanged (view pages old.counted old.first_free is.stand.tables.free) (tables_in old.head) between mid.counted mid.first_free (tables_in mid.head) (after_put_by held key point words label old.head.next_word is.stand.entries))
      (range : IsInRange (at_number (last_number held left mid.head.number) mid)) (serials : mid.head.serial ≤ mid.head.number + 1) (rows : mid.head.rows ≡ old.head.rows) (tree : mid.head.tree ≡ old.head.tree)
      (next : mid.head.next_word ≡ next_by held key words old.head.next_word is.stand.entries) (later : old.head.serial ≤ mid.head.serial) (below : IsSerialAbove mid.head.serial key)
      (live : mid.head.live + cond (is_some (place_of_key key is.stand.entries.places)) 1 0 ≡ old.head.live + 1) where
    -- once the tree has the place's entry in place of the old one, the pages stand for the state with the place at the key
    pub stand-put-by : (block : Superblock) (after : PageMap)
        → IsRegrown node_of (stock.view between mid.head.rows mid.counted mid.first_free changed.free) after block.head.rows block.counted block.first_free mid.head.tree block.head.tree
        (option_map (entry_at key) (place_of_key key is.stand.entries.places)) (Some (entry_at key (stored_with point (by_number (pairs_by held key words old.head.next_word is.stand.entries)) label)))
        → IsInRange (at_number (last_number held left block.head.number) block) → block.head.serial ≤ block.head.number + 1 → block.head.number ≡ old.head.number + 1 → IsRerooted mid.head block.head
        → StandAhead held left block after (record { places = states.with_place key (record { point = point; words = words; label = label }) state.places; serial = block.head.serial; number = block.head.number })
    stand-put-by block after regrown within serials_then number rerooted = by held is room changed range next live regrown within
      where
        by : (h : Option (List (List ℕ × ℕ))) (is : StandAhead h (Put name point words label ∷ left) old pages state) → old.head.live + 1 < 2 ^ 32 + cond (is_some (place_of_key key is.stand.entries.places)) 1 0
            → (changed : IsChanged (view pages old.counted old.first_free is.stand.tables.free) (tables_in old.head) between mid.counted mid.first_free (tables_in mid.head) (after_put_by h key point words label old.head.next_word is.stand.entries))
            → IsInRange (at_number (last_number h left mid.head.number) mid) → mid.head.next_word ≡ next_by h key words old.head.next_word is.stand.entries
            → mid.head.live + cond (is_some (place_of_key key is.stand.entries.places)) 1 0 ≡ old.head.live + 1
            → IsRegrown node_of (stock.view between mid.head.rows mid.counted mid.first_free changed.free) after block.head.rows block.counted block.first_free mid.head.tree block.head.tree
            (option_map (entry_at key) (place_of_key key is.stand.entries.places)) (Some (entry_at key (stored_with point (by_number (pairs_by h key words old.head.next_word is.stand.entries)) label)))
            → IsInRange (at_number (last_number h left block.head.number) block)
            → StandAhead h left block after (record { places = states.with_place key (record { point = point; words = words; label = label }) state.places; serial = block.head.serial; number = block.head.number })
        by None is room changed range next live regrown within = record {
          stand = stand-put old pages state is.stand key point words label map_of_words room mid between changed range rows tree next later below live block after regrown within rerooted;
          named = tt;
          last = tt;
        }
        by (Some numbers) is room changed range next live regrown within =
            let after_is = stand-held numbers (ahead numbers left) key point words label map_of_words old pages state is.stand is.named.0 mid between changed (mid.head.number + puts_in left) range serials rows tree next later below live block after regrown
            (block.head.number + puts_in left) within serials_then rerooted in
            record {
              stand = after_is.0;
              named = subst (λ (e : Entries). AreNamed numbers e.numbers left) (sym after_is.1)
                  (named-kept numbers is.stand.entries.numbers (after_held key point (pairs_for numbers words) label is.stand.entries).numbers left
                  (held-same numbers (ahead numbers left) key point words label is.stand.entries old.head.next_word is.stand.tables.sound.words (ascending old pages is.stand.others is.stand.entries is.stand.tables) is.stand.tables.holds.places.each map_of_words is.named.0)
                  is.named.1);
              last = let all = is.last in omega (arith, all, number);
            }

-- a key's place is taken out
module _ (held : Option (List (List ℕ × ℕ))) (left : List Update) (key : Name) (old : Superblock) (pages : PageMap) (state : states.Contents) (is : StandAhead held (Remove key ∷ left) old pages state) (mid : Superblock) (between : PageMap)
    (changed : IsChanged (view pages old.counted old.first_free is.stand.tables.free) (tables_in old.head) between mid.counted mid.first_free (tables_in mid.head) (after_remove key is.stand.entries))
    (range : IsInRange (at_number (last_number held left mid.head.number) mid)) (rows : mid.head.rows ≡ old.head.rows) (tree : mid.head.tree ≡ old.head.tree) (next : mid.head.next_word ≡ old.head.next_word) (serial : mid.head.serial ≡ old.head.serial)
    (live : mid.head.live + cond (is_some (place_of_key key is.stand.entries.places)) 1 0 ≡ old.head.live) (later : old.head.number ≤ mid.head.number) (stored : Stored) (found : place_of_key key is.stand.entries.places ≡ Some stored) where
  -- once the tree is without that entry, the pages stand for the state without the key's place
  pub stand-remove-by : (block : Superblock) (after : PageMap)
      → IsRegrown node_of (stock.view between mid.head.rows mid.counted mid.first_free changed.free) after block.head.rows block.counted block.first_free mid.head.tree block.head.tree (Some (entry_at key stored)) None
      → IsInRange (at_number (last_number held left block.head.number) block) → block.head.serial ≤ block.head.number + 1 → block.head.number ≡ old.head.number + 1 → IsRerooted mid.head block.head
      → StandAhead held left block after (record { places = states.without_place key state.places; serial = block.head.serial; number = block.head.number })
  stand-remove-by block after regrown within serials number rerooted = by held is changed range live found regrown within
    where
      by : (h : Option (List (List ℕ × ℕ))) (is : StandAhead h (Remove key ∷ left) old pages state)
          → (changed : IsChanged (view pages old.counted old.first_free is.stand.tables.free) (tables_in old.head) between mid.counted mid.first_free (tables_in mid.head) (after_remove key is.stand.entries))
          → IsInRange (at_number (last_number h left mid.head.number) mid) → mid.head.live + cond (is_some (place_of_key key is.stand.entries.places)) 1 0 ≡ old.head.live → place_of_key key is.stand.entries.places ≡ Some stored
          → IsRegrown node_of (stock.view between mid.head.rows mid.counted mid.first_free changed.free) after block.head.rows block.counted block.first_free mid.head.tree block.head.tree (Some (entry_at key stored)) None
          → IsInRange (at_number (last_number h left block.head.number) block)
          → StandAhead h left block after (record { places = states.without_place key state.places; serial = block.head.serial; number = block.head.number })
      by None is changed range live found regrown within = record {
        stand = (stand-remove old pages state is.stand (counting-claimed None left) key mid between changed mid.head.number range rows tree next serial live later stored found block after regrown block.head.number within serials rerooted).0;
        named = tt;
        last = tt;
      }
      by (Some numbers) is changed range live found regrown within =
          let after_is = stand-remove old pages state is.stand (counting-claimed (Some numbers) left) key mid between changed (mid.head.number + puts_in left) range rows tree next serial live later stored found block after regrown (block.head.number + puts_in left) within serials rerooted in
          record {
            stand = after_is.0;
            named = subst (λ (e : Entries). AreNamed numbers e.numbers left) (sym after_is.1)
                (named-kept numbers is.stand.entries.numbers (after_remove key is.stand.entries).numbers left
                (λ n some. same-released (λ m. claimed (Some numbers) left m (holders m (without_place key is.stand.entries.places))) [] _ old.head.next_word (after_remove key is.stand.entries)
                (remove-released (claimed (Some numbers) left) (counting-claimed (Some numbers) left) key is.stand.entries old.head.next_word old.head.serial is.stand.tables.sound (ascending old pages is.stand.others is.stand.entries is.stand.tables) is.stand.tables.holds.places.each)
                n (omega (arith, some)))
                is.named.1);
            last = let all = is.last in omega (arith, all, number);
          }

-- a key that is absent stays so
pub stand-absent : (held : Option (List (List ℕ × ℕ))) (left : List Update) (key : Name) (block : Superblock) (pages : PageMap) (state : states.Contents) → StandAhead held (Remove key ∷ left) block pages state → StandAhead held left block pages state
stand-absent None left key block pages state is = record { stand = is.stand; named = tt; last = tt }
stand-absent (Some numbers) left key block pages state is = record { stand = is.stand; named = is.named.1; last = let all = is.last in omega (arith, all) }

-- ---- update numbers

-- after a Put the update number by which words are counted is an update number, and none before the update's own
pub last-put : (held : Option (List (List ℕ × ℕ))) (left : List Update) (name : Option Name) (point : Position) (words : List (List ℕ × ℕ)) (label : List ℕ) (block : Superblock) (pages : PageMap) (state : states.Contents) → StandAhead held (Put name point words label ∷ left) block pages state
    → block.head.number < 2 ^ 40 → (block.head.number + 1 ≤ last_number held left (block.head.number + 1)) × (last_number held left (block.head.number + 1) ≤ 2 ^ 40)
last-put None left name point words label block pages state is less = (omega arith, omega (arith, less))
last-put (Some numbers) left name point words label block pages state is less = (omega arith, let most = is.stand.tables.range.number in omega (arith, most))

-- and after a removal
pub last-remove : (held : Option (List (List ℕ × ℕ))) (left : List Update) (key : Name) (block : Superblock) (pages : PageMap) (state : states.Contents) → StandAhead held (Remove key ∷ left) block pages state
    → block.head.number < 2 ^ 40 → (block.head.number + 1 ≤ last_number held left (block.head.number + 1)) × (last_number held left (block.head.number + 1) ≤ 2 ^ 40) × (block.head.next_word ≤ 64 * (last_number held left (block.head.number + 1) + 1))
last-remove None left key block pages state is less = (omega arith, omega (arith, less), let most = is.stand.tables.range.words in omega (arith, most))
last-remove (Some numbers) left key block pages state is less =
    (omega arith, let all = is.last in omega (arith, all, puts-most left), let most = is.stand.tables.range.words in omega (arith, most))
