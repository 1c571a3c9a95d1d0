-- A batch begins: its words are held ahead.
use Rattle.std.proofs.Common.{◌≡◌, ℕ, ◌+◌, ◌*◌, ◌<◌, ◌≤◌, ◌^◌, Bool, true, List, [], length, Some, refl, sym, subst, arith}
use Rattle.page_face.specs.FreeList.{PageMap}
use Rattle.page_face.specs.declared.head.Head.{Head}
use Rattle.page_store.specs.Superblock.{IsInRange}
use Rattle.page_store.specs.declared.superblock.Superblock.{Superblock}
use Rattle.btree_nodes.specs.Supply.{view}
use Rattle.place_values.specs.declared.update.Update.{Update}
use Rattle.place_values.specs.State as states
use Rattle.store_tables.specs.declared.tables.Tables.{Tables}
use Rattle.store_tables.specs.Holding.{IsApart, IsChanged, numbers_form, places_form, texts_form}
use Rattle.store_model.specs.Ahead.{AreCountedWords, CanHoldAhead, StandAhead, held_ahead, puts_in, times_counted, word_count}
use Rattle.store_model.specs.Stands.{PagesStand, at_number, tables_in}
use Rattle.store_tables.specs.Words.{holders}
use Rattle.store_model.proofs.Batches.{next-ahead, puts-most, room-ahead, stand-begun}
use Rattle.store_model.proofs.Gathered.{can-hold-all, few-counted}
use Rattle.store_model.proofs.Tables.{ascending}
use Rattle.store_model.proofs.Trees.{root-used}
use Rattle.irtree_engine.specs.Changes.{block_with, head_at}
use Rattle.irtree_engine.proofs.Effects.{used-counted}

-- fewer counted words than the Puts have words
pub few-words : (counts : List (List ℕ × ℕ)) (updates : List Update) → AreCountedWords counts → times_counted (λ w. true) counts ≤ 64 * puts_in updates → length counts ≤ 64 * length updates
few-words counts updates are few = let words = few-counted counts are.some in omega (arith, words, few, puts-most updates)

-- after the words are held page 0's fields are in their ranges by the update number of the last Put
begun-range : (old : Superblock) (range : IsInRange old) (pages : PageMap) (count first : ℕ) (tables : Tables) (free : List ℕ) → IsApart (view pages count first free) tables → first < count → old.counted ≤ count → (last : ℕ) → old.head.number ≤ last → last ≤ 2 ^ 40
    → old.head.next_word ≤ tables.next_word → tables.next_word ≤ 64 * (last + 1) → IsInRange (at_number last (block_with count first (head_at old.head tables)))
begun-range old range pages count first tables free apart counted more last above number words next =
    let some = apart.some in
    let serials = range.serials in
    let first_word = range.next_word in
    let rows = range.rows in
    let tree = range.tree in
    record {
      version = range.version;
      counted = omega (arith, some);
      first_free = counted;
      places = used-counted pages count first free tables apart tables.places (λ root. (let one = root-used places_form pages tables.places root in omega (arith, one)));
      texts = used-counted pages count first free tables apart tables.texts (λ root. (let one = root-used texts_form pages tables.texts root in omega (arith, one)));
      numbers = used-counted pages count first free tables apart tables.numbers (λ root. (let one = root-used numbers_form pages tables.numbers root in omega (arith, one)));
      rows = omega (arith, rows, more);
      tree = omega (arith, tree, more);
      serial = range.serial;
      serials = omega (arith, serials, above);
      number = number;
      next_word = omega (arith, first_word, words);
      words = next;
    }

module _ (head : Head) (count first : ℕ) (pages : PageMap) (state : states.Contents) (stand : PagesStand (block_with count first head) pages state) (updates : List Update) (counts : List (List ℕ × ℕ)) (are : AreCountedWords counts)
    (gathered : (has : List ℕ → Bool) → times_counted has counts ≡ word_count has updates) (few : times_counted (λ w. true) counts ≤ 64 * puts_in updates) (lives : head.live + length updates ≤ 1000000) (numbers_left : head.number + length updates ≤ 2 ^ 40) where
  room-for : head.live + 64 * puts_in updates < 2 ^ 32
  room-for = omega (arith, lives, puts-most updates)

  -- the words can be held
  pub can-begin : CanHoldAhead counts (record { entries = stand.entries; next_word = head.next_word; numbers = [] })
  can-begin = can-hold-all (λ n. holders n stand.entries.places) stand.entries head.next_word counts (room-ahead (block_with count first head) pages state stand updates counts are gathered few room-for) are stand.tables.sound.words
      (ascending (block_with count first head) pages stand.others stand.entries stand.tables)

  -- once they are, the pages stand for the same state with the words held ahead
  pub begun-stands : (between : PageMap) (count_between first_between : ℕ) (tables : Tables) (numbers : List (List ℕ × ℕ)) → first_between < count_between → count ≤ count_between → numbers ≡ (held_ahead counts head.next_word stand.entries).numbers
      → tables.next_word ≡ (held_ahead counts head.next_word stand.entries).next_word
      → IsChanged (view pages count first stand.tables.free) (tables_in head) between count_between first_between tables (held_ahead counts head.next_word stand.entries).entries
      → StandAhead (Some numbers) updates (block_with count_between first_between (head_at head tables)) between state
  begun-stands between count_between first_between tables numbers counted more numbers_are next_is changed =
      let old = block_with count first head in
      let next = next-ahead old pages state stand updates counts are gathered few room-for in
      let range = begun-range old stand.tables.range between count_between first_between tables changed.free changed.apart counted more (head.number + puts_in updates) (omega arith) (omega (arith, numbers_left, puts-most updates))
      (omega (arith, next.0, next_is)) (omega (arith, next.1, next_is)) in
      subst (λ (ns : List (List ℕ × ℕ)). StandAhead (Some ns) updates (block_with count_between first_between (head_at head tables)) between state) (sym numbers_are)
      (stand-begun old pages state stand updates counts are gathered few room-for (block_with count_between first_between (head_at head tables)) between changed range refl refl next_is refl refl refl numbers_left)
