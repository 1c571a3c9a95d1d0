-- What an update's tables and page 0's fields stand for, and what it answers.
use Rattle.std.proofs.Common.{◌≡◌, ◌≢◌, ⊎_elim, inr, ℕ, zero, suc, ◌+◌, ◌*◌, ◌==◌, ◌&&◌, ◌<◌, ◌≤◌, ◌^◌, Bool, true, false, cond, not, is_some, is_none, nat_le, List, ◌∷◌, length, Option, Some, None, option_map, Ok, Err, refl, sym, ap, subst, ◌∙◌, eq-eqb, arith}
use Rattle.std.proofs.lemmas.Bool.{cases_lt, ne_eqb, le-leb, lt-leb}
use Rattle.term_impacts.specs.Pairs.{IsWordMap}
use Rattle.spatial_base.specs.Key.{Name}
use Rattle.spatial_base.specs.Point.{Position}
use Rattle.page_face.specs.FreeList.{PageMap}
use Rattle.page_face.specs.declared.head.Head.{Head}
use Rattle.page_store.specs.Superblock.{IsInRange}
use Rattle.page_store.specs.declared.superblock.Superblock.{Superblock}
use Rattle.btree_nodes.specs.Supply.{view}
use Rattle.place_values.specs.declared.place.Place.{Place}
use Rattle.place_values.specs.declared.update.Applied.TheVariants.{New, Replaced, Gone, Absent}
use Rattle.place_values.specs.declared.update.Update.{Update}
use Rattle.place_values.specs.declared.update.Update.TheVariants.{Put, Remove}
use Rattle.place_values.specs.declared.update.UpdateFault.TheVariants.{Full, Worn}
use Rattle.place_values.specs.State.{IsSerialAbove}
use Rattle.place_values.specs.State as states
use Rattle.place_values.specs.Update.{Effect, put_at, refuses, removed_at}
use Rattle.row_codec.specs.declared.stored.Stored.{Stored}
use Rattle.node_rows.specs.declared.roots.Tree.{Tree}
use Rattle.rtree_nodes.specs.Slots.{Item}
use Rattle.rtree_nodes.specs.Stock as stock
use Rattle.rtree_nodes.specs.Pages.{node_of}
use Rattle.irtree_shape.specs.Entries.{entry_at}
use Rattle.irtree_shape.specs.Regrown.{IsRegrown}
use Rattle.store_tables.specs.declared.tables.Tables.{Tables}
use Rattle.store_tables.specs.Entries.{place_of_key, without_place}
use Rattle.store_tables.specs.Holding.{IsApart, IsChanged, numbers_form, places_form, table_uses, texts_form}
use Rattle.store_tables.proofs.ToldLemmas.{apart-counted}
use Rattle.store_model.specs.Ahead.{StandAhead, after_put_by, last_number, next_by, pairs_by}
use Rattle.store_model.specs.Stands.{PagesStandFor, at_number, tables_in}
use Rattle.store_model.specs.Updates.{after_remove, by_number, stored_with}
use Rattle.store_model.proofs.Batches.{last-put, last-remove, next-by, stand-put-by, stand-remove-by}
use Rattle.store_model.proofs.Changes.{lives-before, live-before}
use Rattle.store_model.proofs.Places.{length-without_place}
use Rattle.irtree_engine.specs.Changes.{block_with, head_with, tree_in}
use Rattle.store_model.proofs.Trees.{root-used}
use Rattle.irtree_engine.proofs.Trees.{regrown-range}

-- ---- the same pages

-- pages that are the same stand for the same state
pub stand-same : (held : Option (List (List ℕ × ℕ))) (left : List Update) (head : Head) (p q : PageMap) (m n i j : ℕ) (state : states.Contents) → q ≡ p → n ≡ m → j ≡ i → StandAhead held left (block_with m i head) p state → StandAhead held left (block_with n j head) q state
stand-same held left head p q m n i j state pages count first stand =
    subst (λ (k : ℕ). StandAhead held left (block_with n k head) q state) (sym first)
    (subst (λ (k : ℕ). StandAhead held left (block_with k i head) q state) (sym count)
    (subst (λ (r : PageMap). StandAhead held left (block_with m i head) r state) (sym pages) stand))

-- ---- roots

-- a page that is used is counted, and so is page 0
pub used-counted : (pages : PageMap) (count first : ℕ) (free : List ℕ) (tables : Tables) → IsApart (view pages count first free) tables → (n : ℕ) → (0 < n → 0 < table_uses pages tables n) → n < count
used-counted pages count first free tables apart zero used = apart.some
used-counted pages count first free tables apart (suc m) used = ⊎_elim
    (λ (counted : suc m < count). counted)
    (λ (past : count ≤ suc m). absurd (apart-counted (view pages count first free) tables apart (suc m) (used (omega arith)) (inr past)))
    (cases_lt (suc m) count)

-- ---- page 0's fields

module _ (old : Superblock) (last_before : ℕ) (range : IsInRange (at_number last_before old)) (pages : PageMap) (count first : ℕ) (tables : Tables) (live serial : ℕ) where
  -- after a change of the tables page 0's fields are in their ranges
  after-range : (free : List ℕ) → IsApart (view pages count first free) tables → first < count → old.counted ≤ count → (last : ℕ) → old.head.number + 1 ≤ last → last ≤ 2 ^ 40
      → old.head.serial ≤ serial → serial ≤ old.head.number + 2 → old.head.next_word ≤ tables.next_word → tables.next_word ≤ 64 * (last + 1)
      → IsInRange (at_number last (block_with count first (head_with old.head tables (tree_in old.head) live serial)))
  after-range free apart counted more last above number later serials words next =
      let some = apart.some in
      let was = range.serial in
      let first_word = range.next_word in
      let rows = range.rows in
      let tree = range.tree in
      record {
        version = range.version;
        counted = omega (arith, some);
        first_free = counted;
        places = used-counted pages count first free tables apart tables.places (λ root. (let one = root-used places_form pages tables.places root in omega (arith, one)));
        texts = used-counted pages count first free tables apart tables.texts (λ root. (let one = root-used texts_form pages tables.texts root in omega (arith, one)));
        numbers = used-counted pages count first free tables apart tables.numbers (λ root. (let one = root-used numbers_form pages tables.numbers root in omega (arith, one)));
        rows = omega (arith, rows, more);
        tree = omega (arith, tree, more);
        serial = omega (arith, was, later);
        serials = omega (arith, serials, above);
        number = omega (arith, number);
        next_word = omega (arith, first_word, words);
        words = next;
      }

-- ---- answers

-- what a put does, by whether it finds no room, the last update number, and the key
put-is : (state : states.Contents) (key : Name) (serial : ℕ) (place : Place) (full worn lived : Bool)
    → (nat_le 1000000 (length state.places) && is_none (states.place_at key state.places)) ≡ full → (state.number == 2 ^ 40) ≡ worn → is_some (states.place_at key state.places) ≡ lived
    → put_at state key serial place
    ≡ cond full (refuses state Full) (cond worn (refuses state Worn)
    (record { state = record { places = states.with_place key place state.places; serial = serial; number = state.number + 1 }; answer = Ok (cond lived Replaced New) }))
put-is state key serial place full worn lived f w l =
    λ i. cond (f i) (refuses state Full) (cond (w i) (refuses state Worn)
    (record { state = record { places = states.with_place key place state.places; serial = serial; number = state.number + 1 }; answer = Ok (cond (l i) Replaced New) }))

-- what a removal does, by whether it finds the key, and the last update number
remove-is : (state : states.Contents) (key : Name) (lived worn : Bool) → is_some (states.place_at key state.places) ≡ lived → (state.number == 2 ^ 40) ≡ worn
    → removed_at state key
    ≡ cond (not lived) (record { state = state; answer = Ok Absent }) (cond worn (refuses state Worn)
    (record { state = record { places = states.without_place key state.places; serial = state.serial; number = state.number + 1 }; answer = Ok Gone }))
remove-is state key lived worn l w =
    λ i. cond (not (l i)) (record { state = state; answer = Ok Absent }) (cond (w i) (refuses state Worn)
    (record { state = record { places = states.without_place key state.places; serial = state.serial; number = state.number + 1 }; answer = Ok Gone }))

module _ {claims : ℕ → ℕ → ℕ} {last : ℕ} (head : Head) (count first : ℕ) (pages : PageMap) (state : states.Contents) (stand : PagesStandFor claims last (block_with count first head) pages state) (key : Name) (found : Option Stored) (is_found : found ≡ place_of_key key stand.entries.places) where
  -- the key lives where it was found
  lives : is_some (states.place_at key state.places) ≡ is_some found
  lives = lives-before (block_with count first head) pages state stand key ∙ ap is_some (sym is_found)

  -- the state's number is page 0's
  number-is : state.number ≡ head.number
  number-is = ap (λ (s : states.Contents). s.number) stand.is

  -- and so is its serial
  serial-is : state.serial ≡ head.serial
  serial-is = ap (λ (s : states.Contents). s.serial) stand.is

  -- page 0 counts the state's places
  live-is : length state.places ≡ head.live
  live-is = live-before (block_with count first head) pages state stand

  -- the last update number
  is-worn : head.number ≡ 2 ^ 40 → (state.number == 2 ^ 40) ≡ true
  is-worn last = eq-eqb state.number (2 ^ 40) (number-is ∙ last)

  not-worn : head.number ≢ 2 ^ 40 → (state.number == 2 ^ 40) ≡ false
  not-worn less = ne_eqb state.number (2 ^ 40) (λ e. less (sym number-is ∙ e))

  module _ (serial : ℕ) (place : Place) where
    -- a new key is full where 1,000,000 places live
    pub put-full : is_none found ≡ true → 1000000 ≤ head.live → (put_at state key serial place).answer ≡ Err Full
    put-full new many =
        let new_place : is_none (states.place_at key state.places) ≡ true = ap not lives ∙ new in
        let full : nat_le 1000000 (length state.places) ≡ true = le-leb 1000000 (length state.places) (omega (arith, live-is, many)) in
        let test : (nat_le 1000000 (length state.places) && is_none (states.place_at key state.places)) ≡ true = λ i. full i && new_place i in
        ap (λ (e : Effect). e.answer) (put-is state key serial place true (state.number == 2 ^ 40) (is_some (states.place_at key state.places)) test refl refl)

    -- where there is room the key is not refused
    room-test : (is_none found ≡ true → head.live < 1000000) → (nat_le 1000000 (length state.places) && is_none (states.place_at key state.places)) ≡ false
    room-test room = split (is_none found) refl
      where
        split : (b : Bool) → is_none found ≡ b → (nat_le 1000000 (length state.places) && is_none (states.place_at key state.places)) ≡ false
        split true new =
            let few : nat_le 1000000 (length state.places) ≡ false = lt-leb 1000000 (length state.places) (let less = room new in omega (arith, live-is, less)) in
            rw few refl
        split false old =
            let lived : is_none (states.place_at key state.places) ≡ false = ap not lives ∙ old in
            rw lived (either (nat_le 1000000 (length state.places)))
          where
            either : (b : Bool) → (b && false) ≡ false
            either true = refl
            either false = refl

    -- at the last update number a put is worn
    pub put-worn : (is_none found ≡ true → head.live < 1000000) → head.number ≡ 2 ^ 40 → (put_at state key serial place).answer ≡ Err Worn
    put-worn room last =
        ap (λ (e : Effect). e.answer) (put-is state key serial place false true (is_some (states.place_at key state.places)) (room-test room) (is-worn last) refl)

    -- and else it puts the place
    pub put-done : (is_none found ≡ true → head.live < 1000000) → head.number ≢ 2 ^ 40
        → put_at state key serial place
        ≡ record { state = record { places = states.with_place key place state.places; serial = serial; number = head.number + 1 }; answer = Ok (cond (is_none found) New Replaced) }
    put-done room less =
        put-is state key serial place false false (is_some found) (room-test room) (not-worn less) lives
        ∙ λ i. record { state = record { places = states.with_place key place state.places; serial = serial; number = number-is i + 1 }; answer = Ok (which (is_some found) i) }
      where
        which : (b : Bool) → cond b Replaced New ≡ cond (not b) New Replaced
        which true = refl
        which false = refl

  -- an absent key changes nothing
  pub remove-absent : is_some found ≡ false → removed_at state key ≡ record { state = state; answer = Ok Absent }
  remove-absent none = remove-is state key false (state.number == 2 ^ 40) (lives ∙ none) refl

  -- at the last update number a removal is worn
  pub remove-worn : is_some found ≡ true → head.number ≡ 2 ^ 40 → (removed_at state key).answer ≡ Err Worn
  remove-worn some last = ap (λ (e : Effect). e.answer) (remove-is state key true true (lives ∙ some) (is-worn last))

  -- and else it takes the place out
  pub remove-done : is_some found ≡ true → head.number ≢ 2 ^ 40
      → removed_at state key ≡ record { state = record { places = states.without_place key state.places; serial = head.serial; number = head.number + 1 }; answer = Ok Gone }
  remove-done some less =
      remove-is state key true false (lives ∙ some) (not-worn less)
      ∙ λ i. record { state = record { places = states.without_place key state.places; serial = serial-is i; number = number-is i + 1 }; answer = Ok Gone }

  -- ---- pages

  -- what was found counts as the tables have it
  counted-as : (b : Bool) → is_some found ≡ b → ◌≡◌ {A = ℕ} (cond (is_some (place_of_key key stand.entries.places)) 1 0) (cond b 1 0)
  counted-as b is = ap (λ (f : Option Stored). cond (is_some f) 1 0) (sym is_found) ∙ ap (λ d. cond d 1 0) is

  -- where a place is put there is room for it
  pub room-left : (is_none found ≡ true → head.live < 1000000) → head.live < 2 ^ 32 → head.live + 1 < 2 ^ 32 + cond (is_some (place_of_key key stand.entries.places)) 1 0
  room-left room small = at (is_some found) refl
    where
      at : (b : Bool) → is_some found ≡ b → head.live + 1 < 2 ^ 32 + cond (is_some (place_of_key key stand.entries.places)) 1 0
      at true lived = let one = counted-as true lived in omega (arith, one, small)
      at false new = let less = room (ap not new) in omega (arith, less)

  -- and in the tables beside it
  pub few-left : (is_none found ≡ true → head.live < 1000000) → head.live < 2 ^ 32 → length (without_place key stand.entries.places) + 1 < 2 ^ 32
  few-left room small = let left = room-left room small in let live = stand.tables.live in omega (arith, left, live, length-without_place key stand.entries.places)

  -- one place more lives where the key was new
  counts-more : (live : ℕ) → live ≡ cond (is_none found) (head.live + 1) head.live → live + cond (is_some (place_of_key key stand.entries.places)) 1 0 ≡ head.live + 1
  counts-more live is = at (is_some found) refl
    where
      at : (b : Bool) → is_some found ≡ b → live + cond (is_some (place_of_key key stand.entries.places)) 1 0 ≡ head.live + 1
      at true lived = let one = counted-as true lived in let same : live ≡ head.live = is ∙ ap (λ b. cond (not b) (head.live + 1) head.live) lived in omega (arith, one, same)
      at false new = let none = counted-as false new in let more : live ≡ head.live + 1 = is ∙ ap (λ b. cond (not b) (head.live + 1) head.live) new in omega (arith, none, more)

-- below the last update number
below-last : (number : ℕ) → number ≤ 2 ^ 40 → number ≢ 2 ^ 40 → number < 2 ^ 40
below-last number most less = ⊎_elim (λ (below : number < 2 ^ 40). below) (λ (above : 2 ^ 40 ≤ number). absurd (less (omega (arith, most, above)))) (cases_lt number (2 ^ 40))

module _ (held : Option (List (List ℕ × ℕ))) (left : List Update) (head : Head) (count first : ℕ) (pages : PageMap) (state : states.Contents) (key : Name) (found : Option Stored) (most : head.number ≤ 2 ^ 40)
    (between : PageMap) (count_between first_between : ℕ) (counted : first_between < count_between) (more : count ≤ count_between) (tables : Tables)
    (after : PageMap) (count_after first_after : ℕ) (counted_after : first_after < count_after) (more_after : count_between ≤ count_after) (tree : Tree) where
  -- after a put of the tables and then of the tree, page 0's fields and the pages stand for the state with the place
  pub put-stands : (name : Option Name) (point : Position) (words : List (List ℕ × ℕ)) (label : List ℕ) (serial live : ℕ) → (is : StandAhead held (Put name point words label ∷ left) (block_with count first head) pages state) → (is_found : found ≡ place_of_key key is.stand.entries.places)
      → IsWordMap words → (is_none found ≡ true → head.live < 1000000) → head.live < 2 ^ 32 → head.number ≢ 2 ^ 40
      → head.serial ≤ serial → serial ≤ head.number + 2 → IsSerialAbove serial key → live ≡ cond (is_none found) (head.live + 1) head.live
      → tables.next_word ≡ next_by held key words head.next_word is.stand.entries
      → (changed : IsChanged (view pages count first is.stand.tables.free) (tables_in head) between count_between first_between tables (after_put_by held key point words label head.next_word is.stand.entries))
      → IsRegrown node_of (stock.view between head.rows count_between first_between changed.free) after tree.rows count_after first_after head.tree tree.root (option_map (entry_at key) found) (Some (entry_at key (stored_with point (by_number (pairs_by held key words head.next_word is.stand.entries)) label)))
      → StandAhead held left (block_with count_after first_after (head_with head tables tree live serial)) after (put_at state key serial (record { point = point; words = words; label = label })).state
  put-stands name point words label serial live is is_found map_of_words room small less later serials above lives_then next_is changed regrown =
      let old = block_with count first head in
      let spare = room-left head count first pages state is.stand key found is_found room small in
      let next = next-by held left name key point words label map_of_words old pages state is spare in
      let words_then : head.next_word ≤ tables.next_word = omega (arith, next.0, next_is) in
      let words_most : tables.next_word ≤ 64 * (last_number held left (head.number + 1) + 1) = omega (arith, next.1, next_is) in
      let last = last-put held left name point words label old pages state is (below-last head.number most less) in
      let range = after-range old (last_number held (Put name point words label ∷ left) head.number) is.stand.tables.range between count_between first_between tables live serial changed.free changed.apart counted more (last_number held left (head.number + 1)) last.0 last.1 later serials words_then words_most in
      let within = regrown-range head (last_number held left (head.number + 1)) tables live serial count_between first_between range (stock.view between head.rows count_between first_between changed.free) after count_after first_after tree (option_map (entry_at key) found) (Some (entry_at key (stored_with point (by_number (pairs_by held key words head.next_word is.stand.entries)) label))) regrown more_after counted_after in
      let gone : option_map (entry_at key) found ≡ option_map (entry_at key) (place_of_key key is.stand.entries.places) = ap (option_map (entry_at key)) is_found in
      subst (λ (e : Effect). StandAhead held left (block_with count_after first_after (head_with head tables tree live serial)) after e.state) (sym (put-done head count first pages state is.stand key found is_found serial (record { point = point; words = words; label = label }) room less))
      (stand-put-by held left name key point words label map_of_words old pages state is spare (block_with count_between first_between (head_with head tables (tree_in head) live serial)) between changed range (omega (arith, serials)) refl refl next_is later above
      (counts-more head count first pages state is.stand key found is_found live lives_then)
      (block_with count_after first_after (head_with head tables tree live serial)) after
      (subst (λ (item : Option Item). IsRegrown node_of (stock.view between head.rows count_between first_between changed.free) after tree.rows count_after first_after head.tree tree.root item (Some (entry_at key (stored_with point (by_number (pairs_by held key words head.next_word is.stand.entries)) label)))) gone regrown)
      within (omega (arith, serials)) refl (record { tables = refl; serial = refl; live = refl }))

  -- after a removal from the tables and then from the tree, they stand for the state without the place
  pub remove-stands : (stored : Stored) (live : ℕ) → (is : StandAhead held (Remove key ∷ left) (block_with count first head) pages state) → (is_found : found ≡ place_of_key key is.stand.entries.places)
      → found ≡ Some stored → head.number ≢ 2 ^ 40 → live + 1 ≡ head.live → tables.next_word ≡ head.next_word
      → (changed : IsChanged (view pages count first is.stand.tables.free) (tables_in head) between count_between first_between tables (after_remove key is.stand.entries))
      → IsRegrown node_of (stock.view between head.rows count_between first_between changed.free) after tree.rows count_after first_after head.tree tree.root (Some (entry_at key stored)) None
      → StandAhead held left (block_with count_after first_after (head_with head tables tree live head.serial)) after (removed_at state key).state
  remove-stands stored live is is_found there less lives_then next_is changed regrown =
      let old = block_with count first head in
      let some : is_some found ≡ true = ap is_some there in
      let one = counted-as head count first pages state is.stand key found is_found true some in
      let serials = is.stand.tables.serials in
      let last = last-remove held left key old pages state is (below-last head.number most less) in
      let range = after-range old (last_number held (Remove key ∷ left) head.number) is.stand.tables.range between count_between first_between tables live head.serial changed.free changed.apart counted more (last_number held left (head.number + 1)) last.0 last.1
      (omega arith) (omega (arith, serials)) (omega (arith, next_is)) (let words = last.2 in omega (arith, next_is, words)) in
      let within = regrown-range head (last_number held left (head.number + 1)) tables live head.serial count_between first_between range (stock.view between head.rows count_between first_between changed.free) after count_after first_after tree (Some (entry_at key stored)) None regrown more_after counted_after in
      subst (λ (e : Effect). StandAhead held left (block_with count_after first_after (head_with head tables tree live head.serial)) after e.state) (sym (remove-done head count first pages state is.stand key found is_found some less))
      (stand-remove-by held left key old pages state is (block_with count_between first_between (head_with head tables (tree_in head) live head.serial)) between changed range refl refl next_is refl (omega (arith, one, lives_then)) (omega arith)
      stored (sym is_found ∙ there) (block_with count_after first_after (head_with head tables tree live head.serial)) after regrown within (omega (arith, serials)) refl (record { tables = refl; serial = refl; live = refl }))
