-- What putting a place does to the state that the entries stand for.
use Rattle.std.proofs.Common.{◌≡◌, ℕ, ◌+◌, ◌<◌, ◌≤◌, ◌^◌, Bool, true, false, cond, List, [], length, All, Option, Some, None, option_map, refl, sym, ap, subst, ◌∙◌, arith}
use Rattle.std.proofs.lemmas.List.Elements.{All-weaker}
use Rattle.std.proofs.lemmas.Map.Made.{keys_of-map_values}
use Rattle.std.specs.BTreeMap.{is_at}
use Rattle.std.specs.List.Sorted.{IsStrictlySortedBy}
use Rattle.std.specs.Map.{keys_of}
use Rattle.term_impacts.specs.Pairs.{IsWordMap}
use Rattle.spatial_base.specs.Key.{Name, key_cmp, key_cmp_total}
use Rattle.spatial_base.specs.Point.{Position}
use Rattle.place_values.specs.declared.place.Place.{Place}
use Rattle.place_values.specs.State.{IsSerialAbove}
use Rattle.place_values.specs.State as states
use Rattle.place_values.proofs.Serials.{later}
use Rattle.row_codec.specs.declared.stored.Stored.{Stored}
use Rattle.row_codec.specs.Pairs.{Pair}
use Rattle.row_codec.specs.Stored.{held_pairs}
use Rattle.store_tables.specs.Coded.{IsEntryOf, IsPlaceEntry}
use Rattle.store_tables.specs.Entries.{Entries, place_of_key, with_place, without_place}
use Rattle.store_tables.specs.Words.{WordTablesAgree, WordsAgree, has_number, holders, words_of_pairs}
use Rattle.store_tables.proofs.EntryLemmas.{insert-each}
use Rattle.store_tables.proofs.MapLemmas.{keys_are_ordered, lookup-insert, same_from_test}
use Rattle.store_tables.proofs.WordLemmas.{holders-with_place}
use Rattle.store_model.specs.Stands.{AreSound, place_in, places_in}
use Rattle.store_model.proofs.Steps.{word_at, KeepsWords, claimed_beside, AreApart, AreAscending, AreNumbered, IsNumbering, IsReleasing}
use Rattle.store_model.specs.Updates.{Numbered, after_put, by_number, has_pair, numbered_for, pairs_of, stored_with}
use Rattle.store_model.proofs.Numbers.{agree-claims, numbering-all}
use Rattle.store_model.proofs.Ordered.{same_from_lookups, sorted-insert}
use Rattle.store_model.proofs.Pairs.{apart-numbered, has_pair-by_number, held-stored_with, words-by_number, words-numbered}
use Rattle.store_model.proofs.Places.{apart-old, each_paired, held-claimed, known-old, named-claimed, numbered-same, held_by, room-put, agree-released, place-at, place-same, same-released}
use Rattle.store_model.proofs.Releases.{releasing-all}

-- ---- a place whose words have their numbers

-- The words of a place have numbers, those of `now`, and with the place put at the key the words of the old one were released.
module _ (key : Name) (point : Position) (words : List (List ℕ × ℕ)) (label : List ℕ) (map_of_words : IsWordMap words) (entries : Entries) (next_word : ℕ) (claims : ℕ → ℕ) (agree : WordTablesAgree claims entries.texts entries.numbers next_word)
    (covers : (n : ℕ) → holders n entries.places ≤ claims n) (ascend : AreAscending entries) (now : Numbered) (named : AreNumbered now.entries.numbers words now.pairs) (keeps : KeepsWords entries.numbers now.entries.numbers)
    (same_places : now.entries.places ≡ entries.places) (new : List Pair) (claims_then : ℕ → ℕ) (after : Entries) (covers_then : (n : ℕ) → holders n (with_place key (stored_with point (by_number now.pairs) label) entries.places) ≤ claims_then n)
    (released : IsReleasing claims_then new (record now.entries { places = with_place key (stored_with point (by_number now.pairs) label) now.entries.places }) now.next_word [] after) where
  -- the place that was put
  abbrev placed : Stored
  placed = stored_with point (by_number now.pairs) label

  -- the entries with it, before the old words were released
  abbrev between : Entries
  between = record now.entries { places = with_place key placed now.entries.places }

  -- no two words have one number
  placed-apart : AreApart now.pairs
  placed-apart = apart-numbered now.entries.numbers words now.pairs named map_of_words.ascending

  -- the place holds the numbers of the words
  placed-holds : (n : ℕ) → has_number n placed ≡ has_pair n now.pairs
  placed-holds n = ap (has_pair n) (held-stored_with point (by_number now.pairs) label) ∙ has_pair-by_number n now.pairs

  -- the place is at the key, and the others stay
  pub placed-entries : after.places ≡ with_place key placed entries.places
  placed-entries = released.places ∙ ap (with_place key placed) same_places

  -- the tables agree with what is claimed then
  pub placed-agree : WordTablesAgree claims_then after.texts after.numbers now.next_word
  placed-agree = agree-released claims_then new between now.next_word after released

  -- the live automatic keys stay below the next serial
  pub placed-serials : (serial next : ℕ) → All (λ (e : Name × Stored). IsSerialAbove serial e.0) entries.places → serial ≤ next → IsSerialAbove next key → All (λ (e : Name × Stored). IsSerialAbove next e.0) after.places
  placed-serials serial next serials le below =
      subst (All (λ e. IsSerialAbove next e.0)) (sym placed-entries)
      (All-weaker (IsEntryOf (IsSerialAbove next) (λ s. Unit {0})) (λ e. IsSerialAbove next e.0) (λ e is. is.0) (with_place key placed entries.places)
      (insert-each key_cmp (IsSerialAbove next) (λ s. Unit {0}) key placed entries.places below tt
      (All-weaker (λ e. IsSerialAbove serial e.0) (IsEntryOf (IsSerialAbove next) (λ s. Unit {0})) (λ e is. (later serial next le e.0 is, tt)) entries.places serials)))

  -- a number that a place holds has the word that it was numbered with
  placed-same : (q : Name) (s : Stored) → place_of_key q (with_place key placed entries.places) ≡ Some s → (n : ℕ) → has_pair n (held_pairs s) ≡ true → word_at n after.numbers ≡ word_at n now.entries.numbers
  placed-same q s is n held = same-released claims_then new between now.next_word after released n (let some = held-claimed n q s (with_place key placed entries.places) is held in omega (arith, some, covers_then n))

  -- another place keeps its words
  placed-kept : (q : Name) (s : Stored) → place_of_key q (with_place key placed entries.places) ≡ Some s → place_of_key q entries.places ≡ Some s → place_in after.numbers s ≡ place_in entries.numbers s
  placed-kept q s is was =
      place-same entries.numbers after.numbers s (λ n held.
      let some = held-claimed n q s entries.places was held in
      let word = named-claimed claims entries.texts entries.numbers next_word n agree (omega (arith, some, covers n)) in
      placed-same q s is n held ∙ keeps n word.0 word.1 ∙ sym word.1)

  -- the place has the words
  placed-words : place_of_key key (with_place key placed entries.places) ≡ Some placed → place_in after.numbers placed ≡ record { point = point; words = words; label = label }
  placed-words is =
      let held = held-stored_with point (by_number now.pairs) label in
      let same : All (λ p. word_at p.0 after.numbers ≡ word_at p.0 now.entries.numbers) now.pairs =
      each_paired (λ n. word_at n after.numbers ≡ word_at n now.entries.numbers) now.pairs (λ n among. placed-same key placed is n (placed-holds n ∙ among)) in
      let still = numbered-same now.entries.numbers after.numbers words now.pairs same named in
      ap (λ (ws : List (List ℕ × ℕ)). record { point = point; words = ws; label = label })
      (ap (words_of_pairs after.numbers) held ∙ words-by_number claims_then after.texts after.numbers now.next_word placed-agree now.pairs placed-apart ∙ words-numbered after.numbers words now.pairs still map_of_words.ascending)

  -- the entries stand for the places with this one at the key
  pub placed-places : places_in after ≡ states.with_place key (record { point = point; words = words; label = label }) (places_in entries)
  placed-places =
      let place : Place = record { point = point; words = words; label = label } in
      let left : IsStrictlySortedBy key_cmp (keys_of (places_in after)) = subst (IsStrictlySortedBy key_cmp) (sym (keys_of-map_values (place_in after.numbers) after.places)) released.ascend.places in
      let all : IsStrictlySortedBy key_cmp (keys_of (places_in entries)) = subst (IsStrictlySortedBy key_cmp) (sym (keys_of-map_values (place_in entries.numbers) entries.places)) ascend.places in
      same_from_lookups keys_are_ordered _ _ left (sorted-insert key_cmp_total key place (places_in entries) all) (λ q.
      let test = is_at (key_cmp q) key in
      place-at q after
      ∙ ap (λ (ps : List (Name × Stored)). option_map (place_in after.numbers) (place_of_key q ps)) placed-entries
      ∙ split q test refl (place_of_key q entries.places) refl (lookup-insert keys_are_ordered q key placed entries.places)
      ∙ ap (cond test (Some place)) (sym (place-at q entries))
      ∙ sym (lookup-insert keys_are_ordered q key place (places_in entries)))
    where
      found : (q : Name) (f : Option Stored) → place_of_key q entries.places ≡ f → place_of_key q (with_place key placed entries.places) ≡ f → option_map (place_in after.numbers) f ≡ option_map (place_in entries.numbers) f
      found q None was is = refl
      found q (Some s) was is = ap Some (placed-kept q s is was)

      split : (q : Name) (b : Bool) → is_at (key_cmp q) key ≡ b → (f : Option Stored) → place_of_key q entries.places ≡ f → place_of_key q (with_place key placed entries.places) ≡ cond b (Some placed) (place_of_key q entries.places)
          → option_map (place_in after.numbers) (place_of_key q (with_place key placed entries.places)) ≡ cond b (Some (record { point = point; words = words; label = label })) (option_map (place_in entries.numbers) (place_of_key q entries.places))
      split q true at f was is =
          let same : q ≡ key = same_from_test keys_are_ordered q key at in
          let here : place_of_key key (with_place key placed entries.places) ≡ Some placed = ap (λ (k : Name). place_of_key k (with_place key placed entries.places)) (sym same) ∙ is in
          ap (option_map (place_in after.numbers)) is ∙ ap Some (placed-words here)
      split q false at f was is = ap (option_map (place_in after.numbers)) (is ∙ was) ∙ found q f was (is ∙ was) ∙ ap (option_map (place_in entries.numbers)) (sym was)

-- ---- a place whose words are numbered

module _ (key : Name) (point : Position) (words : List (List ℕ × ℕ)) (label : List ℕ) (entries : Entries) (next_word : ℕ) (agree : WordsAgree entries next_word) (ascend : AreAscending entries) (each : All IsPlaceEntry entries.places)
    (map_of_words : IsWordMap words) (room : length (without_place key entries.places) + 1 < 2 ^ 32) (numbers_left : next_word + length words ≤ 2 ^ 64) where
  -- how many places hold a number
  abbrev claims : ℕ → ℕ
  claims n = holders n entries.places

  -- the pairs of the place that was at the key
  abbrev old : List Pair
  old = pairs_of (place_of_key key entries.places)

  -- what is numbered
  abbrev now : Numbered
  now = numbered_for key words next_word entries

  -- the place that is put
  abbrev stored : Stored
  stored = stored_with point (by_number now.pairs) label

  -- the entries with it, before the old words are released
  abbrev then : Entries
  then = record now.entries { places = with_place key stored now.entries.places }

  -- the entries after the put
  abbrev after : Entries
  after = after_put key point words label next_word entries

  -- how many places hold a number, with it
  abbrev claims_then : ℕ → ℕ
  claims_then n = holders n (with_place key stored entries.places)

  -- the words are numbered
  pub put-numbered : IsNumbering claims old entries next_word words now
  put-numbered = numbering-all claims old entries next_word (room-put key entries.places room) words agree ascend (known-old key entries next_word agree) map_of_words.ascending

  -- the next number rises by at most the words
  pub put-next : (next_word ≤ now.next_word) × (now.next_word ≤ next_word + length words)
  put-next = (put-numbered.rises, put-numbered.few)

  -- it holds the numbers of the words
  pub put-holds : (n : ℕ) → has_number n stored ≡ has_pair n now.pairs
  put-holds n = ap (has_pair n) (held-stored_with point (by_number now.pairs) label) ∙ has_pair-by_number n now.pairs

  -- what is claimed for the numbered words and the old place is claimed for the new one and the old words that are left
  put-claims : (n : ℕ) → claimed_beside now.pairs old claims n ≡ claimed_beside old now.pairs claims_then n
  put-claims n =
      let sums = holders-with_place n key stored entries.places ascend.places in
      let before = held_by n (place_of_key key entries.places) in
      both (has_pair n old) (has_pair n now.pairs) (holders n entries.places) (holders n (with_place key stored entries.places))
      (ap (λ (m : ℕ). holders n (with_place key stored entries.places) + m) (sym before) ∙ sums ∙ ap (λ b. holders n entries.places + cond b 1 0) (put-holds n))
    where
      both : (a b : Bool) (x y : ℕ) → y + cond a 1 0 ≡ x + cond b 1 0 → x + cond a 0 (cond b 1 0) ≡ y + cond b 0 (cond a 1 0)
      both true true x y e = omega (arith, e)
      both true false x y e = omega (arith, e)
      both false true x y e = omega (arith, e)
      both false false x y e = omega (arith, e)

  -- with the place put, the old place still holds its words
  pub put-releasing : IsReleasing claims_then now.pairs then now.next_word old then
  put-releasing = record {
    agree = agree-claims (claimed_beside now.pairs old claims) (claimed_beside old now.pairs claims_then) now.entries.texts now.entries.numbers now.next_word put-claims put-numbered.agree;
    ascend = record { places = sorted-insert key_cmp_total key stored now.entries.places put-numbered.ascend.places; texts = put-numbered.ascend.texts; numbers = put-numbered.ascend.numbers };
    keeps = λ n w is. is;
    places = refl;
  }

  -- all old words that are left are released
  pub put-released : IsReleasing claims_then now.pairs then now.next_word [] after
  put-released = releasing-all claims_then now.pairs then now.next_word old then (apart-old key entries.places each) put-releasing

  -- the place is at the key, and the others stay
  pub put-entries : after.places ≡ with_place key stored entries.places
  put-entries = put-released.places ∙ ap (with_place key stored) put-numbered.places

  -- the tables are sound
  pub put-sound : (serial next : ℕ) → All (λ (e : Name × Stored). IsSerialAbove serial e.0) entries.places → serial ≤ next → IsSerialAbove next key → AreSound after now.next_word next
  put-sound serial next serials le below = record {
    words = subst (λ (ps : List (Name × Stored)). WordTablesAgree (λ n. holders n ps) after.texts after.numbers now.next_word) (sym put-entries) (agree-released claims_then now.pairs then now.next_word after put-released);
    serials = placed-serials key point words label map_of_words entries next_word claims agree (λ n. omega arith) ascend now put-numbered.named put-numbered.keeps put-numbered.places now.pairs claims_then after (λ n. omega arith) put-released
        serial next serials le below;
  }

  -- the entries stand for the places with this one at the key
  pub put-places : places_in after ≡ states.with_place key (record { point = point; words = words; label = label }) (places_in entries)
  put-places =
      placed-places key point words label map_of_words entries next_word claims agree (λ n. omega arith) ascend now put-numbered.named put-numbered.keeps put-numbered.places now.pairs claims_then after (λ n. omega arith) put-released
