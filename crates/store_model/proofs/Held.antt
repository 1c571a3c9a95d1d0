-- What putting a place does whose words were held ahead.
use Rattle.std.proofs.Common.{◌≡◌, ℕ, ◌+◌, ◌<◌, ◌≤◌, ◌==◌, eq-eqb, eqb-true, Bool, true, false, cond, ◌||◌, List, [], ◌∷◌, All, refl, sym, ap, subst, ◌∙◌, arith}
use Rattle.std.proofs.lemmas.List.Sums.{sum_by-cons}
use Rattle.std.specs.List.{AllByRecursion}
use Rattle.std.specs.Map.{keys_of}
use Rattle.term_impacts.specs.Pairs.{IsWordMap}
use Rattle.spatial_base.specs.Key.{Name, key_cmp_total}
use Rattle.spatial_base.specs.Point.{Position}
use Rattle.place_values.specs.declared.update.Update.{Update}
use Rattle.place_values.specs.declared.update.Update.TheVariants.{Put, Remove}
use Rattle.place_values.specs.State.{IsSerialAbove}
use Rattle.place_values.specs.State as states
use Rattle.row_codec.specs.declared.counted.Counted.{Counted}
use Rattle.row_codec.specs.declared.stored.Stored.{Stored}
use Rattle.row_codec.specs.Pairs.{Pair}
use Rattle.store_tables.specs.Coded.{IsPlaceEntry}
use Rattle.store_tables.specs.Entries.{Entries, place_of_key, with_place}
use Rattle.store_tables.specs.Words.{WordTablesAgree, has_number, holders}
use Rattle.store_tables.proofs.WordLemmas.{holders-with_place}
use Rattle.store_model.specs.Ahead.{AreNamed, IsNamed, ahead, number_in, pairs_for, place_count}
use Rattle.store_model.specs.Stands.{AreSoundFor, places_in}
use Rattle.store_model.specs.Updates.{Numbered, CanReleaseAll, after_held, by_number, has_pair, pairs_of, stored_with}
use Rattle.store_model.proofs.Steps.{word_at, claimed_beside, AreApart, AreAscending, AreNumbered, IsReleasing}
use Rattle.store_model.proofs.Chances.{can-release}
use Rattle.store_model.proofs.Numbers.{agree-claims}
use Rattle.store_model.proofs.Ordered.{sorted-insert}
use Rattle.store_model.proofs.Pairs.{apart-numbered, has_pair-by_number, held-stored_with}
use Rattle.store_model.proofs.Places.{apart-old, held_by, same-released}
use Rattle.store_model.proofs.Puts.{placed-agree, placed-entries, placed-places, placed-serials}
use Rattle.store_model.proofs.Releases.{releasing-all}

-- ---- words that were held ahead

-- words that have their numbers in a map have them as pairs
pub named-pairs : (numbers : List (List ℕ × ℕ)) (table : List (ℕ × Counted)) (words : List (List ℕ × ℕ)) → AllByRecursion (IsNamed numbers table) (keys_of words) → AreNumbered table words (pairs_for numbers words)
named-pairs numbers table [] known = tt
named-pairs numbers table (t ∷ words) known = (known.0.1, refl, named-pairs numbers table words known.1)

-- whether a word has this number
abbrev pub has_it : List (List ℕ × ℕ) → ℕ → List ℕ → Bool
has_it numbers n word = number_in numbers word == n

-- no number that is among no pairs counts
none-counts : (numbers : List (List ℕ × ℕ)) (n : ℕ) (words : List (List ℕ × ℕ)) → has_pair n (pairs_for numbers words) ≡ false → place_count (has_it numbers n) words ≡ 0
none-counts numbers n [] none = refl
none-counts numbers n (t ∷ words) none = by (λ e. none-counts numbers n words e) (number_in numbers t.0 == n) refl none
  where
    by : (has_pair n (pairs_for numbers words) ≡ false → place_count (has_it numbers n) words ≡ 0)
        → (b : Bool) → (number_in numbers t.0 == n) ≡ b → (b || has_pair n (pairs_for numbers words)) ≡ false → place_count (has_it numbers n) (t ∷ words) ≡ 0
    by behind true here e = absurd (cc e)
    by behind false here e =
        let none : ◌≡◌ {A = ℕ} (cond (has_it numbers n t.0) 1 0) 0 = ap (λ b. cond b 1 0) here in
        (let rest = behind e in omega (arith, none, rest, sum_by-cons (λ (u : List ℕ × ℕ). cond (has_it numbers n u.0) 1 0) t words))

-- Where no two words have one number, a number counts once if it is among the pairs.
pub counts-once : (numbers : List (List ℕ × ℕ)) (n : ℕ) (words : List (List ℕ × ℕ)) → AreApart (pairs_for numbers words) → place_count (has_it numbers n) words ≡ cond (has_pair n (pairs_for numbers words)) 1 0
counts-once numbers n [] apart = refl
counts-once numbers n (t ∷ words) apart = by (counts-once numbers n words apart.1) (number_in numbers t.0 == n) refl
  where
    by : place_count (has_it numbers n) words ≡ cond (has_pair n (pairs_for numbers words)) 1 0 → (b : Bool) → (number_in numbers t.0 == n) ≡ b → place_count (has_it numbers n) (t ∷ words) ≡ cond (b || has_pair n (pairs_for numbers words)) 1 0
    by rest true here =
        let one : ◌≡◌ {A = ℕ} (cond (has_it numbers n t.0) 1 0) 1 = ap (λ b. cond b 1 0) here in
        let none : has_pair n (pairs_for numbers words) ≡ false = ap (λ (k : ℕ). has_pair k (pairs_for numbers words)) (sym (eqb-true (number_in numbers t.0) n here)) ∙ apart.0 in
        omega (arith, one, none-counts numbers n words none, sum_by-cons (λ (u : List ℕ × ℕ). cond (has_it numbers n u.0) 1 0) t words)
    by rest false here =
        let none : ◌≡◌ {A = ℕ} (cond (has_it numbers n t.0) 1 0) 0 = ap (λ b. cond b 1 0) here in
        omega (arith, none, rest, sum_by-cons (λ (u : List ℕ × ℕ). cond (has_it numbers n u.0) 1 0) t words)

-- the number of a word of a place counts
word-counts : (numbers : List (List ℕ × ℕ)) (table next : List (ℕ × Counted)) (words : List (List ℕ × ℕ)) → ((n : ℕ) → 0 < place_count (has_it numbers n) words → word_at n next ≡ word_at n table)
    → AllByRecursion (IsNamed numbers table) (keys_of words) → AllByRecursion (IsNamed numbers next) (keys_of words)
word-counts numbers table next [] same known = tt
word-counts numbers table next (t ∷ words) same known =
    let one : ◌≡◌ {A = ℕ} (cond (has_it numbers (number_in numbers t.0) t.0) 1 0) 1 = ap (λ b. cond b 1 0) (eq-eqb (number_in numbers t.0) (number_in numbers t.0) refl) in (
      (known.0.0, same (number_in numbers t.0) (omega (arith, one, sum_by-cons (λ (u : List ℕ × ℕ). cond (has_it numbers (number_in numbers t.0) u.0) 1 0) t words)) ∙ known.0.1),
      word-counts numbers table next words (λ n some. same n (omega (arith, some, sum_by-cons (λ (u : List ℕ × ℕ). cond (has_it numbers n u.0) 1 0) t words))) known.1,
    )

-- where each number that is held ahead keeps its word, the words keep their numbers
pub named-kept : (numbers : List (List ℕ × ℕ)) (table next : List (ℕ × Counted)) (left : List Update) → ((n : ℕ) → 0 < ahead numbers left n → word_at n next ≡ word_at n table) → AreNamed numbers table left → AreNamed numbers next left
named-kept numbers table next [] same named = tt
named-kept numbers table next (Put key point words label ∷ left) same named = (
  word-counts numbers table next words (λ n some. same n (omega (arith, some))) named.0,
  named-kept numbers table next left (λ n some. same n (omega (arith, some))) named.1,
)
named-kept numbers table next (Remove key ∷ left) same named = (tt, named-kept numbers table next left same named.1)

-- ---- the place is put

module _ (numbers : List (List ℕ × ℕ)) (rest : ℕ → ℕ) (key : Name) (point : Position) (words : List (List ℕ × ℕ)) (label : List ℕ) (entries : Entries) (next_word : ℕ)
    (agree : WordTablesAgree (λ n. holders n entries.places + (place_count (has_it numbers n) words + rest n)) entries.texts entries.numbers next_word) (ascend : AreAscending entries) (each : All IsPlaceEntry entries.places)
    (map_of_words : IsWordMap words) (known : AllByRecursion (IsNamed numbers entries.numbers) (keys_of words)) where
  -- the words' numbers
  abbrev pairs : List Pair
  pairs = pairs_for numbers words

  -- the place that is put
  abbrev stored : Stored
  stored = stored_with point (by_number pairs) label

  -- the entries with it, before the old words are released
  abbrev then : Entries
  then = record entries { places = with_place key stored entries.places }

  -- the entries after the put
  abbrev after : Entries
  after = after_held key point pairs label entries

  -- what claims a number with it
  abbrev claims_then : ℕ → ℕ
  claims_then n = holders n (with_place key stored entries.places) + rest n

  -- the words have their numbers
  abbrev now : Numbered
  now = record { entries = entries; next_word = next_word; pairs = pairs }

  held-named : AreNumbered entries.numbers words pairs
  held-named = named-pairs numbers entries.numbers words known

  -- what is claimed for the places and ahead is claimed for the new places, ahead, and for the old words
  held-claims : (n : ℕ) → holders n entries.places + (place_count (has_it numbers n) words + rest n) ≡ claimed_beside (pairs_of (place_of_key key entries.places)) [] claims_then n
  held-claims n =
      let apart = apart-numbered entries.numbers words pairs held-named map_of_words.ascending in
      let holds : has_number n stored ≡ has_pair n pairs = ap (has_pair n) (held-stored_with point (by_number pairs) label) ∙ has_pair-by_number n pairs in
      let new : ◌≡◌ {A = ℕ} (cond (has_number n stored) 1 0) (cond (has_pair n pairs) 1 0) = ap (λ b. cond b 1 0) holds in
      omega (arith, holders-with_place n key stored entries.places ascend.places, held_by n (place_of_key key entries.places), new, counts-once numbers n words apart)

  -- with the place put, the old place still holds its words
  pub held-releasing : IsReleasing claims_then [] then next_word (pairs_of (place_of_key key entries.places)) then
  held-releasing = record {
    agree = agree-claims (λ n. holders n entries.places + (place_count (has_it numbers n) words + rest n)) (claimed_beside (pairs_of (place_of_key key entries.places)) [] claims_then) entries.texts entries.numbers next_word held-claims agree;
    ascend = record { places = sorted-insert key_cmp_total key stored entries.places ascend.places; texts = ascend.texts; numbers = ascend.numbers };
    keeps = λ n w is. is;
    places = refl;
  }

  -- each of them can be released
  pub can-release-held : CanReleaseAll [] (pairs_of (place_of_key key entries.places)) then
  can-release-held = can-release claims_then [] then next_word (pairs_of (place_of_key key entries.places)) then (apart-old key entries.places each) held-releasing

  -- and is
  held-released : IsReleasing claims_then [] then next_word [] after
  held-released = releasing-all claims_then [] then next_word (pairs_of (place_of_key key entries.places)) then (apart-old key entries.places each) held-releasing

  -- the place is at the key, and the others stay
  pub held-entries : after.places ≡ with_place key stored entries.places
  held-entries = placed-entries key point words label map_of_words entries next_word _ agree (λ n. omega arith) ascend now held-named (λ n w is. is) refl [] claims_then after (λ n. omega arith) held-released

  -- the tables are sound for what is held ahead then
  pub held-sound : (serial next : ℕ) → All (λ (e : Name × Stored). IsSerialAbove serial e.0) entries.places → serial ≤ next → IsSerialAbove next key → AreSoundFor (λ n k. k + rest n) after next_word next
  held-sound serial next serials le below = record {
    words = subst (λ (ps : List (Name × Stored)). WordTablesAgree (λ n. holders n ps + rest n) after.texts after.numbers next_word) (sym held-entries)
        (placed-agree key point words label map_of_words entries next_word _ agree (λ n. omega arith) ascend now held-named (λ n w is. is) refl [] claims_then after (λ n. omega arith) held-released);
    serials = placed-serials key point words label map_of_words entries next_word _ agree (λ n. omega arith) ascend now held-named (λ n w is. is) refl [] claims_then after (λ n. omega arith) held-released serial next serials le below;
  }

  -- the entries stand for the places with this one at the key
  pub held-places : places_in after ≡ states.with_place key (record { point = point; words = words; label = label }) (places_in entries)
  held-places = placed-places key point words label map_of_words entries next_word _ agree (λ n. omega arith) ascend now held-named (λ n w is. is) refl [] claims_then after (λ n. omega arith) held-released

  -- a number that is still held ahead keeps its word
  pub held-same : (n : ℕ) → 0 < rest n → word_at n after.numbers ≡ word_at n entries.numbers
  held-same n some = same-released claims_then [] then next_word after held-released n (omega (arith, some))
