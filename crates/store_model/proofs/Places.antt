-- Places by key: how many there are, how many of them hold a number, and the words that they have.
use Rattle.std.proofs.Common.{◌≡◌, ℕ, ◌+◌, ◌<◌, ◌≤◌, ◌^◌, ◌==◌, eq-eqb, Bool, true, false, cond, ◌||◌, is_some, List, [], ◌∷◌, length, All, Option, Some, None, IsSome, option_map, unwrap_or, refl, sym, ap, ◌∙◌, true≢false, arith, sum_by}
use Rattle.std.proofs.lemmas.List.Elements.{All-cons, All-head, All-nil, All-tail}
use Rattle.std.proofs.lemmas.List.Sums.{count_by-le-length, sum_by-cons}
use Rattle.std.proofs.lemmas.Map.Entries.{length-values_of, sum_by-insert_entry, sum_by-remove_entry}
use Rattle.std.proofs.lemmas.Map.Keys.{sorted_from_strictly_increasing}
use Rattle.std.specs.BTreeMap.{is_at}
use Rattle.std.specs.List.{AllByRecursion}
use Rattle.std.specs.List.Sorted.{IsStrictlySortedBy}
use Rattle.std.specs.Map.{keys_of, lookup, values_of}
use Rattle.spatial_base.specs.Key.{Name, key_cmp, key_cmp_total}
use Rattle.place_values.specs.State as states
use Rattle.row_codec.specs.declared.counted.Counted.{Counted}
use Rattle.row_codec.specs.declared.stored.Stored.{Stored}
use Rattle.row_codec.specs.Pairs.{Pair}
use Rattle.row_codec.specs.Stored.{held_pairs}
use Rattle.store_tables.specs.Coded.{IsPlaceEntry}
use Rattle.store_tables.specs.Entries.{Entries, place_of_key, with_place, without_place, word_of_number}
use Rattle.store_tables.specs.Words.{WordTablesAgree, WordsAgree, has_number, holders}
use Rattle.store_tables.proofs.WordLemmas.{holders-without_place, known-claimed, words_of_pairs-same}
use Rattle.store_model.specs.Stands.{place_in, places_in}
use Rattle.store_model.proofs.Steps.{word_at, claimed_beside, AreNumbered, AreApart, IsReleasing}
use Rattle.store_model.specs.Updates.{has_pair, pairs_of}
use Rattle.store_model.proofs.Numbers.{agree-claims, claimed-none}
use Rattle.store_model.proofs.Ordered.{lookup-map}
use Rattle.store_model.proofs.Pairs.{apart-ascending}

-- ---- places by key

-- the place at a key is the one that the tables have there
pub place-at : (key : Name) (entries : Entries) → states.place_at key (places_in entries) ≡ option_map (place_in entries.numbers) (place_of_key key entries.places)
place-at key entries = lookup-map (place_in entries.numbers) (is_at (key_cmp key)) entries.places

-- as many places as entries
one_each : {X : Type 0} (xs : List X) → sum_by (λ x. 1) xs ≡ length xs
one_each [] = refl
one_each (x ∷ xs) = let rest = one_each xs in omega (arith, sum_by-cons (λ y. 1) x xs)

-- a place that is found counts for one
one_found : {X : Type 0} (found : Option X) → ◌≡◌ {A = ℕ} (unwrap_or (option_map (λ x. 1) found) 0) (cond (is_some found) 1 0)
one_found None = refl
one_found (Some x) = refl

-- one place more, or as many as before where the key had one
pub length-with_place : (key : Name) (stored : Stored) (places : List (Name × Stored)) → IsStrictlySortedBy key_cmp (keys_of places)
    → length (with_place key stored places) + cond (is_some (place_of_key key places)) 1 0 ≡ length places + 1
length-with_place key stored places sorted =
    let sums = sum_by-insert_entry (λ (s : Stored). 1) key_cmp_total places key stored sorted in
    omega (arith, sums, one_found (place_of_key key places), one_each (values_of (with_place key stored places)), one_each (values_of places), length-values_of (with_place key stored places), length-values_of places)

-- one place less, or as many as before where the key had none
pub length-without_place : (key : Name) (places : List (Name × Stored)) → length (without_place key places) + cond (is_some (place_of_key key places)) 1 0 ≡ length places
length-without_place key places =
    let sums = sum_by-remove_entry (λ (s : Stored). 1) (is_at (key_cmp key)) places in
    omega (arith, sums, one_found (place_of_key key places), one_each (values_of (without_place key places)), one_each (values_of places), length-values_of (without_place key places), length-values_of places)

-- ---- holders

-- the place at a key counts for its own numbers
pub held_by : (n : ℕ) (found : Option Stored) → ◌≡◌ {A = ℕ} (unwrap_or (option_map (λ s. cond (has_number n s) 1 0) found) 0) (cond (has_pair n (pairs_of found)) 1 0)
held_by n None = refl
held_by n (Some s) = refl

-- how many places hold a number but the place at a key
pub holders-but : (n : ℕ) (key : Name) (places : List (Name × Stored)) → holders n (without_place key places) + cond (has_pair n (pairs_of (place_of_key key places))) 1 0 ≡ holders n places
holders-but n key places = let all = holders-without_place n key places in omega (arith, all, held_by n (place_of_key key places))

-- a number that a place holds is claimed
pub held-claimed : (n : ℕ) (key : Name) (stored : Stored) (places : List (Name × Stored)) → place_of_key key places ≡ Some stored → has_pair n (held_pairs stored) ≡ true → 0 < holders n places
held-claimed n key stored places is held =
    let one : ◌≡◌ {A = ℕ} (cond (has_pair n (pairs_of (place_of_key key places))) 1 0) 1 = ap (λ (f : Option Stored). cond (has_pair n (pairs_of f)) 1 0) is ∙ ap (λ b. cond b 1 0) held in
    let all = holders-but n key places in
    omega (arith, one, all)

-- Where a place more has room, each number has that the place at the key doesn't hold.
pub room-put : (key : Name) (places : List (Name × Stored)) → length (without_place key places) + 1 < 2 ^ 32 → (n : ℕ) → has_pair n (pairs_of (place_of_key key places)) ≡ false → holders n places + 1 < 2 ^ 32
room-put key places room n fresh =
    let none : ◌≡◌ {A = ℕ} (cond (has_pair n (pairs_of (place_of_key key places))) 1 0) 0 = ap (λ b. cond b 1 0) fresh in
    omega (arith, none, holders-but n key places, count_by-le-length (has_number n) (values_of (without_place key places)), length-values_of (without_place key places))

-- the numbers of the place at a key have words
pub known-old : (key : Name) (entries : Entries) (next_word : ℕ) → WordsAgree entries next_word → (n : ℕ) → has_pair n (pairs_of (place_of_key key entries.places)) ≡ true → IsSome (word_of_number n entries.numbers)
known-old key entries next_word agree n held =
    let one : ◌≡◌ {A = ℕ} (cond (has_pair n (pairs_of (place_of_key key entries.places))) 1 0) 1 = ap (λ b. cond b 1 0) held in
    let all = holders-but n key entries.places in
    known-claimed (λ m. holders m entries.places) entries.texts entries.numbers next_word n agree (omega (arith, one, all))

-- the numbers of a place that is found are apart
apart_found : (test : Name → Bool) (places : List (Name × Stored)) → All IsPlaceEntry places → AreApart (pairs_of (lookup test places))
apart_found test [] each = tt
apart_found test (e ∷ places) each = here (test e.0) (apart_found test places (All-tail IsPlaceEntry e places each))
  where
    here : (b : Bool) → AreApart (pairs_of (lookup test places)) → AreApart (pairs_of (cond b (Some e.1) (lookup test places)))
    here true rest = apart-ascending (held_pairs e.1) (sorted_from_strictly_increasing (keys_of (held_pairs e.1)) (All-head IsPlaceEntry e places each).1.1.ascending)
    here false rest = rest

-- they are apart
pub apart-old : (key : Name) (places : List (Name × Stored)) → All IsPlaceEntry places → AreApart (pairs_of (place_of_key key places))
apart-old key places each = apart_found (is_at (key_cmp key)) places each

-- each number of each place has a word
pub known-each : (entries : Entries) (next_word : ℕ) → WordsAgree entries next_word → AllByRecursion (λ (e : Name × Stored). (n : ℕ) → has_pair n (held_pairs e.1) ≡ true → IsSome (word_of_number n entries.numbers)) entries.places
known-each entries next_word agree = known entries.places (λ n claimed. known-claimed (λ m. holders m entries.places) entries.texts entries.numbers next_word n agree claimed)
  where
    known : (places : List (Name × Stored)) → ((n : ℕ) → 0 < holders n places → IsSome (word_of_number n entries.numbers)) → AllByRecursion (λ (e : Name × Stored). (n : ℕ) → has_pair n (held_pairs e.1) ≡ true → IsSome (word_of_number n entries.numbers)) places
    known [] all = tt
    known (e ∷ places) all =
        let one = λ (n : ℕ). sum_by-cons (λ (s : Stored). cond (has_number n s) 1 0) e.1 (values_of places) in (
          λ n held. (let here : ◌≡◌ {A = ℕ} (cond (has_pair n (held_pairs e.1)) 1 0) 1 = ap (λ b. cond b 1 0) held in all n (omega (arith, one n, here))),
          known places (λ n claimed. all n (omega (arith, one n, claimed))),
        )

-- ---- words

-- each row has a word
pub word_of_row : (found : Option Counted) → IsSome found → (w : List ℕ) × (option_map (λ (c : Counted). c.word) found ≡ Some w)
word_of_row None e = absurd (true≢false (sym e))
word_of_row (Some c) e = (c.word, refl)

-- a number that is claimed has a word
pub named-claimed : (claims : ℕ → ℕ) (texts : List (List ℕ × ℕ)) (numbers : List (ℕ × Counted)) (next_word n : ℕ) → WordTablesAgree claims texts numbers next_word → 0 < claims n → (w : List ℕ) × (word_at n numbers ≡ Some w)
named-claimed claims texts numbers next_word n agree claimed = word_of_row (word_of_number n numbers) (known-claimed claims texts numbers next_word n agree claimed)

-- after the releases the tables agree with the claims
pub agree-released : (claims : ℕ → ℕ) (new : List Pair) (before : Entries) (next_word : ℕ) (after : Entries) → IsReleasing claims new before next_word [] after → WordTablesAgree claims after.texts after.numbers next_word
agree-released claims new before next_word after is = agree-claims (claimed_beside [] new claims) claims after.texts after.numbers next_word (λ n. sym (claimed-none claims new n)) is.agree

-- and a number that is claimed has the word that it had
pub same-released : (claims : ℕ → ℕ) (new : List Pair) (before : Entries) (next_word : ℕ) (after : Entries) → IsReleasing claims new before next_word [] after
    → (n : ℕ) → 0 < claims n → word_at n after.numbers ≡ word_at n before.numbers
same-released claims new before next_word after is n claimed =
    let named = named-claimed claims after.texts after.numbers next_word n (agree-released claims new before next_word after is) claimed in
    named.1 ∙ sym (is.keeps n named.0 named.1)

-- what holds of each number that is among the pairs holds of each pair's
pub each_paired : (P : ℕ → Type 0) (pairs : List Pair) → ((n : ℕ) → has_pair n pairs ≡ true → P n) → All (λ p. P p.0) pairs
each_paired P [] all = All-nil (λ p. P p.0)
each_paired P (p ∷ pairs) all =
    All-cons (λ q. P q.0) p pairs (all p.0 (ap (λ (b : Bool). b || has_pair p.0 pairs) (eq-eqb p.0 p.0 refl))) (each_paired P pairs (λ n held. all n (behind (p.0 == n) held)))
  where
    behind : {b : Bool} (a : Bool) → b ≡ true → (a || b) ≡ true
    behind true e = refl
    behind false e = e

-- a place whose numbers keep their words keeps its own
pub place-same : (old new : List (ℕ × Counted)) (stored : Stored) → ((n : ℕ) → has_pair n (held_pairs stored) ≡ true → word_at n new ≡ word_at n old) → place_in new stored ≡ place_in old stored
place-same old new stored same =
    ap (λ (ws : List (List ℕ × ℕ)). record { point = stored.point; words = ws; label = stored.label }) (words_of_pairs-same old new (held_pairs stored) (each_paired (λ n. word_at n new ≡ word_at n old) (held_pairs stored) same))

-- words have their numbers where those have the same words
pub numbered-same : (old new : List (ℕ × Counted)) (words : List (List ℕ × ℕ)) (pairs : List Pair) → All (λ p. word_at p.0 new ≡ word_at p.0 old) pairs → AreNumbered old words pairs → AreNumbered new words pairs
numbered-same old new [] [] same named = tt
numbered-same old new [] (p ∷ pairs) same named = absurd named
numbered-same old new (t ∷ words) [] same named = absurd named
numbered-same old new (t ∷ words) (p ∷ pairs) same named = (
  All-head (λ (q : Pair). word_at q.0 new ≡ word_at q.0 old) p pairs same ∙ named.0,
  named.1,
  numbered-same old new words pairs (All-tail (λ (q : Pair). word_at q.0 new ≡ word_at q.0 old) p pairs same) named.2,
)

-- a word with an impact from 1 to 255
abbrev HasTermImpact : List ℕ × ℕ → Type 0
HasTermImpact term = (1 ≤ term.1) × (term.1 ≤ 255)
