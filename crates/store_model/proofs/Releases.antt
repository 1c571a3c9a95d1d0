-- The words that a place no longer holds are released one after another.
use Rattle.std.proofs.Common.{◌≡◌, ℕ, ◌+◌, ◌-◌, ◌==◌, eq-eqb, eqb-true, Bool, true, false, cond, ◌||◌, nat_le, List, [], ◌∷◌, Option, Some, None, IsSome, option_map, refl, sym, ap, ◌∙◌, true≢false, arith}
use Rattle.std.specs.BTreeMap.{insert_entry, is_at}
use Rattle.std.specs.Map.{remove_entry}
use Rattle.std.specs.Ordering.{nat_cmp}
use Rattle.row_codec.specs.declared.counted.Counted.{Counted}
use Rattle.row_codec.specs.Pairs.{Pair}
use Rattle.store_tables.specs.Entries.{Entries, word_cmp, word_of_number}
use Rattle.store_tables.specs.Words.{claimed_less, released, without_hold}
use Rattle.store_tables.proofs.MapLemmas.{lookup-insert, lookup-remove, numbers_are_ordered, same_from_test}
use Rattle.store_tables.proofs.WordLemmas.{agree-without_hold, known-claimed}
use Rattle.store_model.specs.Updates.{has_pair, released_all}
use Rattle.store_model.proofs.Steps.{word_at, KeepsWords, claimed_beside, AreAscending, IsReleasing, AreApart}
use Rattle.store_model.proofs.Numbers.{agree-claims}
use Rattle.store_tables.proofs.WordLemmas.{no_word}
use Rattle.store_model.proofs.Ordered.{sorted-insert, sorted-remove}

-- ---- one word

-- after a release no number has another word than before
pub keeps-release : (entries : Entries) (number : ℕ) → AreAscending entries → KeepsWords (without_hold number entries).numbers entries.numbers
keeps-release entries number ascend n w = found (word_of_number number entries.numbers) refl
  where
    gone : (b : Bool) → option_map (λ (c : Counted). c.word) (cond b None (word_of_number n entries.numbers)) ≡ Some w → word_at n entries.numbers ≡ Some w
    gone true e = absurd (no_word w e)
    gone false e = e

    fewer : (counted : Counted) → word_of_number number entries.numbers ≡ Some counted → (b : Bool) → is_at (nat_cmp n) number ≡ b
        → option_map (λ (c : Counted). c.word) (cond b (Some (record counted { places = counted.places - 1 })) (word_of_number n entries.numbers)) ≡ Some w → word_at n entries.numbers ≡ Some w
    fewer counted is true at e = ap (λ (k : ℕ). word_at k entries.numbers) (same_from_test numbers_are_ordered n number at) ∙ ap (option_map (λ (c : Counted). c.word)) is ∙ e
    fewer counted is false at e = e

    left : (counted : Counted) → word_of_number number entries.numbers ≡ Some counted → (b : Bool)
        → word_at n (cond b (record entries { texts = remove_entry (is_at (word_cmp counted.word)) entries.texts; numbers = remove_entry (is_at (nat_cmp number)) entries.numbers })
        (record entries { numbers = insert_entry nat_cmp entries.numbers number (record counted { places = counted.places - 1 }) })).numbers ≡ Some w
        → word_at n entries.numbers ≡ Some w
    left counted is true e = gone (is_at (nat_cmp number) n) (sym (ap (option_map (λ (c : Counted). c.word)) (lookup-remove numbers_are_ordered n number entries.numbers ascend.numbers)) ∙ e)
    left counted is false e = fewer counted is (is_at (nat_cmp n) number) refl (sym (ap (option_map (λ (c : Counted). c.word)) (lookup-insert numbers_are_ordered n number _ entries.numbers)) ∙ e)

    found : (f : Option Counted) → word_of_number number entries.numbers ≡ f → word_at n (released number f entries).numbers ≡ Some w → word_at n entries.numbers ≡ Some w
    found None is e = e
    found (Some counted) is e = left counted is (nat_le counted.places 1) e

-- the tables stay in order
pub ascend-release : (entries : Entries) (number : ℕ) → AreAscending entries → AreAscending (without_hold number entries)
ascend-release entries number ascend = found (word_of_number number entries.numbers)
  where
    left : (counted : Counted) (b : Bool)
        → AreAscending (cond b (record entries { texts = remove_entry (is_at (word_cmp counted.word)) entries.texts; numbers = remove_entry (is_at (nat_cmp number)) entries.numbers })
        (record entries { numbers = insert_entry nat_cmp entries.numbers number (record counted { places = counted.places - 1 }) }))
    left counted true = record {
      places = ascend.places;
      texts = sorted-remove word_cmp (is_at (word_cmp counted.word)) entries.texts ascend.texts;
      numbers = sorted-remove nat_cmp (is_at (nat_cmp number)) entries.numbers ascend.numbers;
    }
    left counted false = record {
      places = ascend.places;
      texts = ascend.texts;
      numbers = sorted-insert numbers_are_ordered.total number (record counted { places = counted.places - 1 }) entries.numbers ascend.numbers;
    }

    found : (f : Option Counted) → AreAscending (released number f entries)
    found None = ascend
    found (Some counted) = left counted (nat_le counted.places 1)

-- and the places stay
pub places-release : (entries : Entries) (number : ℕ) → (without_hold number entries).places ≡ entries.places
places-release entries number = found (word_of_number number entries.numbers)
  where
    left : (counted : Counted) (b : Bool)
        → (cond b (record entries { texts = remove_entry (is_at (word_cmp counted.word)) entries.texts; numbers = remove_entry (is_at (nat_cmp number)) entries.numbers })
        (record entries { numbers = insert_entry nat_cmp entries.numbers number (record counted { places = counted.places - 1 }) })).places ≡ entries.places
    left counted true = refl
    left counted false = refl

    found : (f : Option Counted) → (released number f entries).places ≡ entries.places
    found None = refl
    found (Some counted) = left counted (nat_le counted.places 1)

-- ---- claims

-- a number of the new pairs isn't claimed for the old one
claimed-new : (claims : ℕ → ℕ) (new left : List Pair) (pair : Pair) → has_pair pair.0 new ≡ true → (n : ℕ) → claimed_beside (pair ∷ left) new claims n ≡ claimed_beside left new claims n
claimed-new claims new left pair held n = split (pair.0 == n) refl
  where
    split : (b : Bool) → (pair.0 == n) ≡ b → claims n + cond (has_pair n new) 0 (cond (b || has_pair n left) 1 0) ≡ claimed_beside left new claims n
    split true here =
        let in_new : has_pair n new ≡ true = ap (λ (k : ℕ). has_pair k new) (sym (eqb-true pair.0 n here)) ∙ held in
        rw in_new refl
    split false other = refl

-- one claim less for a number that is among none of the pairs that are left
claimed-gone : (claims : ℕ → ℕ) (new left : List Pair) (pair : Pair) → has_pair pair.0 new ≡ false → has_pair pair.0 left ≡ false
    → (n : ℕ) → claimed_less pair.0 (claimed_beside (pair ∷ left) new claims) n ≡ claimed_beside left new claims n
claimed-gone claims new left pair fresh apart n = split (pair.0 == n) refl
  where
    split : (b : Bool) → (pair.0 == n) ≡ b
        → cond b ((claims n + cond (has_pair n new) 0 (cond (b || has_pair n left) 1 0)) - 1) (claims n + cond (has_pair n new) 0 (cond (b || has_pair n left) 1 0)) ≡ claimed_beside left new claims n
    split true here =
        let same : pair.0 ≡ n = eqb-true pair.0 n here in
        let in_new : has_pair n new ≡ false = ap (λ (k : ℕ). has_pair k new) (sym same) ∙ fresh in
        let in_left : has_pair n left ≡ false = ap (λ (k : ℕ). has_pair k left) (sym same) ∙ apart in
        rw (in_new, in_left) (omega arith)
    split false other = refl

-- ---- step by step

module _ (claims : ℕ → ℕ) (new : List Pair) (before : Entries) (next_word : ℕ) (pair : Pair) (left : List Pair) (entries : Entries) (is : IsReleasing claims new before next_word (pair ∷ left) entries) where
  -- a number that is to be released has a word
  pub releasing-known : has_pair pair.0 new ≡ false → IsSome (word_of_number pair.0 entries.numbers)
  releasing-known fresh =
      let here : (pair.0 == pair.0) ≡ true = eq-eqb pair.0 pair.0 refl in
      let claimed : claimed_beside (pair ∷ left) new claims pair.0 ≡ claims pair.0 + 1 = rw (fresh, here) refl in
      known-claimed (claimed_beside (pair ∷ left) new claims) entries.texts entries.numbers next_word pair.0 is.agree (omega arith)

  -- a number of the new pairs is passed over
  pub releasing-kept : has_pair pair.0 new ≡ true → IsReleasing claims new before next_word left entries
  releasing-kept held = record {
    agree = agree-claims (claimed_beside (pair ∷ left) new claims) (claimed_beside left new claims) entries.texts entries.numbers next_word (claimed-new claims new left pair held) is.agree;
    ascend = is.ascend;
    keeps = is.keeps;
    places = is.places;
  }

  -- and another is released
  pub releasing-release : has_pair pair.0 new ≡ false → has_pair pair.0 left ≡ false → IsReleasing claims new before next_word left (without_hold pair.0 entries)
  releasing-release fresh apart = found (word_of_number pair.0 entries.numbers) refl (releasing-known fresh)
    where
      found : (f : Option Counted) → word_of_number pair.0 entries.numbers ≡ f → IsSome f → IsReleasing claims new before next_word left (without_hold pair.0 entries)
      found None e some = absurd (true≢false (sym some))
      found (Some counted) e some = record {
        agree = agree-claims (claimed_less pair.0 (claimed_beside (pair ∷ left) new claims)) (claimed_beside left new claims) _ _ next_word (claimed-gone claims new left pair fresh apart)
            (agree-without_hold (claimed_beside (pair ∷ left) new claims) entries next_word pair.0 counted is.ascend.texts is.ascend.numbers is.agree e);
        ascend = ascend-release entries pair.0 is.ascend;
        keeps = λ n w at. is.keeps n w (keeps-release entries pair.0 is.ascend n w at);
        places = places-release entries pair.0 ∙ is.places;
      }

-- ---- all of them

-- all that is left is released
pub releasing-all : (claims : ℕ → ℕ) (new : List Pair) (before : Entries) (next_word : ℕ) (left : List Pair) (entries : Entries) → AreApart left → IsReleasing claims new before next_word left entries
    → IsReleasing claims new before next_word [] (released_all new left entries)
releasing-all claims new before next_word [] entries apart is = is
releasing-all claims new before next_word (pair ∷ left) entries apart is = split (λ then is_then. releasing-all claims new before next_word left then apart.1 is_then) (has_pair pair.0 new) refl
  where
    split : ((then : Entries) → IsReleasing claims new before next_word left then → IsReleasing claims new before next_word [] (released_all new left then))
        → (b : Bool) → has_pair pair.0 new ≡ b → IsReleasing claims new before next_word [] (cond b (released_all new left entries) (released_all new left (without_hold pair.0 entries)))
    split go true held = go entries (releasing-kept claims new before next_word pair left entries is held)
    split go false fresh = go (without_hold pair.0 entries) (releasing-release claims new before next_word pair left entries is fresh apart.0)

-- what is released is told by the numbers of the new pairs alone
pub released_all-same : (new other left : List Pair) (entries : Entries) → ((n : ℕ) → has_pair n new ≡ has_pair n other) → released_all new left entries ≡ released_all other left entries
released_all-same new other [] entries same = refl
released_all-same new other (pair ∷ left) entries same =
    λ i. cond (same pair.0 i) (released_all-same new other left entries same i) (released_all-same new other left (without_hold pair.0 entries) same i)
