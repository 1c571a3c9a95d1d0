-- What holding and releasing words does to the word tables.
use Rattle.std.proofs.Common.{◌≡◌, ◌↔◌, ℕ, ◌+◌, ◌-◌, ◌<◌, ◌≤◌, ◌==◌, eq-eqb, ⊎_elim, Bool, true, false, cond, nat_le, List, [], ◌∷◌, All, Option, Some, None, IsSome, IsSomeAnd, IfSome, option_map, unwrap_or, refl, sym, ap, subst, ◌∙◌, true≢false, arith}
use Rattle.std.proofs.lemmas.Bool.{cases_eq, leb-false, leb-true, ne_eqb}
use Rattle.std.proofs.lemmas.List.Elements.{All-head, All-tail}
use Rattle.std.proofs.lemmas.Map.Entries.{sum_by-insert_entry, sum_by-remove_entry}
use Rattle.std.specs.BTreeMap.{insert_entry, is_at}
use Rattle.std.specs.List.Sorted.{IsStrictlySortedBy}
use Rattle.std.specs.Map.{keys_of, remove_entry}
use Rattle.std.specs.Ordering.{nat_cmp}
use Rattle.spatial_base.specs.Key.{Name, key_cmp, key_cmp_total}
use Rattle.row_codec.specs.declared.counted.Counted.{Counted}
use Rattle.row_codec.specs.declared.stored.Stored.{Stored}
use Rattle.row_codec.specs.Pairs.{Pair}
use Rattle.store_tables.specs.Entries.{Entries, word_cmp, number_of_word, word_of_number, place_of_key, with_place, without_place}
use Rattle.store_tables.specs.Words.{WordTablesAgree, CanHold, CanHoldBy, CanRelease, IsHoldable, claimed_by, claimed_less, claimed_more, has_number, holders, next_after, number_for, places_in, places_of_number, released, texts_after, with_hold, with_holds, with_word, without_hold, word_in, words_of_pairs}
use Rattle.store_tables.proofs.EntryLemmas.{equal_test}
use Rattle.store_tables.proofs.MapLemmas.{lookup-insert, lookup-remove, numbers_are_ordered, same_from_test, test_of_same, words_are_ordered}

eqb_flip : (m n : ℕ) → (m == n) ≡ (n == m)
eqb_flip m n = ⊎_elim (λ (e : m ≡ n). eq-eqb m n e ∙ sym (eq-eqb n m (sym e))) (λ (ne : m ≡ n → ⊥). ne_eqb m n ne ∙ sym (ne_eqb n m (λ e. ne (sym e)))) (cases_eq m n)

no_number : (m : ℕ) → None ≡ Some m → ⊥
no_number m e = cc

pub no_word : (w : List ℕ) → None ≡ Some w → ⊥
no_word w e = cc

some_from_word : (found : Option Counted) (w : List ℕ) → word_in found ≡ Some w → IsSome found
some_from_word None w e = absurd (cc)
some_from_word (Some c) w e = refl

-- ---- more places

-- What a hold needs to know of the number that it puts at a word: only that word may have it, and no other may the word have.
pub record IsFor (word : List ℕ) (number : ℕ) (texts : List (List ℕ × ℕ)) (next_word next : ℕ) : Type 0 where
  pub alone : (w : List ℕ) → number_of_word w texts ≡ Some number → w ≡ word
  pub has : (m : ℕ) → number_of_word word texts ≡ Some m → m ≡ number
  pub below : number < next
  pub rises : next_word ≤ next

held_number : (places : ℕ) → 1 ≤ places → (claims : ℕ → ℕ) (texts : List (List ℕ × ℕ)) (numbers : List (ℕ × Counted)) (next_word next : ℕ) (word : List ℕ) (number : ℕ) → WordTablesAgree claims texts numbers next_word → IsFor word number texts next_word next
    → WordTablesAgree (claimed_by places number claims) (insert_entry word_cmp texts word number) (insert_entry nat_cmp numbers number (record { word = word; places = places_of_number number numbers + places })) next
held_number places one claims texts numbers next_word next word number agree is = record {
  inverse = λ w m.
      let l = lookup-insert words_are_ordered w word number texts in
      let r = lookup-insert numbers_are_ordered m number counted numbers in
      let both = inverse w m (is_at (word_cmp w) word) (is_at (nat_cmp m) number) refl refl in
      (λ h. ap word_in r ∙ both.0 (sym l ∙ h), λ h. l ∙ both.1 (ap word_in (sym r) ∙ h));
  counts = λ m. ap places_in (lookup-insert numbers_are_ordered m number counted numbers) ∙ counts m (is_at (nat_cmp m) number) refl
      ∙ ap (λ b. cond b (claims m + places) (claims m)) (sym (equal_test m number));
  some = λ m. subst (λ f. IfSome f (λ c. 1 ≤ c.places)) (sym (lookup-insert numbers_are_ordered m number counted numbers)) (some m (is_at (nat_cmp m) number));
  below = λ m there. below m (is_at (nat_cmp m) number) refl (subst IsSome (lookup-insert numbers_are_ordered m number counted numbers) there);
}
  where
    counted : Counted
    counted = record { word = word; places = places_of_number number numbers + places }

    inverse : (w : List ℕ) (m : ℕ) (b c : Bool) → is_at (word_cmp w) word ≡ b → is_at (nat_cmp m) number ≡ c
        → (cond b (Some number) (number_of_word w texts) ≡ Some m) ↔ (word_in (cond c (Some counted) (word_of_number m numbers)) ≡ Some w)
    inverse w m true true at_word at_number =
        let here : w ≡ word = same_from_test words_are_ordered w word at_word in
        let there : m ≡ number = same_from_test numbers_are_ordered m number at_number in
        (λ _. ap Some (sym here), λ _. ap Some (sym there))
    inverse w m true false at_word at_number =
        let here : w ≡ word = same_from_test words_are_ordered w word at_word in
        let other : m ≡ number → ⊥ = λ e. true≢false (sym (test_of_same numbers_are_ordered m number e) ∙ at_number) in
        (λ h. absurd (other (sym (cc h))), λ h. absurd (other (is.has m ((agree.inverse word m).1 (h ∙ ap Some here)))))
    inverse w m false true at_word at_number =
        let there : m ≡ number = same_from_test numbers_are_ordered m number at_number in
        let other : w ≡ word → ⊥ = λ e. true≢false (sym (test_of_same words_are_ordered w word e) ∙ at_word) in
        (λ h. absurd (other (is.alone w (h ∙ ap Some there))), λ h. absurd (other (sym (cc h))))
    inverse w m false false at_word at_number = agree.inverse w m

    counts : (m : ℕ) (c : Bool) → is_at (nat_cmp m) number ≡ c → places_in (cond c (Some counted) (word_of_number m numbers)) ≡ cond c (claims m + places) (claims m)
    counts m true at_number =
        let there : m ≡ number = same_from_test numbers_are_ordered m number at_number in
        ap (λ n. n + places) (agree.counts number ∙ ap claims (sym there))
    counts m false at_number = agree.counts m

    some : (m : ℕ) (c : Bool) → IfSome (cond c (Some counted) (word_of_number m numbers)) (λ k. 1 ≤ k.places)
    some m true = omega arith
    some m false = agree.some m

    below : (m : ℕ) (c : Bool) → is_at (nat_cmp m) number ≡ c → IsSome (cond c (Some counted) (word_of_number m numbers)) → m < next
    below m true at_number there = let same : m ≡ number = same_from_test numbers_are_ordered m number at_number in let lt = is.below in omega arith
    below m false at_number there = let lt = agree.below m there in let le = is.rises in omega arith

is_for : (places : ℕ) (claims : ℕ → ℕ) (texts : List (List ℕ × ℕ)) (numbers : List (ℕ × Counted)) (next_word : ℕ) (word : List ℕ) (found : Option ℕ) → WordTablesAgree claims texts numbers next_word → number_of_word word texts ≡ found
    → IsHoldable places word next_word numbers found → IsFor word (unwrap_or found next_word) texts next_word (next_after found next_word)
is_for places claims texts numbers next_word word None agree was can = record {
  alone = λ w there. absurd (no_word w (ap word_in (sym can) ∙ (agree.inverse w next_word).0 there));
  has = λ m there. absurd (no_number m (sym was ∙ there));
  below = omega arith;
  rises = omega arith;
}
is_for places claims texts numbers next_word word (Some number) agree was can = record {
  alone = λ w there. (let same : Some w ≡ Some word = sym ((agree.inverse w number).0 there) ∙ can.0 in cc same);
  has = λ m there. (let same : Some m ≡ Some number = sym there ∙ was in cc same);
  below = agree.below number (some_from_word (word_of_number number numbers) word can.0);
  rises = omega arith;
}

-- tables in which each word has the same number agree alike
agree-texts : (claims : ℕ → ℕ) (old new : List (List ℕ × ℕ)) (numbers : List (ℕ × Counted)) (next_word : ℕ) → ((w : List ℕ) → number_of_word w new ≡ number_of_word w old) → WordTablesAgree claims old numbers next_word → WordTablesAgree claims new numbers next_word
agree-texts claims old new numbers next_word same agree = record {
  inverse = λ w m. (λ h. (agree.inverse w m).0 (sym (same w) ∙ h), λ h. same w ∙ (agree.inverse w m).1 h);
  counts = agree.counts;
  some = agree.some;
  below = agree.below;
}

-- a word's number put at it again
put_again : (texts : List (List ℕ × ℕ)) (word : List ℕ) (number : ℕ) → number_of_word word texts ≡ Some number → (w : List ℕ) → number_of_word w texts ≡ number_of_word w (insert_entry word_cmp texts word number)
put_again texts word number was w = same (is_at (word_cmp w) word) refl ∙ sym (lookup-insert words_are_ordered w word number texts)
  where
    same : (b : Bool) → is_at (word_cmp w) word ≡ b → number_of_word w texts ≡ cond b (Some number) (number_of_word w texts)
    same true e = ap (λ (k : List ℕ). number_of_word k texts) (same_from_test words_are_ordered w word e) ∙ was
    same false e = refl

-- after a hold by some places the tables agree, and so many places more are claimed for the word
pub agree-with_holds : (places : ℕ) → 1 ≤ places → (claims : ℕ → ℕ) (entries : Entries) (next_word : ℕ) (word : List ℕ) → WordTablesAgree claims entries.texts entries.numbers next_word → CanHoldBy places word next_word entries
    → WordTablesAgree (claimed_by places (number_for word next_word entries.texts) claims) (with_holds places word next_word entries).texts (with_holds places word next_word entries).numbers (next_after (number_of_word word entries.texts) next_word)
agree-with_holds places one claims entries next_word word agree can = split (number_of_word word entries.texts) refl can
  where
    split : (found : Option ℕ) → number_of_word word entries.texts ≡ found → IsHoldable places word next_word entries.numbers found
        → WordTablesAgree (claimed_by places (unwrap_or found next_word) claims) (texts_after found word next_word entries.texts)
        (insert_entry nat_cmp entries.numbers (unwrap_or found next_word) (record { word = word; places = places_of_number (unwrap_or found next_word) entries.numbers + places })) (next_after found next_word)
    split None was holdable = held_number places one claims entries.texts entries.numbers next_word (next_word + 1) word next_word agree (is_for places claims entries.texts entries.numbers next_word word None agree was holdable)
    split (Some number) was holdable =
        agree-texts (claimed_by places number claims) (insert_entry word_cmp entries.texts word number) entries.texts _ next_word (put_again entries.texts word number was)
        (held_number places one claims entries.texts entries.numbers next_word next_word word number agree (is_for places claims entries.texts entries.numbers next_word word (Some number) agree was holdable))

-- after a hold by one place
pub agree-with_hold : (claims : ℕ → ℕ) (entries : Entries) (next_word : ℕ) (word : List ℕ) → WordTablesAgree claims entries.texts entries.numbers next_word → CanHold word next_word entries
    → WordTablesAgree (claimed_more (number_for word next_word entries.texts) claims) (with_hold word next_word entries).texts (with_hold word next_word entries).numbers (next_after (number_of_word word entries.texts) next_word)
agree-with_hold = agree-with_holds 1 (omega arith)

-- where the tables agree, each number that has a word can be released
pub can_release-agree : (claims : ℕ → ℕ) (entries : Entries) (next_word number : ℕ) → WordTablesAgree claims entries.texts entries.numbers next_word → IsSome (word_of_number number entries.numbers) → CanRelease number entries
can_release-agree claims entries next_word number agree there = releasable (word_of_number number entries.numbers) refl there
  where
    releasable : (row : Option Counted) → word_of_number number entries.numbers ≡ row → IsSome row → IsSomeAnd row (λ (c : Counted). c.places ≤ 1 → number_of_word c.word entries.texts ≡ Some number)
    releasable None e some = absurd (cc)
    releasable (Some counted) e some = λ last. (agree.inverse counted.word number).1 (ap word_in e)

-- ---- one place less

-- the last place goes
gone : (claims : ℕ → ℕ) (entries : Entries) (next_word number : ℕ) (counted : Counted) → IsStrictlySortedBy word_cmp (keys_of entries.texts) → IsStrictlySortedBy nat_cmp (keys_of entries.numbers)
    → WordTablesAgree claims entries.texts entries.numbers next_word → word_of_number number entries.numbers ≡ Some counted → counted.places ≤ 1
    → WordTablesAgree (claimed_less number claims) (remove_entry (is_at (word_cmp counted.word)) entries.texts) (remove_entry (is_at (nat_cmp number)) entries.numbers) next_word
gone claims entries next_word number counted texts_ascend numbers_ascend agree is last = record {
  inverse = λ w m.
      let l = lookup-remove words_are_ordered w counted.word entries.texts texts_ascend in
      let r = lookup-remove numbers_are_ordered m number entries.numbers numbers_ascend in
      let both = inverse w m (is_at (word_cmp counted.word) w) (is_at (nat_cmp number) m) refl refl in
      (λ h. ap word_in r ∙ both.0 (sym l ∙ h), λ h. l ∙ both.1 (ap word_in (sym r) ∙ h));
  counts = λ m. ap places_in (lookup-remove numbers_are_ordered m number entries.numbers numbers_ascend) ∙ counts m (is_at (nat_cmp number) m) refl
      ∙ ap (λ b. cond b (claims m - 1) (claims m)) (flipped m (is_at (nat_cmp number) m) refl);
  some = λ m. subst (λ f. IfSome f (λ c. 1 ≤ c.places)) (sym (lookup-remove numbers_are_ordered m number entries.numbers numbers_ascend)) (some m (is_at (nat_cmp number) m));
  below = λ m there. below m (is_at (nat_cmp number) m) (subst IsSome (lookup-remove numbers_are_ordered m number entries.numbers numbers_ascend) there);
}
  where
    had : number_of_word counted.word entries.texts ≡ Some number
    had = (agree.inverse counted.word number).1 (ap word_in is)

    flipped : (m : ℕ) (c : Bool) → is_at (nat_cmp number) m ≡ c → c ≡ (number == m)
    flipped m c at_number = sym at_number ∙ sym (equal_test number m) ∙ eqb_flip m number

    inverse : (w : List ℕ) (m : ℕ) (b c : Bool) → is_at (word_cmp counted.word) w ≡ b → is_at (nat_cmp number) m ≡ c
        → (cond b None (number_of_word w entries.texts) ≡ Some m) ↔ (word_in (cond c None (word_of_number m entries.numbers)) ≡ Some w)
    inverse w m true true at_word at_number = (λ h. absurd (no_number m h), λ h. absurd (no_word w h))
    inverse w m true false at_word at_number =
        let here : counted.word ≡ w = same_from_test words_are_ordered counted.word w at_word in
        let other : number ≡ m → ⊥ = λ e. true≢false (sym (test_of_same numbers_are_ordered number m e) ∙ at_number) in (
          λ h. absurd (no_number m h),
          λ h.
              let same : Some number ≡ Some m = sym had ∙ (agree.inverse counted.word m).1 (h ∙ ap Some (sym here)) in
              absurd (other (cc same)),
        )
    inverse w m false true at_word at_number =
        let there : number ≡ m = same_from_test numbers_are_ordered number m at_number in
        let other : counted.word ≡ w → ⊥ = λ e. true≢false (sym (test_of_same words_are_ordered counted.word w e) ∙ at_word) in (
          λ h.
              let same : Some counted.word ≡ Some w = sym (ap word_in is) ∙ (agree.inverse w number).0 (h ∙ ap Some (sym there)) in
              absurd (other (cc same)),
          λ h. absurd (no_word w h),
        )
    inverse w m false false at_word at_number = agree.inverse w m

    counts : (m : ℕ) (c : Bool) → is_at (nat_cmp number) m ≡ c → places_in (cond c None (word_of_number m entries.numbers)) ≡ cond c (claims m - 1) (claims m)
    counts m true at_number =
        let there : number ≡ m = same_from_test numbers_are_ordered number m at_number in
        let one : claims m ≡ counted.places = ap claims (sym there) ∙ sym (agree.counts number) ∙ ap places_in is in
        omega arith
    counts m false at_number = agree.counts m

    some : (m : ℕ) (c : Bool) → IfSome (cond c None (word_of_number m entries.numbers)) (λ k. 1 ≤ k.places)
    some m true = tt
    some m false = agree.some m

    below : (m : ℕ) (c : Bool) → IsSome (cond c None (word_of_number m entries.numbers)) → m < next_word
    below m true there = absurd (true≢false (sym there))
    below m false there = agree.below m there

-- one of several places goes
lowered : (claims : ℕ → ℕ) (entries : Entries) (next_word number : ℕ) (counted : Counted) → WordTablesAgree claims entries.texts entries.numbers next_word → word_of_number number entries.numbers ≡ Some counted → 1 < counted.places
    → WordTablesAgree (claimed_less number claims) entries.texts (insert_entry nat_cmp entries.numbers number (record counted { places = counted.places - 1 })) next_word
lowered claims entries next_word number counted agree is more = record {
  inverse = λ w m.
      let r = lookup-insert numbers_are_ordered m number fewer entries.numbers in
      let both = inverse w m (is_at (nat_cmp m) number) refl in
      (λ h. ap word_in r ∙ both.0 h, λ h. both.1 (ap word_in (sym r) ∙ h));
  counts = λ m. ap places_in (lookup-insert numbers_are_ordered m number fewer entries.numbers) ∙ counts m (is_at (nat_cmp m) number) refl
      ∙ ap (λ b. cond b (claims m - 1) (claims m)) (sym (equal_test m number));
  some = λ m. subst (λ f. IfSome f (λ c. 1 ≤ c.places)) (sym (lookup-insert numbers_are_ordered m number fewer entries.numbers)) (some m (is_at (nat_cmp m) number));
  below = λ m there. below m (is_at (nat_cmp m) number) refl (subst IsSome (lookup-insert numbers_are_ordered m number fewer entries.numbers) there);
}
  where
    fewer : Counted
    fewer = record counted { places = counted.places - 1 }

    inverse : (w : List ℕ) (m : ℕ) (c : Bool) → is_at (nat_cmp m) number ≡ c → (number_of_word w entries.texts ≡ Some m) ↔ (word_in (cond c (Some fewer) (word_of_number m entries.numbers)) ≡ Some w)
    inverse w m true at_number =
        let there : m ≡ number = same_from_test numbers_are_ordered m number at_number in
        let old : word_in (word_of_number m entries.numbers) ≡ Some counted.word = ap (λ (k : ℕ). word_in (word_of_number k entries.numbers)) there ∙ ap word_in is in
        (λ h. sym old ∙ (agree.inverse w m).0 h, λ h. (agree.inverse w m).1 (old ∙ h))
    inverse w m false at_number = agree.inverse w m

    counts : (m : ℕ) (c : Bool) → is_at (nat_cmp m) number ≡ c → places_in (cond c (Some fewer) (word_of_number m entries.numbers)) ≡ cond c (claims m - 1) (claims m)
    counts m true at_number =
        let there : m ≡ number = same_from_test numbers_are_ordered m number at_number in
        let all : counted.places ≡ claims m = sym (ap places_in is) ∙ agree.counts number ∙ ap claims (sym there) in
        ap (λ n. n - 1) all
    counts m false at_number = agree.counts m

    some : (m : ℕ) (c : Bool) → IfSome (cond c (Some fewer) (word_of_number m entries.numbers)) (λ k. 1 ≤ k.places)
    some m true = omega arith
    some m false = agree.some m

    below : (m : ℕ) (c : Bool) → is_at (nat_cmp m) number ≡ c → IsSome (cond c (Some fewer) (word_of_number m entries.numbers)) → m < next_word
    below m true at_number there = subst (λ k. k < next_word) (sym (same_from_test numbers_are_ordered m number at_number)) (agree.below number (subst IsSome (sym is) refl))
    below m false at_number there = agree.below m there

-- after a release the tables agree, and one place less is claimed for the number
pub agree-without_hold : (claims : ℕ → ℕ) (entries : Entries) (next_word number : ℕ) (counted : Counted) → IsStrictlySortedBy word_cmp (keys_of entries.texts) → IsStrictlySortedBy nat_cmp (keys_of entries.numbers)
    → WordTablesAgree claims entries.texts entries.numbers next_word → word_of_number number entries.numbers ≡ Some counted
    → WordTablesAgree (claimed_less number claims) (without_hold number entries).texts (without_hold number entries).numbers next_word
agree-without_hold claims entries next_word number counted texts_ascend numbers_ascend agree is =
    let Agree : Entries → Type 0 = λ e. WordTablesAgree (claimed_less number claims) e.texts e.numbers next_word in
    subst (λ found. Agree (released number found entries)) (sym is) (split (nat_le counted.places 1) refl)
  where
    split : (b : Bool) → nat_le counted.places 1 ≡ b
        → WordTablesAgree (claimed_less number claims)
        (cond b (record entries { texts = remove_entry (is_at (word_cmp counted.word)) entries.texts; numbers = remove_entry (is_at (nat_cmp number)) entries.numbers })
        (record entries { numbers = insert_entry nat_cmp entries.numbers number (record counted { places = counted.places - 1 }) })).texts
        (cond b (record entries { texts = remove_entry (is_at (word_cmp counted.word)) entries.texts; numbers = remove_entry (is_at (nat_cmp number)) entries.numbers })
        (record entries { numbers = insert_entry nat_cmp entries.numbers number (record counted { places = counted.places - 1 }) })).numbers
        next_word
    split true few = gone claims entries next_word number counted texts_ascend numbers_ascend agree is (leb-true counted.places 1 few)
    split false more = lowered claims entries next_word number counted agree is (leb-false counted.places 1 more)

-- a number that is claimed has a word
pub known-claimed : (claims : ℕ → ℕ) (texts : List (List ℕ × ℕ)) (numbers : List (ℕ × Counted)) (next_word number : ℕ) → WordTablesAgree claims texts numbers next_word → 0 < claims number → IsSome (word_of_number number numbers)
known-claimed claims texts numbers next_word number agree claimed = known (word_of_number number numbers) (agree.counts number)
  where
    known : (found : Option Counted) → places_in found ≡ claims number → IsSome found
    known None e = absurd (omega arith)
    known (Some c) e = refl

-- ---- places

-- how many places hold a number after one was put: those before, less the one that it replaces, and itself
pub holders-with_place : (number : ℕ) (key : Name) (stored : Stored) (places : List (Name × Stored)) → IsStrictlySortedBy key_cmp (keys_of places)
    → holders number (with_place key stored places) + unwrap_or (option_map (λ s. cond (has_number number s) 1 0) (place_of_key key places)) 0 ≡ holders number places + cond (has_number number stored) 1 0
holders-with_place number key stored places ascend = sum_by-insert_entry (λ s. cond (has_number number s) 1 0) key_cmp_total places key stored ascend

-- and after one was taken out
pub holders-without_place : (number : ℕ) (key : Name) (places : List (Name × Stored))
    → holders number (without_place key places) + unwrap_or (option_map (λ s. cond (has_number number s) 1 0) (place_of_key key places)) 0 ≡ holders number places
holders-without_place number key places = sum_by-remove_entry (λ s. cond (has_number number s) 1 0) (is_at (key_cmp key)) places

-- where the numbers of the pairs keep their words, the pairs keep theirs
pub words_of_pairs-same : (old new : List (ℕ × Counted)) (pairs : List Pair) → All (λ p. word_in (word_of_number p.0 new) ≡ word_in (word_of_number p.0 old)) pairs → words_of_pairs new pairs ≡ words_of_pairs old pairs
words_of_pairs-same old new [] same = refl
words_of_pairs-same old new (p ∷ pairs) same =
    let here = All-head (λ (q : Pair). word_in (word_of_number q.0 new) ≡ word_in (word_of_number q.0 old)) p pairs same in
    let rest = words_of_pairs-same old new pairs (All-tail (λ (q : Pair). word_in (word_of_number q.0 new) ≡ word_in (word_of_number q.0 old)) p pairs same) in
    named (word_of_number p.0 new) (word_of_number p.0 old) here ∙ ap (λ words. with_word (word_of_number p.0 old) p.1 words) rest
  where
    named : (a b : Option Counted) → word_in a ≡ word_in b → with_word a p.1 (words_of_pairs new pairs) ≡ with_word b p.1 (words_of_pairs new pairs)
    named None None e = refl
    named None (Some c) e = absurd (cc)
    named (Some c) None e = absurd (cc)
    named (Some c) (Some d) e = (let word : c.word ≡ d.word = cc e in ap (λ w. insert_entry word_cmp (words_of_pairs new pairs) w p.1) word)
