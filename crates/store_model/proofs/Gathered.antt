-- Counted words are held one after another.
use Rattle.std.proofs.Common.{◌≡◌, ℕ, ◌+◌, ◌<◌, ◌≤◌, ◌^◌, ◌==◌, Bool, true, false, cond, List, [], ◌∷◌, ◌++◌, append-nil, append_assoc, length-append, length, fold, Option, Some, IsSome, unwrap_or, refl, sym, ap, subst, ◌∙◌, true≢false, arith, sum_by}
use Rattle.std.proofs.lemmas.List.Sums.{sum_by-append, sum_by-cons}
use Rattle.std.proofs.lemmas.Cmp.{nat_list_eq_equiv}
use Rattle.std.proofs.lemmas.Map.Keys.{IsDistinct-head, IsDistinct-tail}
use Rattle.std.specs.BTreeMap.{is_at}
use Rattle.std.specs.Cmp.Lexicographic.{same_text}
use Rattle.std.specs.List.{AllByRecursion, IsDistinct}
use Rattle.std.specs.Map.{keys_of}
use Rattle.std.specs.Str.{bytes_eq}
use Rattle.indexmap.specs.IndexMap.{insert_entry}
use Rattle.place_values.specs.declared.update.Update.{Update}
use Rattle.place_values.specs.declared.update.Update.TheVariants.{Put, Remove}
use Rattle.row_codec.specs.declared.counted.Counted.{Counted}
use Rattle.store_tables.specs.Entries.{Entries, number_of_word, word_cmp}
use Rattle.store_tables.specs.Words.{WordTablesAgree, CanHoldBy, claimed_by, number_for}
use Rattle.store_tables.proofs.MapLemmas.{same_from_test, test_of_same, words_are_ordered}
use Rattle.store_tables.proofs.WordLemmas.{agree-with_holds}
use Rattle.store_model.specs.Ahead.{AreCountedWords, AreNamed, CanHoldAhead, HeldAhead, IsNamed, held_ahead, number_among, number_in, place_count, times_counted, with_counted, word_count}
use Rattle.store_model.proofs.Steps.{word_at, AreAscending, KeepsWords}
use Rattle.store_model.proofs.Held.{has_it}
use Rattle.store_model.proofs.Numbers.{agree-claims, ascend-holds, can_hold-by, keeps-holds, key_inside, named-holds, next_few, next_rises}

-- ---- sums

-- what a counted word adds, by whether it has the property
abbrev added : (List ℕ → Bool) → List ℕ × ℕ → ℕ
added has count = cond (has count.0) count.1 0

-- with one word behind the others
sum-push : (has : List ℕ → Bool) (done : List (List ℕ × ℕ)) (count : List ℕ × ℕ) → times_counted has (done ++ count ∷ []) ≡ times_counted has done + added has count
sum-push has done count = (let sum = sum_by-append (added has) done (count ∷ []) in let one = sum_by-cons (added has) count [] in let none : sum_by (added has) [] ≡ 0 = refl in omega (arith, sum, one, none))

-- those before one, its own and those behind it
sum-inside : (has : List ℕ → Bool) (done : List (List ℕ × ℕ)) (count : List ℕ × ℕ) (rest : List (List ℕ × ℕ)) → times_counted has (done ++ count ∷ rest) ≡ times_counted has done + (added has count + times_counted has rest)
sum-inside has done count rest = (let sum = sum_by-append (added has) done (count ∷ rest) in let one = sum_by-cons (added has) count rest in omega (arith, sum, one))

-- no property has more than all words
sum-most : (has : List ℕ → Bool) (counts : List (List ℕ × ℕ)) → times_counted has counts ≤ times_counted (λ w. true) counts
sum-most has [] = omega arith
sum-most has (c ∷ counts) =
    let rest = sum-most has counts in
    let here = by (has c.0) in
    omega (arith, rest, here, sum_by-cons (added has) c counts, sum_by-cons (λ (d : List ℕ × ℕ). d.1) c counts)
  where
    by : (b : Bool) → cond b c.1 0 ≤ c.1
    by true = omega arith
    by false = omega arith

-- ---- numbers

-- what is found of a word after one was put
found-put : (numbers : List (List ℕ × ℕ)) (word : List ℕ) (number : ℕ) (w : List ℕ) → number_among w (insert_entry bytes_eq numbers word number) ≡ cond (bytes_eq w word) (Some number) (number_among w numbers)
found-put [] word number w = refl
found-put (n ∷ numbers) word number w = by (found-put numbers word number w) (bytes_eq word n.0) refl
  where
    both : (b : Bool) → cond b (Some number) (number_among w numbers) ≡ cond b (Some number) (cond b (Some n.1) (number_among w numbers))
    both true = refl
    both false = refl

    either : (b c : Bool) → (b ≡ true → c ≡ true → ⊥) → cond c (Some n.1) (cond b (Some number) (number_among w numbers)) ≡ cond b (Some number) (cond c (Some n.1) (number_among w numbers))
    either true true apart = absurd (apart refl refl)
    either true false apart = refl
    either false c apart = refl

    by : number_among w (insert_entry bytes_eq numbers word number) ≡ cond (bytes_eq w word) (Some number) (number_among w numbers)
        → (b : Bool) → bytes_eq word n.0 ≡ b
        → number_among w (cond b ((n.0, number) ∷ numbers) (n ∷ insert_entry bytes_eq numbers word number)) ≡ cond (bytes_eq w word) (Some number) (cond (bytes_eq w n.0) (Some n.1) (number_among w numbers))
    by rest true at =
        both (bytes_eq w n.0) ∙ ap (λ (v : List ℕ). cond (bytes_eq w v) (Some number) (cond (bytes_eq w n.0) (Some n.1) (number_among w numbers))) (sym (same_text word n.0 (sym at)))
    by rest false at =
        ap (λ (f : Option ℕ). cond (bytes_eq w n.0) (Some n.1) f) rest
        ∙ either (bytes_eq w word) (bytes_eq w n.0) (λ own its. true≢false (sym (ap (λ (v : List ℕ). bytes_eq v n.0) (sym (same_text w word (sym own))) ∙ its) ∙ at))

-- another word keeps its number
other-kept : (numbers : List (List ℕ × ℕ)) (word : List ℕ) (number : ℕ) (w : List ℕ) → (w ≡ word → ⊥) → number_among w (insert_entry bytes_eq numbers word number) ≡ number_among w numbers
other-kept numbers word number w other = found-put numbers word number w ∙ by (bytes_eq w word) refl
  where
    by : (b : Bool) → bytes_eq w word ≡ b → cond b (Some number) (number_among w numbers) ≡ number_among w numbers
    by true at = absurd (other (same_text w word (sym at)))
    by false at = refl

-- the word that is put has it
own-put : (numbers : List (List ℕ × ℕ)) (word : List ℕ) (number : ℕ) → number_among word (insert_entry bytes_eq numbers word number) ≡ Some number
own-put numbers word number = found-put numbers word number word ∙ ap (λ b. cond b (Some number) (number_among word numbers)) (nat_list_eq_equiv.refl word)

-- so the words before it count as they did
sum-kept : (numbers : List (List ℕ × ℕ)) (word : List ℕ) (number n : ℕ) (done : List (List ℕ × ℕ)) → AllByRecursion (λ d. d ≡ word → ⊥) (keys_of done)
    → times_counted (has_it (insert_entry bytes_eq numbers word number) n) done ≡ times_counted (has_it numbers n) done
sum-kept numbers word number n [] apart = refl
sum-kept numbers word number n (c ∷ done) apart =
    let new = insert_entry bytes_eq numbers word number in
    let here : added (has_it new n) c ≡ added (has_it numbers n) c = ap (λ (f : Option ℕ). cond (unwrap_or f 0 == n) c.1 0) (other-kept numbers word number c.0 apart.0) in
    let rest = sum-kept numbers word number n done apart.1 in
    omega (arith, here, rest, sum_by-cons (added (has_it new n)) c done, sum_by-cons (added (has_it numbers n)) c done)

-- and have their numbers as they did
names-kept : (numbers : List (List ℕ × ℕ)) (table next : List (ℕ × Counted)) (word : List ℕ) (number : ℕ) → KeepsWords table next → (done : List (List ℕ × ℕ)) → AllByRecursion (λ d. d ≡ word → ⊥) (keys_of done)
    → AllByRecursion (IsNamed numbers table) (keys_of done) → AllByRecursion (IsNamed (insert_entry bytes_eq numbers word number) next) (keys_of done)
names-kept numbers table next word number keeps [] apart named = tt
names-kept numbers table next word number keeps (c ∷ done) apart named =
    let same = other-kept numbers word number c.0 apart.0 in (
      (subst IsSome (sym same) named.0.0, ap (λ (f : Option ℕ). word_at (unwrap_or f 0) next) same ∙ keeps (number_in numbers c.0) c.0 named.0.1),
      names-kept numbers table next word number keeps done apart.1 named.1,
    )

-- what holds of each word and of one more holds of all
each-push : (P : List ℕ → Type 0) (done : List (List ℕ × ℕ)) (count : List ℕ × ℕ) → AllByRecursion P (keys_of done) → P count.0 → AllByRecursion P (keys_of (done ++ count ∷ []))
each-push P [] count all one = (one, tt)
each-push P (c ∷ done) count all one = (all.0, each-push P done count all.1 one)

-- ---- step by step

-- The counted words `done` are held: each by as many places as it was counted, and has its number; no number lost its word, and at most one was given for each.
pub record IsHolding (claims : ℕ → ℕ) (before : Entries) (next_word : ℕ) (done : List (List ℕ × ℕ)) (held : HeldAhead) : Type 0 where
  pub agree : WordTablesAgree (λ n. claims n + times_counted (has_it held.numbers n) done) held.entries.texts held.entries.numbers held.next_word
  pub ascend : AreAscending held.entries
  pub named : AllByRecursion (IsNamed held.numbers held.entries.numbers) (keys_of done)
  pub keeps : KeepsWords before.numbers held.entries.numbers
  pub places : held.entries.places ≡ before.places
  pub rises : next_word ≤ held.next_word
  pub few : held.next_word ≤ next_word + length done

-- at first none is
holding-start : (claims : ℕ → ℕ) (before : Entries) (next_word : ℕ) → WordTablesAgree claims before.texts before.numbers next_word → AreAscending before
    → IsHolding claims before next_word [] (record { entries = before; next_word = next_word; numbers = [] })
holding-start claims before next_word agree ascend = record {
  agree = agree-claims claims (λ n. claims n + 0) before.texts before.numbers next_word (λ n. omega arith) agree;
  ascend = ascend;
  named = tt;
  keeps = λ n w is. is;
  places = refl;
  rises = omega arith;
  few = omega arith;
}

module _ (claims : ℕ → ℕ) (before : Entries) (next_word : ℕ) (done : List (List ℕ × ℕ)) (held : HeldAhead) (is : IsHolding claims before next_word done held) (count : List ℕ × ℕ) where
  -- the number of the next word
  abbrev number : ℕ
  number = number_for count.0 held.next_word held.entries.texts

  -- it can be held
  holding-room : ((n : ℕ) → claims n + (times_counted (λ w. true) done + count.1) < 2 ^ 32) → CanHoldBy count.1 count.0 held.next_word held.entries
  holding-room room =
      can_hold-by count.1 (λ n. claims n + times_counted (has_it held.numbers n) done) held.entries held.next_word count.0 is.agree
      (let left = room number in let most = sum-most (has_it held.numbers number) done in omega (arith, left, most))

  -- so many more are claimed for its number
  more-claimed : AllByRecursion (λ d. d ≡ count.0 → ⊥) (keys_of done)
      → (n : ℕ) → claimed_by count.1 number (λ m. claims m + times_counted (has_it held.numbers m) done) n ≡ claims n + times_counted (has_it (insert_entry bytes_eq held.numbers count.0 number) n) (done ++ count ∷ [])
  more-claimed apart n =
      let new = insert_entry bytes_eq held.numbers count.0 number in
      let mine : added (has_it new n) count ≡ cond (number == n) count.1 0 = ap (λ (f : Option ℕ). cond (unwrap_or f 0 == n) count.1 0) (own-put held.numbers count.0 number) in
      let pushed = sum-push (has_it new n) done count in
      let kept = sum-kept held.numbers count.0 number n done apart in
      by (number == n) (omega (arith, mine, pushed, kept))
    where
      by : (b : Bool) → times_counted (has_it (insert_entry bytes_eq held.numbers count.0 number) n) (done ++ count ∷ []) ≡ times_counted (has_it held.numbers n) done + cond b count.1 0
          → cond b (claims n + times_counted (has_it held.numbers n) done + count.1) (claims n + times_counted (has_it held.numbers n) done) ≡ claims n + times_counted (has_it (insert_entry bytes_eq held.numbers count.0 number) n) (done ++ count ∷ [])
      by true e = omega (arith, e)
      by false e = omega (arith, e)

  -- and the word is held
  holding-more : AllByRecursion (λ d. d ≡ count.0 → ⊥) (keys_of done) → 1 ≤ count.1 → ((n : ℕ) → claims n + (times_counted (λ w. true) done + count.1) < 2 ^ 32) → IsHolding claims before next_word (done ++ count ∷ []) (with_counted held count)
  holding-more apart some room =
      let now = λ (n : ℕ). claims n + times_counted (has_it held.numbers n) done in
      let then = with_counted held count in
      let keeps = keeps-holds count.1 held.entries held.next_word count.0 now is.agree in
      let up = next_rises held.next_word (number_of_word count.0 held.entries.texts) in
      let one = next_few held.next_word (number_of_word count.0 held.entries.texts) in
      let own = own-put held.numbers count.0 number in
      record {
        agree = agree-claims (claimed_by count.1 number now) (λ n. claims n + times_counted (has_it then.numbers n) (done ++ count ∷ [])) then.entries.texts then.entries.numbers then.next_word (more-claimed apart)
            (agree-with_holds count.1 some now held.entries held.next_word count.0 is.agree (holding-room room));
        ascend = ascend-holds count.1 held.entries held.next_word count.0 is.ascend;
        named = each-push (IsNamed then.numbers then.entries.numbers) done count (names-kept held.numbers held.entries.numbers then.entries.numbers count.0 number keeps done apart is.named)
            (subst IsSome (sym own) refl, ap (λ (f : Option ℕ). word_at (unwrap_or f 0) then.entries.numbers) own ∙ named-holds count.1 held.entries held.next_word count.0);
        keeps = λ n w at. keeps n w (is.keeps n w at);
        places = is.places;
        rises = let le = is.rises in omega (arith, le, up);
        few = let few = is.few in omega (arith, few, one, length-append done (count ∷ []));
      }

-- ---- all of them

-- where no word stands twice, one is none of those before it
distinct-before : (done : List (List ℕ × ℕ)) (count : List ℕ × ℕ) (rest : List (List ℕ × ℕ)) → IsDistinct bytes_eq (keys_of (done ++ count ∷ rest)) → AllByRecursion (λ d. d ≡ count.0 → ⊥) (keys_of done)
distinct-before [] count rest distinct = tt
distinct-before (c ∷ done) count rest distinct =
    let other : bytes_eq c.0 count.0 ≡ false = key_inside (λ w. bytes_eq c.0 w ≡ false) done count rest (IsDistinct-head bytes_eq c.0 (keys_of (done ++ count ∷ rest)) distinct) in (
      λ same. true≢false (sym (nat_list_eq_equiv.refl c.0) ∙ ap (bytes_eq c.0) same ∙ other),
      distinct-before done count rest (IsDistinct-tail bytes_eq c.0 (keys_of (done ++ count ∷ rest)) distinct),
    )

module _ (claims : ℕ → ℕ) (before : Entries) (next_word : ℕ) (counts : List (List ℕ × ℕ)) (room : (n : ℕ) → claims n + times_counted (λ w. true) counts < 2 ^ 32) where
  -- there is room for one among them
  room-inside : (done : List (List ℕ × ℕ)) (count : List ℕ × ℕ) (rest : List (List ℕ × ℕ)) → done ++ count ∷ rest ≡ counts → (n : ℕ) → claims n + (times_counted (λ w. true) done + count.1) < 2 ^ 32
  room-inside done count rest all n =
      let sums = sum-inside (λ w. true) done count rest in
      let whole : times_counted (λ w. true) (done ++ count ∷ rest) ≡ times_counted (λ w. true) counts = ap (times_counted (λ w. true)) all in
      let few = room n in
      omega (arith, sums, whole, few)

  module _ (distinct : IsDistinct bytes_eq (keys_of counts)) where
    -- a word is none of those before it
    apart-inside : (done : List (List ℕ × ℕ)) (count : List ℕ × ℕ) (rest : List (List ℕ × ℕ)) → done ++ count ∷ rest ≡ counts → AllByRecursion (λ d. d ≡ count.0 → ⊥) (keys_of done)
    apart-inside done count rest all = distinct-before done count rest (subst (λ (cs : List (List ℕ × ℕ)). IsDistinct bytes_eq (keys_of cs)) (sym all) distinct)

    -- the words that are left are held behind those that are
    holding-rest : (rest done : List (List ℕ × ℕ)) (held : HeldAhead) → done ++ rest ≡ counts → AllByRecursion (λ (c : List ℕ × ℕ). 1 ≤ c.1) rest → IsHolding claims before next_word done held
        → IsHolding claims before next_word counts (fold with_counted held rest)
    holding-rest [] done held all some is = subst (λ (cs : List (List ℕ × ℕ)). IsHolding claims before next_word cs held) (sym (append-nil done) ∙ all) is
    holding-rest (count ∷ rest) done held all some is =
        holding-rest rest (done ++ count ∷ []) (with_counted held count) (append_assoc done (count ∷ []) rest ∙ all) some.1
        (holding-more claims before next_word done held is count (apart-inside done count rest all) some.0 (room-inside done count rest all))

    -- and can be
    can-hold-rest : (rest done : List (List ℕ × ℕ)) (held : HeldAhead) → done ++ rest ≡ counts → AllByRecursion (λ (c : List ℕ × ℕ). 1 ≤ c.1) rest → IsHolding claims before next_word done held
        → CanHoldAhead rest held
    can-hold-rest [] done held all some is = tt
    can-hold-rest (count ∷ rest) done held all some is = (
      holding-room claims before next_word done held is count (room-inside done count rest all),
      can-hold-rest rest (done ++ count ∷ []) (with_counted held count) (append_assoc done (count ∷ []) rest ∙ all) some.1
          (holding-more claims before next_word done held is count (apart-inside done count rest all) some.0 (room-inside done count rest all)),
    )

  module _ (are : AreCountedWords counts) (agree : WordTablesAgree claims before.texts before.numbers next_word) (ascend : AreAscending before) where
    -- all counted words are held
    pub holding-all : IsHolding claims before next_word counts (held_ahead counts next_word before)
    holding-all = holding-rest are.distinct counts [] (record { entries = before; next_word = next_word; numbers = [] }) refl are.some (holding-start claims before next_word agree ascend)

    -- and can be
    pub can-hold-all : CanHoldAhead counts (record { entries = before; next_word = next_word; numbers = [] })
    can-hold-all = can-hold-rest are.distinct counts [] (record { entries = before; next_word = next_word; numbers = [] }) refl are.some (holding-start claims before next_word agree ascend)

-- ---- the words of updates

-- a word that was counted has what each counted word has
counted-has : (P : List ℕ → Type 0) (word : List ℕ) (counts : List (List ℕ × ℕ)) → AllByRecursion P (keys_of counts) → 0 < times_counted (is_at (word_cmp word)) counts → P word
counted-has P word [] all some = absurd (omega (arith, some))
counted-has P word (c ∷ counts) all some = by (λ more. counted-has P word counts all.1 more) (is_at (word_cmp word) c.0) refl
  where
    by : (0 < times_counted (is_at (word_cmp word)) counts → P word) → (b : Bool) → is_at (word_cmp word) c.0 ≡ b → P word
    by behind true at = subst P (sym (same_from_test words_are_ordered word c.0 at)) all.0
    by behind false at =
        let none : added (is_at (word_cmp word)) c ≡ 0 = ap (λ b. cond b c.1 0) at in
        behind (omega (arith, some, none, sum_by-cons (added (is_at (word_cmp word))) c counts))

-- what holds of each word that is among the words of a place holds of all
each-among : (P : List ℕ → Type 0) (words : List (List ℕ × ℕ)) → ((w : List ℕ) → 0 < place_count (is_at (word_cmp w)) words → P w) → AllByRecursion P (keys_of words)
each-among P [] all = tt
each-among P (t ∷ words) all =
    let cons = λ (w : List ℕ). sum_by-cons (λ (u : List ℕ × ℕ). cond (is_at (word_cmp w) u.0) 1 0) t words in
    let one : ◌≡◌ {A = ℕ} (cond (is_at (word_cmp t.0) t.0) 1 0) 1 = ap (λ b. cond b 1 0) (test_of_same words_are_ordered t.0 t.0 refl) in (
      all t.0 (omega (arith, one, cons t.0)),
      each-among P words (λ w some. all w (omega (arith, some, cons w))),
    )

-- and of the words of updates
all-among : (numbers : List (List ℕ × ℕ)) (table : List (ℕ × Counted)) (left : List Update) → ((w : List ℕ) → 0 < word_count (is_at (word_cmp w)) left → IsNamed numbers table w) → AreNamed numbers table left
all-among numbers table [] all = tt
all-among numbers table (Put key point words label ∷ left) all = (
  each-among (IsNamed numbers table) words (λ w some. all w (omega (arith, some))),
  all-among numbers table left (λ w some. all w (omega (arith, some))),
)
all-among numbers table (Remove key ∷ left) all = (tt, all-among numbers table left all)

-- as many counted words as they were counted, or fewer
pub few-counted : (counts : List (List ℕ × ℕ)) → AllByRecursion (λ (c : List ℕ × ℕ). 1 ≤ c.1) counts → length counts ≤ times_counted (λ w. true) counts
few-counted [] some = omega arith
few-counted (c ∷ counts) some =
    let rest = few-counted counts some.1 in
    let one = some.0 in
    omega (arith, rest, one, sum_by-cons (λ (d : List ℕ × ℕ). d.1) c counts)

-- where the words of updates were gathered and held, each has its number
pub named-gathered : (counts : List (List ℕ × ℕ)) (updates : List Update) (numbers : List (List ℕ × ℕ)) (table : List (ℕ × Counted)) → ((has : List ℕ → Bool) → times_counted has counts ≡ word_count has updates)
    → AllByRecursion (IsNamed numbers table) (keys_of counts) → AreNamed numbers table updates
named-gathered counts updates numbers table gathered named =
    all-among numbers table updates (λ w some. counted-has (IsNamed numbers table) w counts named (let same = gathered (is_at (word_cmp w)) in omega (arith, some, same)))
