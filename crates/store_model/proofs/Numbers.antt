-- A place's words are numbered one after another.
use Rattle.std.proofs.Common.{◌≡◌, length-append, append-nil, append_assoc, ℕ, ◌+◌, ◌<◌, ◌≤◌, ◌^◌, ◌==◌, eqb-true, Bool, true, false, cond, ◌||◌, List, [], ◌∷◌, ◌++◌, Option, Some, None, IsSome, option_map, unwrap_or, refl, sym, ap, subst, subst₂, ◌∙◌, arith}
use Rattle.std.proofs.lemmas.Bool.{ne_eqb}
use Rattle.std.proofs.lemmas.Cmp.{tied_itself}
use Rattle.std.proofs.lemmas.Map.Keys.{sorted_head, sorted_tail}
use Rattle.std.specs.BTreeMap.{is_at}
use Rattle.std.specs.List.{AllByRecursion}
use Rattle.std.specs.List.Sorted.{IsStrictlySortedBy}
use Rattle.std.specs.Map.{keys_of}
use Rattle.std.specs.Ordering.{nat_cmp}
use Rattle.std.specs.declared.cmp.Ordering.TheVariants.{Less, Equal}
use Rattle.row_codec.specs.declared.counted.Counted.{Counted}
use Rattle.row_codec.specs.Pairs.{Pair}
use Rattle.store_tables.specs.Entries.{Entries, word_cmp, number_of_word, word_of_number}
use Rattle.store_tables.specs.Words.{WordTablesAgree, CanHold, CanHoldBy, IsHoldable, claimed_more, next_after, number_for, places_of_number, texts_after, with_hold, with_holds}
use Rattle.store_tables.proofs.MapLemmas.{lookup-insert, numbers_are_ordered, same_from_test, test_of_same, words_are_ordered}
use Rattle.store_tables.proofs.WordLemmas.{agree-with_hold, no_word}
use Rattle.store_model.specs.Updates.{Numbered, has_pair, numbered}
use Rattle.store_model.proofs.Steps.{word_at, KeepsWords, claimed_beside, AreNumbered, AreAscending, IsNumbering, with_pairs}
use Rattle.store_model.proofs.Ordered.{sorted-insert}

-- ---- one word

-- a row with a word is one
some_with_word : (found : Option Counted) (w : List ℕ) → option_map (λ (c : Counted). c.word) found ≡ Some w → IsSome found
some_with_word None w e = absurd (no_word w e)
some_with_word (Some c) w e = refl

-- a number with a word is below the next one
pub below_next : (claims : ℕ → ℕ) (texts : List (List ℕ × ℕ)) (numbers : List (ℕ × Counted)) (next_word number : ℕ) (word : List ℕ) → WordTablesAgree claims texts numbers next_word → word_at number numbers ≡ Some word → number < next_word
below_next claims texts numbers next_word number word agree is = agree.below number (some_with_word (word_of_number number numbers) word is)

-- where the tables agree, so many places more can hold a word whose count doesn't pass its end
pub can_hold-by : (places : ℕ) (claims : ℕ → ℕ) (entries : Entries) (next_word : ℕ) (word : List ℕ) → WordTablesAgree claims entries.texts entries.numbers next_word
    → claims (number_for word next_word entries.texts) + places < 2 ^ 32 → CanHoldBy places word next_word entries
can_hold-by places claims entries next_word word agree room = holdable (number_of_word word entries.texts) refl room
  where
    none_at : (found : Option Counted) → word_of_number next_word entries.numbers ≡ found → found ≡ None
    none_at None e = refl
    none_at (Some c) e = let lt = agree.below next_word (subst IsSome (sym e) refl) in absurd (omega arith)

    holdable : (found : Option ℕ) → number_of_word word entries.texts ≡ found → claims (unwrap_or found next_word) + places < 2 ^ 32 → IsHoldable places word next_word entries.numbers found
    holdable None e few = none_at (word_of_number next_word entries.numbers) refl
    holdable (Some number) e few = ((agree.inverse word number).0 e, (let count = agree.counts number in omega arith))

-- one place more can
pub can_hold-one : (claims : ℕ → ℕ) (entries : Entries) (next_word : ℕ) (word : List ℕ) → WordTablesAgree claims entries.texts entries.numbers next_word
    → claims (number_for word next_word entries.texts) + 1 < 2 ^ 32 → CanHold word next_word entries
can_hold-one = can_hold-by 1

module _ (places : ℕ) (entries : Entries) (next_word : ℕ) (word : List ℕ) where
  -- the number that the word has then
  abbrev held_number : ℕ
  held_number = number_for word next_word entries.texts

  -- its row
  abbrev held_row : Counted
  held_row = record { word = word; places = places_of_number held_number entries.numbers + places }

  -- after a hold the word has its number
  pub named-holds : word_at held_number (with_holds places word next_word entries).numbers ≡ Some word
  named-holds =
      ap (option_map (λ (c : Counted). c.word)) (lookup-insert numbers_are_ordered held_number held_number held_row entries.numbers
      ∙ ap (λ b. cond b (Some held_row) (word_of_number held_number entries.numbers)) (test_of_same numbers_are_ordered held_number held_number refl))

  -- and each number that had a word has it still
  pub keeps-holds : (claims : ℕ → ℕ) → WordTablesAgree claims entries.texts entries.numbers next_word → KeepsWords entries.numbers (with_holds places word next_word entries).numbers
  keeps-holds claims agree n w is =
      ap (option_map (λ (c : Counted). c.word)) (lookup-insert numbers_are_ordered n held_number held_row entries.numbers) ∙ kept (is_at (nat_cmp n) held_number) refl
    where
      same : (found : Option ℕ) → number_of_word word entries.texts ≡ found → n ≡ unwrap_or found next_word → w ≡ word
      same None e at = let lt = below_next claims entries.texts entries.numbers next_word n w agree is in absurd (omega arith)
      same (Some m) e at =
          let here : Some w ≡ Some word = sym is ∙ ap (λ (k : ℕ). word_at k entries.numbers) at ∙ (agree.inverse word m).0 e in
          cc here

      kept : (b : Bool) → is_at (nat_cmp n) held_number ≡ b → option_map (λ (c : Counted). c.word) (cond b (Some held_row) (word_of_number n entries.numbers)) ≡ Some w
      kept true at = ap Some (sym (same (number_of_word word entries.texts) refl (same_from_test numbers_are_ordered n held_number at)))
      kept false at = is

  -- the tables stay in order
  pub ascend-holds : AreAscending entries → AreAscending (with_holds places word next_word entries)
  ascend-holds ascend = record {
    places = ascend.places;
    texts = texts (number_of_word word entries.texts);
    numbers = sorted-insert numbers_are_ordered.total _ _ entries.numbers ascend.numbers;
  }
    where
      texts : (found : Option ℕ) → IsStrictlySortedBy word_cmp (keys_of (texts_after found word next_word entries.texts))
      texts None = sorted-insert words_are_ordered.total word next_word entries.texts ascend.texts
      texts (Some number) = ascend.texts

-- a hold lets the next number not fall
pub next_rises : (next_word : ℕ) (found : Option ℕ) → next_word ≤ next_after found next_word
next_rises next_word None = omega arith
next_rises next_word (Some number) = omega arith

-- and raises it by one at most
pub next_few : (next_word : ℕ) (found : Option ℕ) → next_after found next_word ≤ next_word + 1
next_few next_word None = omega arith
next_few next_word (Some number) = omega arith

-- ---- words and their pairs

-- words that have their numbers have them where the numbers keep their words
pub numbered-kept : (before after : List (ℕ × Counted)) → KeepsWords before after → (words : List (List ℕ × ℕ)) (pairs : List Pair) → AreNumbered before words pairs → AreNumbered after words pairs
numbered-kept before after keeps [] [] named = tt
numbered-kept before after keeps [] (p ∷ pairs) named = named
numbered-kept before after keeps (t ∷ words) [] named = named
numbered-kept before after keeps (t ∷ words) (p ∷ pairs) named = (keeps p.0 t.0 named.0, named.1, numbered-kept before after keeps words pairs named.2)

-- one word more, with its number
pub numbered-push : (numbers : List (ℕ × Counted)) (term : List ℕ × ℕ) (number : ℕ) → word_at number numbers ≡ Some term.0 → (words : List (List ℕ × ℕ)) (pairs : List Pair)
    → AreNumbered numbers words pairs → AreNumbered numbers (words ++ term ∷ []) (pairs ++ (number, term.1) ∷ [])
numbered-push numbers term number is [] [] named = (is, refl, tt)
numbered-push numbers term number is [] (p ∷ pairs) named = absurd named
numbered-push numbers term number is (t ∷ words) [] named = absurd named
numbered-push numbers term number is (t ∷ words) (p ∷ pairs) named = (named.0, named.1, numbered-push numbers term number is words pairs named.2)

-- a number of none of the words is none of the pairs'
pub unpaired : (numbers : List (ℕ × Counted)) (n : ℕ) (words : List (List ℕ × ℕ)) (pairs : List Pair) → AreNumbered numbers words pairs
    → ((w : List ℕ) → word_at n numbers ≡ Some w → AllByRecursion (λ d. d ≡ w → ⊥) (keys_of words)) → has_pair n pairs ≡ false
unpaired numbers n [] [] named other = refl
unpaired numbers n [] (p ∷ pairs) named other = absurd named
unpaired numbers n (t ∷ words) [] named other = absurd named
unpaired numbers n (t ∷ words) (p ∷ pairs) named other =
    let rest = unpaired numbers n words pairs named.2 (λ w is. (other w is).1) in
    let here : (p.0 == n) ≡ false = ne_eqb p.0 n (λ e. (other t.0 (ap (λ (k : ℕ). word_at k numbers) (sym e) ∙ named.0)).0 refl) in
    rw (here, rest) refl

-- ---- claims

-- tables that agree with claims agree with claims that are the same
pub agree-claims : (claims others : ℕ → ℕ) (texts : List (List ℕ × ℕ)) (numbers : List (ℕ × Counted)) (next_word : ℕ) → ((n : ℕ) → claims n ≡ others n)
    → WordTablesAgree claims texts numbers next_word → WordTablesAgree others texts numbers next_word
agree-claims claims others texts numbers next_word same agree = record {
  inverse = agree.inverse;
  counts = λ n. agree.counts n ∙ same n;
  some = agree.some;
  below = agree.below;
}

-- what one more test that fails leaves
or_false : (b : Bool) → (b || false) ≡ b
or_false true = refl
or_false false = refl

-- one more test goes behind the others
or_moved : (a b c d : Bool) → b ≡ (c || d) → (a || b) ≡ ((a || c) || d)
or_moved true b c d e = refl
or_moved false b c d e = e

-- a number is among the pairs and one more where it is among them or is that one's
pub has_pair-push : (n : ℕ) (pairs : List Pair) (pair : Pair) → has_pair n (pairs ++ pair ∷ []) ≡ (has_pair n pairs || (pair.0 == n))
has_pair-push n [] pair = or_false (pair.0 == n)
has_pair-push n (p ∷ pairs) pair = or_moved (p.0 == n) (has_pair n (pairs ++ pair ∷ [])) (has_pair n pairs) (pair.0 == n) (has_pair-push n pairs pair)

-- one claim more for a number that is among no pairs yet
claimed-new : (claims : ℕ → ℕ) (pairs old : List Pair) (pair : Pair) → has_pair pair.0 pairs ≡ false → has_pair pair.0 old ≡ false
    → (n : ℕ) → claimed_more pair.0 (claimed_beside pairs old claims) n ≡ claimed_beside (pairs ++ pair ∷ []) old claims n
claimed-new claims pairs old pair apart fresh n =
    split (pair.0 == n) refl ∙ ap (λ (b : Bool). claims n + cond (has_pair n old) 0 (cond b 1 0)) (sym (has_pair-push n pairs pair))
  where
    split : (b : Bool) → (pair.0 == n) ≡ b → cond b (claimed_beside pairs old claims n + 1) (claimed_beside pairs old claims n) ≡ claims n + cond (has_pair n old) 0 (cond (has_pair n pairs || b) 1 0)
    split true here =
        let same : pair.0 ≡ n = eqb-true pair.0 n here in
        let in_old : has_pair n old ≡ false = ap (λ (k : ℕ). has_pair k old) (sym same) ∙ fresh in
        let in_pairs : has_pair n pairs ≡ false = ap (λ (k : ℕ). has_pair k pairs) (sym same) ∙ apart in
        rw (in_old, in_pairs) (omega arith)
    split false other = ap (λ (b : Bool). claims n + cond (has_pair n old) 0 (cond b 1 0)) (sym (or_false (has_pair n pairs)))

-- none for one that is among the old pairs
claimed-old : (claims : ℕ → ℕ) (pairs old : List Pair) (pair : Pair) → has_pair pair.0 old ≡ true → (n : ℕ) → claimed_beside pairs old claims n ≡ claimed_beside (pairs ++ pair ∷ []) old claims n
claimed-old claims pairs old pair known n =
    split (pair.0 == n) refl ∙ ap (λ (b : Bool). claims n + cond (has_pair n old) 0 (cond b 1 0)) (sym (has_pair-push n pairs pair))
  where
    split : (b : Bool) → (pair.0 == n) ≡ b → claimed_beside pairs old claims n ≡ claims n + cond (has_pair n old) 0 (cond (has_pair n pairs || b) 1 0)
    split true here =
        let in_old : has_pair n old ≡ true = ap (λ (k : ℕ). has_pair k old) (sym (eqb-true pair.0 n here)) ∙ known in
        rw in_old refl
    split false other = ap (λ (b : Bool). claims n + cond (has_pair n old) 0 (cond b 1 0)) (sym (or_false (has_pair n pairs)))

-- before the first pair nothing more is claimed
pub claimed-none : (claims : ℕ → ℕ) (old : List Pair) (n : ℕ) → claims n ≡ claimed_beside [] old claims n
claimed-none claims old n = none (has_pair n old)
  where
    none : (b : Bool) → claims n ≡ claims n + cond b 0 0
    none true = omega arith
    none false = omega arith

-- ---- step by step

-- before the first word nothing is numbered
pub numbering-start : (claims : ℕ → ℕ) (old : List Pair) (entries : Entries) (next_word : ℕ) → WordTablesAgree claims entries.texts entries.numbers next_word → AreAscending entries
    → ((n : ℕ) → has_pair n old ≡ true → IsSome (word_of_number n entries.numbers)) → IsNumbering claims old entries next_word [] (record { entries = entries; next_word = next_word; pairs = [] })
numbering-start claims old entries next_word agree ascend known = record {
  agree = agree-claims claims (claimed_beside [] old claims) entries.texts entries.numbers next_word (claimed-none claims old) agree;
  ascend = ascend;
  named = tt;
  keeps = λ n w is. is;
  places = refl;
  held = λ n in_old. agree.below n (known n in_old);
  rises = omega arith;
  few = omega arith;
}

-- what holds of each word holds of one among them
pub key_inside : (P : List ℕ → Type 0) (front : List (List ℕ × ℕ)) (term : List ℕ × ℕ) (rest : List (List ℕ × ℕ)) → AllByRecursion P (keys_of (front ++ term ∷ rest)) → P term.0
key_inside P [] term rest all = all.0
key_inside P (t ∷ front) term rest all = key_inside P front term rest all.1

-- a word is none of those before it
pub apart_before : (done : List (List ℕ × ℕ)) (term : List ℕ × ℕ) (rest : List (List ℕ × ℕ)) → IsStrictlySortedBy word_cmp (keys_of (done ++ term ∷ rest)) → AllByRecursion (λ d. d ≡ term.0 → ⊥) (keys_of done)
apart_before [] term rest sorted = tt
apart_before (t ∷ done) term rest sorted =
    let less : word_cmp t.0 term.0 ≡ Less = key_inside (λ y. word_cmp t.0 y ≡ Less) done term rest (sorted_head word_cmp t.0 (keys_of (done ++ term ∷ rest)) sorted) in
    let level : word_cmp t.0 t.0 ≡ Equal = tied_itself words_are_ordered.total t.0 in
    (λ e. (let no : ⊥ = cc (less, level, e) in no), apart_before done term rest (sorted_tail word_cmp t.0 (keys_of (done ++ term ∷ rest)) sorted))

module _ (claims : ℕ → ℕ) (old : List Pair) (before : Entries) (next_word : ℕ) (done : List (List ℕ × ℕ)) (state : Numbered) (is : IsNumbering claims old before next_word done state) (term : List ℕ × ℕ) where
  -- the number of the next word
  abbrev number_of : ℕ
  number_of = number_for term.0 state.next_word state.entries.texts

  -- a number that the old place holds is the word's
  pub numbering-known : has_pair number_of old ≡ true → word_at number_of state.entries.numbers ≡ Some term.0
  numbering-known in_old = found (number_of_word term.0 state.entries.texts) refl in_old
    where
      found : (f : Option ℕ) → number_of_word term.0 state.entries.texts ≡ f → has_pair (unwrap_or f state.next_word) old ≡ true → word_at (unwrap_or f state.next_word) state.entries.numbers ≡ Some term.0
      found None e here = let lt = is.held state.next_word here in absurd (omega arith)
      found (Some m) e here = (is.agree.inverse term.0 m).0 e

  -- the number of a word that is none of those before it is among none of their pairs
  pub numbering-fresh : (rest : List (List ℕ × ℕ)) → IsStrictlySortedBy word_cmp (keys_of (done ++ term ∷ rest)) → has_pair number_of state.pairs ≡ false
  numbering-fresh rest sorted =
      unpaired state.entries.numbers number_of done state.pairs is.named (λ w at. subst (λ (v : List ℕ). AllByRecursion (λ d. d ≡ v → ⊥) (keys_of done)) (same (number_of_word term.0 state.entries.texts) refl w at) (apart_before done term rest sorted))
    where
      same : (f : Option ℕ) → number_of_word term.0 state.entries.texts ≡ f → (w : List ℕ) → word_at (unwrap_or f state.next_word) state.entries.numbers ≡ Some w → term.0 ≡ w
      same None e w at = let lt = below_next (claimed_beside state.pairs old claims) state.entries.texts state.entries.numbers state.next_word state.next_word w is.agree at in absurd (omega arith)
      same (Some m) e w at = (let here : Some term.0 ≡ Some w = sym ((is.agree.inverse term.0 m).0 e) ∙ at in cc here)

  -- it can be held, where the old place doesn't hold it
  pub numbering-room : (rest : List (List ℕ × ℕ)) → IsStrictlySortedBy word_cmp (keys_of (done ++ term ∷ rest)) → has_pair number_of old ≡ false → claims number_of + 1 < 2 ^ 32
      → CanHold term.0 state.next_word state.entries
  numbering-room rest sorted fresh room =
      let none : claimed_beside state.pairs old claims number_of ≡ claims number_of + 0 = rw (fresh, numbering-fresh rest sorted) refl in
      can_hold-one (claimed_beside state.pairs old claims) state.entries state.next_word term.0 is.agree (omega arith)

  -- a word that the old place holds has its number
  pub numbering-held : has_pair number_of old ≡ true → IsNumbering claims old before next_word (done ++ term ∷ []) (record state { pairs = state.pairs ++ (number_of, term.1) ∷ [] })
  numbering-held in_old = record {
    agree = agree-claims (claimed_beside state.pairs old claims) (claimed_beside (state.pairs ++ (number_of, term.1) ∷ []) old claims) state.entries.texts state.entries.numbers state.next_word
        (claimed-old claims state.pairs old (number_of, term.1) in_old) is.agree;
    ascend = is.ascend;
    named = numbered-push state.entries.numbers term number_of (numbering-known in_old) done state.pairs is.named;
    keeps = is.keeps;
    places = is.places;
    held = is.held;
    rises = is.rises;
    few = let few = is.few in omega (arith, length-append done (term ∷ []));
  }

  -- and another has it after it was held
  pub numbering-hold : (rest : List (List ℕ × ℕ)) → IsStrictlySortedBy word_cmp (keys_of (done ++ term ∷ rest)) → has_pair number_of old ≡ false → claims number_of + 1 < 2 ^ 32
      → IsNumbering claims old before next_word (done ++ term ∷ [])
      (record { entries = with_hold term.0 state.next_word state.entries; next_word = next_after (number_of_word term.0 state.entries.texts) state.next_word; pairs = state.pairs ++ (number_of, term.1) ∷ [] })
  numbering-hold rest sorted fresh room =
      let now = claimed_beside state.pairs old claims in
      let then = with_hold term.0 state.next_word state.entries in
      let next = next_after (number_of_word term.0 state.entries.texts) state.next_word in
      let keeps = keeps-holds 1 state.entries state.next_word term.0 now is.agree in
      let up = next_rises state.next_word (number_of_word term.0 state.entries.texts) in
      let one = next_few state.next_word (number_of_word term.0 state.entries.texts) in
      record {
        agree = agree-claims (claimed_more number_of now) (claimed_beside (state.pairs ++ (number_of, term.1) ∷ []) old claims) then.texts then.numbers next
            (claimed-new claims state.pairs old (number_of, term.1) (numbering-fresh rest sorted) fresh)
            (agree-with_hold now state.entries state.next_word term.0 is.agree (numbering-room rest sorted fresh room));
        ascend = ascend-holds 1 state.entries state.next_word term.0 is.ascend;
        named = numbered-push then.numbers term number_of (named-holds 1 state.entries state.next_word term.0) done state.pairs (numbered-kept state.entries.numbers then.numbers keeps done state.pairs is.named);
        keeps = λ n w at. keeps n w (is.keeps n w at);
        places = is.places;
        held = λ n in_old. (let lt = is.held n in_old in omega arith);
        rises = let le = is.rises in omega arith;
        few = let few = is.few in omega (arith, length-append done (term ∷ []));
      }

-- ---- all of them

-- one word's step goes from the words numbered to those that are left
pub numbered-step : (old front : List Pair) (term : List ℕ × ℕ) (rest : List (List ℕ × ℕ)) (next_word : ℕ) (entries : Entries)
    → with_pairs front (numbered old (term ∷ rest) next_word entries)
    ≡ with_pairs (front ++ (number_for term.0 next_word entries.texts, term.1) ∷ [])
    (cond (has_pair (number_for term.0 next_word entries.texts) old) (numbered old rest next_word entries)
    (numbered old rest (next_after (number_of_word term.0 entries.texts) next_word) (with_hold term.0 next_word entries)))
numbered-step old front term rest next_word entries =
    let number = number_for term.0 next_word entries.texts in
    let result = cond (has_pair number old) (numbered old rest next_word entries) (numbered old rest (next_after (number_of_word term.0 entries.texts) next_word) (with_hold term.0 next_word entries)) in
    ap (λ (ps : List Pair). record result { pairs = ps }) (sym (append_assoc front ((number, term.1) ∷ []) result.pairs))

module _ (claims : ℕ → ℕ) (old : List Pair) (before : Entries) (next_word : ℕ) (room : (n : ℕ) → has_pair n old ≡ false → claims n + 1 < 2 ^ 32) where
  -- the words that are left are numbered behind those that are
  pub numbering-rest : (rest done : List (List ℕ × ℕ)) (state : Numbered) → IsNumbering claims old before next_word done state → IsStrictlySortedBy word_cmp (keys_of (done ++ rest))
      → IsNumbering claims old before next_word (done ++ rest) (with_pairs state.pairs (numbered old rest state.next_word state.entries))
  numbering-rest [] done state is sorted =
      subst₂ (λ (words : List (List ℕ × ℕ)) (pairs : List Pair). IsNumbering claims old before next_word words (record state { pairs = pairs })) (sym (append-nil done)) (sym (append-nil state.pairs)) is
  numbering-rest (term ∷ rest) done state is sorted =
      subst₂ (λ (words : List (List ℕ × ℕ)) (result : Numbered). IsNumbering claims old before next_word words result) (append_assoc done (term ∷ []) rest) (sym (numbered-step old state.pairs term rest state.next_word state.entries))
      (split (λ then is_then. numbering-rest rest (done ++ term ∷ []) then is_then left) (has_pair number old) refl)
    where
      number : ℕ
      number = number_for term.0 state.next_word state.entries.texts

      next : ℕ
      next = next_after (number_of_word term.0 state.entries.texts) state.next_word

      left : IsStrictlySortedBy word_cmp (keys_of ((done ++ term ∷ []) ++ rest))
      left = subst (λ (words : List (List ℕ × ℕ)). IsStrictlySortedBy word_cmp (keys_of words)) (sym (append_assoc done (term ∷ []) rest)) sorted

      split : ((then : Numbered) → IsNumbering claims old before next_word (done ++ term ∷ []) then
          → IsNumbering claims old before next_word ((done ++ term ∷ []) ++ rest) (with_pairs then.pairs (numbered old rest then.next_word then.entries))) → (b : Bool) → has_pair number old ≡ b
          → IsNumbering claims old before next_word ((done ++ term ∷ []) ++ rest)
          (with_pairs (state.pairs ++ (number, term.1) ∷ []) (cond b (numbered old rest state.next_word state.entries) (numbered old rest next (with_hold term.0 state.next_word state.entries))))
      split go true in_old = go _ (numbering-held claims old before next_word done state is term in_old)
      split go false fresh = go _ (numbering-hold claims old before next_word done state is term rest sorted fresh (room number fresh))

  -- all words are numbered
  pub numbering-all : (words : List (List ℕ × ℕ)) → WordTablesAgree claims before.texts before.numbers next_word → AreAscending before → ((n : ℕ) → has_pair n old ≡ true → IsSome (word_of_number n before.numbers))
      → IsStrictlySortedBy word_cmp (keys_of words) → IsNumbering claims old before next_word words (numbered old words next_word before)
  numbering-all words agree ascend known sorted = numbering-rest words [] (record { entries = before; next_word = next_word; pairs = [] }) (numbering-start claims old before next_word agree ascend known) sorted
