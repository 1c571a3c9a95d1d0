-- The impact of a place's word is that of its number.
use Rattle.std.proofs.Common.{◌≡◌, ℕ, max, Bool, true, false, cond, ◌||◌, ◌==◌, eqb-true, List, [], ◌∷◌, Option, Some, None, unwrap_or, refl, sym, ap, ◌∙◌, arith}
use Rattle.std.proofs.lemmas.Map.Keys.{sorted_from_strictly_increasing}
use Rattle.std.proofs.lemmas.Map.Text.{is_eq-slice_cmp}
use Rattle.std.specs.BTreeMap.{is_at}
use Rattle.std.specs.Map.{keys_of, lookup}
use Rattle.std.specs.Ordering.{nat_cmp}
use Rattle.std.specs.Str.{bytes_eq}
use Rattle.term_impacts.specs.Pairs as texts
use Rattle.row_codec.specs.declared.counted.Counted.{Counted}
use Rattle.row_codec.specs.declared.stored.Stored.{Stored}
use Rattle.row_codec.specs.Pairs.{Pair}
use Rattle.row_codec.specs.Stored.{IsStored, held_pairs}
use Rattle.node_rows.specs.Impacts.{impact_in}
use Rattle.store_tables.specs.Entries.{word_cmp, number_of_word}
use Rattle.store_tables.specs.Words.{WordTablesAgree, words_of_place}
use Rattle.store_tables.proofs.EntryLemmas.{equal_test}
use Rattle.store_model.specs.Updates.{has_pair}
use Rattle.store_model.proofs.Steps.{AreApart}
use Rattle.store_model.proofs.Pairs.{apart-ascending, impact_at, lookup_words}
use Rattle.node_filter.specs.Numbers.{by_number}

-- tests that are the same find the same
lookup-tests : {K X : Type 0} (s t : K → Bool) → ((k : K) → s k ≡ t k) → (es : List (K × X)) → lookup s es ≡ lookup t es
lookup-tests s t same [] = refl
lookup-tests s t same (e ∷ es) = λ i. cond (same e.0 i) (Some e.1) (lookup-tests s t same es i)

-- a number of no pair has no impact
impact-none : (n : ℕ) (pairs : List Pair) → has_pair n pairs ≡ false → impact_in pairs n ≡ 0
impact-none n [] none = refl
impact-none n (p ∷ pairs) none = split (p.0 == n) none (impact-none n pairs)
  where
    split : (b : Bool) → (b || has_pair n pairs) ≡ false → (has_pair n pairs ≡ false → impact_in pairs n ≡ 0) → max (impact_in pairs n) (cond b p.1 0) ≡ 0
    split true h rest = absurd (cc)
    split false h rest = let r = rest h in omega arith

-- the impact at a number, of pairs that are apart, is that of the number's pair
impact-found : (n : ℕ) (pairs : List Pair) → AreApart pairs → impact_in pairs n ≡ unwrap_or (lookup (is_at (nat_cmp n)) pairs) 0
impact-found n [] apart = refl
impact-found n (p ∷ pairs) apart = split (p.0 == n) refl (impact-found n pairs apart.1) ∙ ap (λ (b : Bool). unwrap_or (cond b (Some p.1) (lookup (is_at (nat_cmp n)) pairs)) 0) (equal_test n p.0)
  where
    split : (b : Bool) → (p.0 == n) ≡ b → impact_in pairs n ≡ unwrap_or (lookup (is_at (nat_cmp n)) pairs) 0 → max (impact_in pairs n) (cond b p.1 0) ≡ unwrap_or (cond b (Some p.1) (lookup (is_at (nat_cmp n)) pairs)) 0
    split true e rest =
        let none : impact_in pairs n ≡ 0 = impact-none n pairs (ap (λ (m : ℕ). has_pair m pairs) (sym (eqb-true p.0 n e)) ∙ apart.0) in
        omega arith
    split false e rest = omega (arith, rest)

-- at a number that may be missing
number-found : (pairs : List Pair) → AreApart pairs → (found : Option ℕ) → by_number (impact_in pairs) found ≡ unwrap_or (impact_at found pairs) 0
number-found pairs apart None = refl
number-found pairs apart (Some n) = impact-found n pairs apart

-- the impact of a place's word by its text is the one at the number that the words by text have for it
pub word-impact : (claims : ℕ → ℕ) (by_text : List (List ℕ × ℕ)) (numbers : List (ℕ × Counted)) (next_word : ℕ) → WordTablesAgree claims by_text numbers next_word
    → (word : List ℕ) (stored : Stored) → IsStored stored → by_number (impact_in (held_pairs stored)) (number_of_word word by_text) ≡ texts.impact_in (words_of_place numbers stored) word
word-impact claims by_text numbers next_word agree word stored form =
    let pairs = held_pairs stored in
    let apart : AreApart pairs = apart-ascending pairs (sorted_from_strictly_increasing (keys_of pairs) form.ascending) in
    number-found pairs apart (number_of_word word by_text)
    ∙ ap (λ (o : Option ℕ). unwrap_or o 0) (sym (lookup_words claims by_text numbers next_word agree word pairs)
    ∙ lookup-tests (is_at (word_cmp word)) (bytes_eq word) (λ k. is_eq-slice_cmp word k) (words_of_place numbers stored))
