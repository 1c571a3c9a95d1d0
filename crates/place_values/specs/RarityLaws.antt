-- What is known of weights by rarity.
use Rattle.std.proofs.Common.{◌≡◌, ℕ, zero, suc, ◌+◌, ◌*◌, ◌^◌, ◌≤◌, Bool, true, false, cond, nat_le, nat_eq, List, [], ◌∷◌, ◌++◌, length, map, refl, ap, sym, subst, ◌∙◌, arith, length-append}
use Rattle.std.specs.Prelude.{All, not}
use Rattle.std.specs.List.{filter}
use Rattle.std.proofs.lemmas.List.Elements.{filter-append}
use Rattle.std.proofs.lemmas.List.Filters.{length-filter_both}
use Rattle.spatial_base.specs.Key.{Name}
use Rattle.place_values.specs.declared.place.Place.{Place}
use Rattle.place_values.specs.Filter.{has_word}
use Rattle.place_values.specs.Query.{IsTerms, IsWeight, IsWeights}
use Rattle.place_values.specs.Rarity.{greatest, rarity, holders_of, weighed_by_rarity}
use Rattle.place_values.specs.State.{Places}

greatest_go : (meets : ℕ → Bool) (n : ℕ) (last : Bool) → greatest meets n ≤ n → cond last (suc n) (greatest meets n) ≤ suc n
greatest_go meets n true few = omega arith
greatest_go meets n false few = omega (arith, few)

greatest_few : (meets : ℕ → Bool) (n : ℕ) → greatest meets n ≤ n
greatest_few meets zero = omega arith
greatest_few meets (suc n) = greatest_go meets n (meets (suc n)) (greatest_few meets n)

weight_go : (none : Bool) (n : ℕ) → n ≤ 19 → (1 ≤ cond none 1 (1 + n)) × (cond none 1 (1 + n) ≤ 20)
weight_go true n few = (omega arith, omega arith)
weight_go false n few = (omega arith, omega (arith, few))

-- a weight by rarity is 1 to 20
pub rarity_within : (live holders : ℕ) → (1 ≤ rarity live holders) × (rarity live holders ≤ 20)
rarity_within live holders = weight_go (nat_eq holders 0) (greatest (λ e. nat_le (holders * 2 ^ e) live) 19) (greatest_few (λ e. nat_le (holders * 2 ^ e) live) 19)

-- no more places hold a word than there are
pub few_holders : (word : List ℕ) (places : Places) → length (holders_of word places) ≤ length places
few_holders word places =
    omega (arith, length-filter_both (λ (entry : Name × Place). has_word entry.1 word) (λ entry. not (has_word entry.1 word)) (λ entry. refl) places)

-- one more place, which holds the word or doesn't
pub more_holders : (word : List ℕ) (done : Places) (entry : Name × Place) (holds : Bool) → has_word entry.1 word ≡ holds
    → length (holders_of word (done ++ entry ∷ [])) ≡ length (holders_of word done) + cond holds 1 0
more_holders word done entry holds is =
    ap length (filter-append (λ (entry : Name × Place). has_word entry.1 word) done (entry ∷ []))
    ∙ length-append (holders_of word done) (holders_of word (entry ∷ []))
    ∙ ap (λ n. length (holders_of word done) + n) (by_answer holds is)
  where
    by_answer : (holds : Bool) → has_word entry.1 word ≡ holds → length (holders_of word (entry ∷ [])) ≡ cond holds 1 0
    by_answer true is = rw is refl
    by_answer false is = rw is refl

-- the words stay the same
pub words_weighed : (places : Places) (words : List (List ℕ)) → map (λ (term : List ℕ × ℕ). term.0) (weighed_by_rarity places words) ≡ words
words_weighed places [] = refl
words_weighed places (word ∷ words) = ap (λ rest. word ∷ rest) (words_weighed places words)

weights_within : (places : Places) (words : List (List ℕ)) → All IsWeight (weighed_by_rarity places words)
weights_within places [] k d less = absurd (omega arith)
weights_within places (word ∷ words) zero d less =
    let within = rarity_within (length places) (length (holders_of word places)) in
    record { some = within.0; few = within.1 }
weights_within places (word ∷ words) (suc k) d less = weights_within places words k d (omega arith)

-- words that may be asked for have weights that may be asked for
pub weighed_sound : (places : Places) (words : List (List ℕ)) → IsTerms words → IsWeights (weighed_by_rarity places words)
weighed_sound places words sound = record { words = subst IsTerms (sym (words_weighed places words)) sound; weights = weights_within places words }
