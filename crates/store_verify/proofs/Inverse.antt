-- The words by text, the other way round and in the order of their numbers, are those by number exactly if the two are inverse.
use Rattle.std.proofs.Common.{◌≡◌, ℕ, suc, ◌+◌, ◌*◌, ◌<◌, ◌≤◌, List, [], ◌∷◌, get_or, length, map, Bool, true, false, cond, Some, arith, refl, sym, ap, ◌∙◌, subst, ⊎_elim, mul_comm}
use Rattle.std.specs.BTreeMap.{is_at}
use Rattle.std.specs.Cmp.Lexicographic.{slice_cmp, nat_list_cmp_total}
use Rattle.std.specs.List.{AllByRecursion}
use Rattle.std.specs.List.Sorted.{IsPermutation, IsNonDecreasingBy, IsSorted, IsStrictlySortedBy}
use Rattle.std.specs.Map.{keys_of, lookup}
use Rattle.std.specs.Ordering.{nat_cmp, ordering_then, is_lt}
use Rattle.std.specs.declared.cmp.Ordering.{Ordering}
use Rattle.std.specs.declared.cmp.Ordering.TheVariants.{Less, Equal, Greater}
use Rattle.std.proofs.lemmas.Bool.{cases_eq}
use Rattle.std.proofs.lemmas.Cmp.{nat_cmp_total}
use Rattle.std.proofs.lemmas.List.Sorted.{IsNonDecreasingBy-from_sort}
use Rattle.std.proofs.lemmas.Bool.Decides.{nat_tests}
use Rattle.std.proofs.lemmas.Map.Lookups.{exact_unsigned, exact_bytes}
use Rattle.row_codec.specs.declared.counted.Counted.{Counted}
use Rattle.store_tables.specs.Entries.{word_cmp, word_of_number, number_of_word}
use Rattle.store_tables.specs.Words.{word_in}
use Rattle.store_verify.specs.Words.{Named, turned, named, AreInverse}
use Rattle.store_verify.proofs.Times.{count, count-moved, IsUp, IsClimbing, same-list, same_pair, pair-tells, lookup-count, count-lookup, sorted-once, same_number, same_text, number-tells, text-tells}

-- ---- order

-- a number that is less in the order is less
less-lt : (a b : ℕ) → nat_cmp a b ≡ Less → a < b
less-lt a b e = grind (arith, nat_tests)

-- numbers behind one in order are all above it
all-above : (low m : ℕ) → low ≤ m → (ns : List ℕ) → AllByRecursion (λ y. nat_cmp m y ≡ Less) ns → AllByRecursion (λ y. low + 1 ≤ y) ns
all-above low m le [] all = tt
all-above low m le (n ∷ ns) all = (let less = less-lt m n all.0 in omega arith, all-above low m le ns all.1)

-- rows in strict order of their numbers climb
pub sorted-climbing : {V : Type 0} (low : ℕ) (es : List (ℕ × V)) → AllByRecursion (λ y. low ≤ y) (keys_of es) → IsStrictlySortedBy nat_cmp (keys_of es) → IsClimbing (λ (e : ℕ × V). e.0) low es
unfolding IsStrictlySortedBy
sorted-climbing low [] all sorted = tt
sorted-climbing low (e ∷ es) all sorted = (all.0, sorted-climbing (e.0 + 1) es (all-above e.0 e.0 (omega arith) (keys_of es) sorted.0) sorted.1)

all-from_zero : (ns : List ℕ) → AllByRecursion (λ y. 0 ≤ y) ns
all-from_zero [] = tt
all-from_zero (n ∷ ns) = (omega arith, all-from_zero ns)

pub climbing-rows : {V : Type 0} (es : List (ℕ × V)) → IsStrictlySortedBy nat_cmp (keys_of es) → IsClimbing (λ (e : ℕ × V). e.0) 0 es
climbing-rows es sorted = sorted-climbing 0 es (all-from_zero (keys_of es)) sorted

-- a list whose keys don't descend by index goes up
pub up-sorted : {X : Type 0} (key : X → ℕ) (low : ℕ) (xs : List X) → ((d : X) → 0 < length xs → low ≤ key (get_or xs 0 d)) → IsNonDecreasingBy key xs → IsUp key low xs
up-sorted key low [] first sorted = tt
up-sorted key low (x ∷ xs) first sorted =
    (first x (omega arith), up-sorted key (key x) xs (λ d some. sorted 0 1 d (omega arith) (omega arith)) (λ i j d le lt. sorted (suc i) (suc j) d (omega arith) (omega arith)))

-- a sort by number and word leaves the numbers in order
less-first : (a b : Named) → is_lt (ordering_then (nat_cmp a.0 b.0) (slice_cmp nat_cmp a.1 b.1)) ≡ false → is_lt (nat_cmp a.0 b.0) ≡ false
less-first a b e = by (nat_cmp a.0 b.0) e
  where
    by : (o : Ordering) → is_lt (ordering_then o (slice_cmp nat_cmp a.1 b.1)) ≡ false → is_lt o ≡ false
    by Less h = h
    by Equal h = refl
    by Greater h = refl

pub sorted-first : (rows : List Named) → IsSorted (λ (a b : Named). ordering_then (nat_cmp a.0 b.0) (slice_cmp nat_cmp a.1 b.1)) rows → IsNonDecreasingBy (λ (r : Named). r.0) rows
sorted-first rows sorted = IsNonDecreasingBy-from_sort (λ (r : Named). r.0) rows (λ k d low high. less-first (get_or rows (k + 1) d) (get_or rows k d) (sorted k d low high))

-- ---- rows by number without their counts

named-keys : (numbers : List (ℕ × Counted)) → keys_of (map named numbers) ≡ keys_of numbers
named-keys [] = refl
named-keys (row ∷ rows) = ap (λ (ks : List ℕ). row.0 ∷ ks) (named-keys rows)

pub named-lookup : (number : ℕ) (numbers : List (ℕ × Counted)) → lookup (is_at (nat_cmp number)) (map named numbers) ≡ word_in (word_of_number number numbers)
named-lookup number [] = refl
named-lookup number (row ∷ rows) = by (is_at (nat_cmp number) row.0) (named-lookup number rows)
  where
    by : (b : Bool) → lookup (is_at (nat_cmp number)) (map named rows) ≡ word_in (word_of_number number rows)
        → cond b (Some row.1.word) (lookup (is_at (nat_cmp number)) (map named rows)) ≡ word_in (cond b (Some row.1) (word_of_number number rows))
    by true rest = refl
    by false rest = rest

-- ---- the two tables

-- how often a word has a number, and a number a word
abbrev by_text : List ℕ → ℕ → List (List ℕ × ℕ) → ℕ
by_text word number texts = count (same_pair same_text same_number) (word, number) texts

abbrev by_number : List ℕ → ℕ → List Named → ℕ
by_number word number rows = count (same_pair same_number same_text) (number, word) rows

count-turned : (word : List ℕ) (number : ℕ) (texts : List (List ℕ × ℕ)) → by_text word number texts ≡ by_number word number (map turned texts)
count-turned word number [] = refl
count-turned word number (row ∷ rows) =
    let first : same_text word row.0 * same_number number row.1 ≡ same_number number row.1 * same_text word row.0 = mul_comm (same_text word row.0) (same_number number row.1) in
    let rest = count-turned word number rows in
    omega arith

module _ (texts : List (List ℕ × ℕ)) (numbers : List (ℕ × Counted)) (back : List Named) (sorted : IsStrictlySortedBy word_cmp (keys_of texts)) (climbs : IsStrictlySortedBy nat_cmp (keys_of numbers)) (moved : IsPermutation (map turned texts) back) where
  names : List Named
  names = map named numbers

  names_sorted : IsStrictlySortedBy nat_cmp (keys_of names)
  unfolding names
  names_sorted = subst (IsStrictlySortedBy nat_cmp) (sym (named-keys numbers)) climbs

  count-back : (word : List ℕ) (number : ℕ) → by_text word number texts ≡ by_number word number back
  count-back word number = count-turned word number texts ∙ sym (count-moved (same_pair same_number same_text) (map turned texts) back moved (number, word))

  -- a word's number by text, and a number's word by number, as counts
  text-counts : (word : List ℕ) (number : ℕ) → number_of_word word texts ≡ Some number → 1 ≤ by_text word number texts
  text-counts word number found = lookup-count nat_list_cmp_total exact_bytes same_text same_number text-tells number-tells word number texts found

  text-found : (word : List ℕ) (number : ℕ) → 1 ≤ by_text word number texts → number_of_word word texts ≡ Some number
  text-found word number some = count-lookup nat_list_cmp_total exact_bytes same_text same_number text-tells number-tells word number texts sorted some

  name-counts : (word : List ℕ) (number : ℕ) → word_in (word_of_number number numbers) ≡ Some word → 1 ≤ by_number word number names
  unfolding names
  name-counts word number found = lookup-count nat_cmp_total exact_unsigned same_number same_text number-tells text-tells number word (map named numbers) (named-lookup number numbers ∙ found)

  name-found : (word : List ℕ) (number : ℕ) → 1 ≤ by_number word number names → word_in (word_of_number number numbers) ≡ Some word
  unfolding names
  name-found word number some =
      sym (named-lookup number numbers) ∙ count-lookup nat_cmp_total exact_unsigned same_number same_text number-tells text-tells number word (map named numbers) names_sorted some

  -- if the rows are the same, the tables are inverse
  pub inverse-from : back ≡ map named numbers → AreInverse texts numbers
  unfolding names
  inverse-from e = λ word number.
      let counts : by_text word number texts ≡ by_number word number names = count-back word number ∙ ap (by_number word number) e in (
        (λ found. let some = text-counts word number found in name-found word number (omega arith)),
        (λ found. let some = name-counts word number found in text-found word number (omega arith)),
      )

  -- and if the tables are inverse, the rows are the same
  pub same-from : IsNonDecreasingBy (λ (r : Named). r.0) back → AreInverse texts numbers → back ≡ map named numbers
  unfolding names
  same-from up inverse =
      same-list (λ (r : Named). r.0) (same_pair same_number same_text) (pair-tells same_number same_text number-tells text-tells) back names 0 0
      (up-sorted (λ (r : Named). r.0) 0 back (λ d some. omega arith) up) (climbing-rows names names_sorted)
      (λ r.
      let counts = count-back r.1 r.0 in
      let once = sorted-once nat_list_cmp_total exact_bytes same_text same_number text-tells number-tells r.1 r.0 texts sorted in
      let once' = sorted-once nat_cmp_total exact_unsigned same_number same_text number-tells text-tells r.0 r.1 names names_sorted in
      ⊎_elim
      (λ none. ⊎_elim (λ none'. omega arith)
      (λ some. let found = text-counts r.1 r.0 ((inverse r.1 r.0).1 (name-found r.1 r.0 (omega arith))) in absurd (omega arith)) (cases_eq (by_number r.1 r.0 names) 0))
      (λ some. let found = name-counts r.1 r.0 ((inverse r.1 r.0).0 (text-found r.1 r.0 (omega arith))) in omega arith)
      (cases_eq (by_text r.1 r.0 texts) 0))
