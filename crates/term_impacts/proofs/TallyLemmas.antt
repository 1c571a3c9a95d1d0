-- How a tally changes with one more word.
use Rattle.std.proofs.Common.{◌≡◌, ℕ, zero, suc, ◌+◌, ◌*◌, ◌/◌, ◌<◌, ◌≤◌, Bool, true, false, not, ◌||◌, cond, List, [], ◌∷◌, ◌++◌, length, map, filter, take, position, is_some, append_assoc, Option, None, Some, refl, sym, ap, ap₂, subst, ◌∙◌, true≢false, arith, get_or, slice_get, length-append, length-take, take_all, append-nil, add-zero, zero-add}
use Rattle.std.proofs.lemmas.Cmp.{nat_list_eq_equiv}
use Rattle.std.proofs.lemmas.Grind.{fold-append}
use Rattle.std.specs.BTreeMap.{insert_entry}
use Rattle.std.proofs.lemmas.List.{length-map, map-append, take-append-le}
use Rattle.std.proofs.lemmas.List.Quantifiers.{position-Some}
use Rattle.std.proofs.lemmas.List.Sums.{sum_by-append, sum_by-cons, count_by-le-length}
use Rattle.std.proofs.lemmas.Map.Keys.{IsDistinct-head, IsDistinct-tail, apart_from_distinct}
use Rattle.std.specs.Cmp.Lexicographic.{same_text}
use Rattle.std.specs.List.{list_any, IsDistinct, AllByRecursion}
use Rattle.std.specs.Map.{keys_of, values_of}
use Rattle.std.specs.Str.{bytes_eq}
use Rattle.indexmap.specs.Layout.{set_value_at}
use Rattle.term_impacts.specs.Impacts.{term_frequency, distinct, first_words, impact, impacts_of}
use Rattle.term_impacts.specs.Pairs.{by_word}
use Rattle.term_impacts.specs.Tally.{IsTally}
use Rattle.term_impacts.proofs.PairsLemmas.{word_cmp, length-insert_entry}

-- the word stands in the list
abbrev pub stands : List ℕ → List (List ℕ) → Bool
stands word words = list_any (bytes_eq word) words

filter-append : {X : Type 0} (test : X → Bool) (xs ys : List X) → filter test (xs ++ ys) ≡ filter test xs ++ filter test ys
filter-append test [] ys = refl
filter-append test (x ∷ xs) ys =
    elim (test x) as (λ b. cond b (x ∷ filter test (xs ++ ys)) (filter test (xs ++ ys)) ≡ cond b (x ∷ filter test xs) (filter test xs) ++ filter test ys) [
      | true ↦ ap (λ l. x ∷ l) (filter-append test xs ys)
      | false ↦ filter-append test xs ys
    ]

-- one more word at the end is new, or stands already
distinct-push : (words : List (List ℕ)) (word : List ℕ) → distinct (words ++ word ∷ []) ≡ cond (stands word words) (distinct words) (distinct words ++ word ∷ [])
distinct-push [] word = refl
distinct-push (first ∷ words) word =
    ap (λ ws. first ∷ filter (λ other. not (bytes_eq first other)) ws) (distinct-push words word) ∙ by (stands word words) (bytes_eq word first) (nat_list_eq_equiv.symm first word)
  where
    by : (there same : Bool) → bytes_eq first word ≡ same
        → first ∷ filter (λ other. not (bytes_eq first other)) (cond there (distinct words) (distinct words ++ word ∷ []))
        ≡ cond (same || there) (first ∷ filter (λ other. not (bytes_eq first other)) (distinct words)) (first ∷ filter (λ other. not (bytes_eq first other)) (distinct words) ++ word ∷ [])
    by true true e = refl
    by true false e = refl
    by false same e =
        ap (λ l. first ∷ l) (filter-append (λ other. not (bytes_eq first other)) (distinct words) (word ∷ []))
        ∙ ap (λ b. first ∷ (filter (λ other. not (bytes_eq first other)) (distinct words) ++ cond (not b) (word ∷ []) [])) e
        ∙ elim same as (λ b. first ∷ (filter (λ other. not (bytes_eq first other)) (distinct words) ++ cond (not b) (word ∷ []) [])
        ≡ cond (b || false) (first ∷ filter (λ other. not (bytes_eq first other)) (distinct words)) (first ∷ filter (λ other. not (bytes_eq first other)) (distinct words) ++ word ∷ [])) [
          | true ↦ ap (λ l. first ∷ l) (append-nil _)
          | false ↦ refl
        ]

-- a word stands among the distinct ones where it stands in the list
or_false : (a b : Bool) → a || b ≡ false → (a ≡ false) × (b ≡ false)
or_false true b e = absurd (true≢false e)
or_false false b e = (refl, e)

stands-filter : (first word : List ℕ) (words : List (List ℕ)) → bytes_eq word first ≡ false → stands word (filter (λ other. not (bytes_eq first other)) words) ≡ stands word words
stands-filter first word [] apart = refl
stands-filter first word (x ∷ words) apart =
    elim (bytes_eq first x) as (λ b. bytes_eq first x ≡ b
    → stands word (cond (not b) (x ∷ filter (λ other. not (bytes_eq first other)) words) (filter (λ other. not (bytes_eq first other)) words)) ≡ bytes_eq word x || stands word words) [
      | true ↦ λ same.
          let differs : bytes_eq word x ≡ false = ap (bytes_eq word) (sym (same_text first x (sym same))) ∙ apart in
          stands-filter first word words apart ∙ sym (ap (λ b. b || stands word words) differs)
      | false ↦ λ other. ap (λ b. bytes_eq word x || b) (stands-filter first word words apart)
    ] refl

stands-distinct : (word : List ℕ) (words : List (List ℕ)) → stands word (distinct words) ≡ stands word words
stands-distinct word [] = refl
stands-distinct word (first ∷ words) =
    elim (bytes_eq word first) as (λ b. bytes_eq word first ≡ b → b || stands word (filter (λ other. not (bytes_eq first other)) (distinct words)) ≡ b || stands word words) [
      | true ↦ λ same. refl
      | false ↦ λ apart. stands-filter first word (distinct words) apart ∙ stands-distinct word words
    ] refl

stands-take : (n : ℕ) (word : List ℕ) (words : List (List ℕ)) → stands word (take n words) ≡ true → stands word words ≡ true
stands-take zero word words there = absurd (true≢false (sym there))
stands-take (suc n) word [] there = there
stands-take (suc n) word (x ∷ words) there =
    elim (bytes_eq word x) as (λ b. b || stands word (take n words) ≡ true → b || stands word words ≡ true) [
      | true ↦ λ _. refl
      | false ↦ λ later. stands-take n word words later
    ] there

stands_at : (word : List ℕ) (words : List (List ℕ)) (at : ℕ) (d : List ℕ) → at < length words → bytes_eq word (get_or words at d) ≡ true → stands word words ≡ true
stands_at word [] at d lt same = absurd (omega arith)
stands_at word (x ∷ words) zero d lt same = ap (λ b. b || stands word words) same
stands_at word (x ∷ words) (suc at) d lt same =
    ap (λ b. bytes_eq word x || b) (stands_at word words at d (omega arith) same) ∙ or-true (bytes_eq word x)
  where
    or-true : (b : Bool) → b || true ≡ true
    or-true true = refl
    or-true false = refl

-- ---- how often a word stands

frequency_push : (words : List (List ℕ)) (word other : List ℕ) (same : Bool) → bytes_eq other word ≡ same
    → term_frequency (words ++ word ∷ []) other ≡ term_frequency words other + cond same 1 0
frequency_push words word other same e =
    sum_by-append (λ w. cond (bytes_eq other w) 1 0) words (word ∷ [])
    ∙ ap (λ n. term_frequency words other + n) (zero-add (cond (bytes_eq other word) 1 0) ∙ ap (λ b. cond b 1 0) e)

-- a word that does not stand in the list stands there 0 times
frequency_none : (words : List (List ℕ)) (word : List ℕ) → stands word words ≡ false → term_frequency words word ≡ 0
frequency_none [] word none = refl
frequency_none (x ∷ words) word none =
    let parts = or_false (bytes_eq word x) (stands word words) none in
    sum_by-cons (λ w. cond (bytes_eq word w) 1 0) x words ∙ ap (λ b. cond b 1 0 + term_frequency words word) parts.0 ∙ zero-add (term_frequency words word) ∙ frequency_none words word parts.1

-- ---- the rows of a tally

-- each word with its number of occurrences
abbrev pub rows : List (List ℕ) → List (List ℕ) → List (List ℕ × ℕ)
rows words ks = map (λ word. (word, term_frequency words word)) ks

keys_of-rows : (words ks : List (List ℕ)) → keys_of (rows words ks) ≡ ks
keys_of-rows words [] = refl
keys_of-rows words (k ∷ ks) = ap (λ l. k ∷ l) (keys_of-rows words ks)

-- the rows of other words stay
rows_stay : (words : List (List ℕ)) (word : List ℕ) (ks : List (List ℕ)) → stands word ks ≡ false → rows (words ++ word ∷ []) ks ≡ rows words ks
rows_stay words word [] none = refl
rows_stay words word (k ∷ ks) none =
    let parts = or_false (bytes_eq word k) (stands word ks) none in
    let stays : term_frequency (words ++ word ∷ []) k ≡ term_frequency words k =
    frequency_push words word k false (nat_list_eq_equiv.symm k word ∙ parts.0) ∙ add-zero (term_frequency words k) in
    ap₂ (λ n l. (k, n) ∷ l) stays (rows_stay words word ks parts.1)

apart_stands : (word k : List ℕ) (ks : List (List ℕ)) → k ≡ word → AllByRecursion (λ other. bytes_eq k other ≡ false) ks → stands word ks ≡ false
apart_stands word k [] same all = refl
apart_stands word k (x ∷ ks) same all =
    ap₂ (λ a b. a || b) (ap (λ w. bytes_eq w x) (sym same) ∙ all.0) (apart_stands word k ks same all.1)

-- the row of the word rises by one
rows_rise : (words : List (List ℕ)) (word : List ℕ) (ks : List (List ℕ)) (at n : ℕ) (d : List ℕ) → IsDistinct bytes_eq ks → at < length ks
    → bytes_eq word (get_or ks at d) ≡ true → slice_get (values_of (rows words ks)) at ≡ Some n
    → rows (words ++ word ∷ []) ks ≡ set_value_at (rows words ks) at (n + 1)
rows_rise words word [] at n d keys lt same value = absurd (omega arith)
rows_rise words word (k ∷ ks) zero n d keys lt same value =
    let was : term_frequency words k ≡ n = cc in
    let same_key : k ≡ word = sym (same_text word k (sym same)) in
    let rises : term_frequency (words ++ word ∷ []) k ≡ n + 1 =
    frequency_push words word k true (nat_list_eq_equiv.symm k word ∙ same) ∙ ap (λ m. m + 1) was in
    ap₂ (λ m l. (k, m) ∷ l) rises (rows_stay words word ks (apart_stands word k ks same_key (IsDistinct-head bytes_eq k ks keys)))
rows_rise words word (k ∷ ks) (suc at) n d keys lt same value =
    let inside : at < length ks = omega arith in
    let apart : bytes_eq k word ≡ false =
    ap (bytes_eq k) (same_text word (get_or ks at d) (sym same)) ∙ apart_from_distinct bytes_eq (k ∷ ks) 0 (suc at) d keys (omega arith) lt in
    let stays : term_frequency (words ++ word ∷ []) k ≡ term_frequency words k =
    frequency_push words word k false apart ∙ add-zero (term_frequency words k) in
    ap₂ (λ m l. (k, m) ∷ l) stays (rows_rise words word ks at n d (IsDistinct-tail bytes_eq k ks keys) inside same value)

-- ---- one more word

-- the number of a word is at most the number of all words
pub count_le : (words : List (List ℕ)) (entries : List (List ℕ × ℕ)) (total at n : ℕ) → IsTally words entries total → slice_get (values_of entries) at ≡ Some n → n ≤ length words
count_le words entries total at n is value = by (first_words words) at (ap (λ es. slice_get (values_of es) at) (sym is.counts) ∙ value)
  where
    by : (ks : List (List ℕ)) (at : ℕ) → slice_get (values_of (rows words ks)) at ≡ Some n → n ≤ length words
    by [] at e = absurd (cc)
    by (k ∷ ks) zero e =
        let same : term_frequency words k ≡ n = cc in
        omega (arith, same, count_by-le-length (bytes_eq k) words)
    by (k ∷ ks) (suc at) e = by ks at e

-- a word that is counted already is counted once more
pub IsTally-again : (words : List (List ℕ)) (word : List ℕ) (entries : List (List ℕ × ℕ)) (total at n : ℕ) → IsTally words entries total
    → IsDistinct bytes_eq (keys_of entries) → position (bytes_eq word) (keys_of entries) ≡ Some at → slice_get (values_of entries) at ≡ Some n
    → IsTally (words ++ word ∷ []) (set_value_at entries at (n + 1)) (total + 1)
IsTally-again words word entries total at n is apart found value =
    let ks = first_words words in
    let keys : keys_of entries ≡ ks = ap keys_of is.counts ∙ keys_of-rows words ks in
    let place = position-Some (bytes_eq word) ks at [] (ap (position (bytes_eq word)) (sym keys) ∙ found) in
    let there : stands word words ≡ true =
    sym (stands-distinct word words) ∙ stands-take 64 word (distinct words) (stands_at word ks at [] place.0 place.1) in
    let firsts : first_words (words ++ word ∷ []) ≡ ks =
    ap (take 64) (distinct-push words word ∙ ap (λ b. cond b (distinct words) (distinct words ++ word ∷ [])) there) in
    record {
      counts =
          ap (λ es. set_value_at es at (n + 1)) is.counts
          ∙ sym (rows_rise words word ks at n [] (subst (IsDistinct bytes_eq) keys apart) place.0 place.1 (ap (λ es. slice_get (values_of es) at) (sym is.counts) ∙ value))
          ∙ ap (rows (words ++ word ∷ [])) (sym firsts);
      total = ap (λ m. m + 1) is.total ∙ sym (length-append words (word ∷ []));
    }

-- a new word is counted from one, where there is room
pub IsTally-new : (words : List (List ℕ)) (word : List ℕ) (entries : List (List ℕ × ℕ)) (total : ℕ) → IsTally words entries total
    → stands word (keys_of entries) ≡ false → length entries < 64 → IsTally (words ++ word ∷ []) (entries ++ (word, 1) ∷ []) (total + 1)
IsTally-new words word entries total is none room =
    let ds = distinct words in
    let keys : keys_of entries ≡ take 64 ds = ap keys_of is.counts ∙ keys_of-rows words (take 64 ds) in
    let kept : length (take 64 ds) ≡ length entries = sym (ap length keys) ∙ length-map entries (λ e. e.0) in
    let short : length ds ≤ 63 = omega (arith, length-take 64 ds, kept) in
    let all : take 64 ds ≡ ds = take_all 64 ds (omega arith) in
    let absent : stands word ds ≡ false = ap (stands word) (sym (keys ∙ all)) ∙ none in
    let none_there : stands word words ≡ false = sym (stands-distinct word words) ∙ absent in
    let longer : length (ds ++ word ∷ []) ≤ 64 = omega (arith, length-append ds (word ∷ [])) in
    let firsts : first_words (words ++ word ∷ []) ≡ ds ++ word ∷ [] =
    ap (take 64) (distinct-push words word ∙ ap (λ b. cond b ds (ds ++ word ∷ [])) none_there) ∙ take_all 64 (ds ++ word ∷ []) longer in
    let once : term_frequency (words ++ word ∷ []) word ≡ 1 =
    frequency_push words word word true (nat_list_eq_equiv.refl word) ∙ ap (λ m. m + 1) (frequency_none words word none_there) in
    record {
      counts =
          ap (λ es. es ++ (word, 1) ∷ []) (is.counts ∙ ap (rows words) all ∙ sym (rows_stay words word ds absent))
          ∙ ap (λ m. rows (words ++ word ∷ []) ds ++ (word, m) ∷ []) (sym once)
          ∙ sym (map-append (λ w. (w, term_frequency (words ++ word ∷ []) w)) ds (word ∷ []))
          ∙ ap (rows (words ++ word ∷ [])) (sym firsts);
      total = ap (λ m. m + 1) is.total ∙ sym (length-append words (word ∷ []));
    }

-- a word beyond the first 64 counts among all words alone
pub IsTally-beyond : (words : List (List ℕ)) (word : List ℕ) (entries : List (List ℕ × ℕ)) (total : ℕ) → IsTally words entries total
    → stands word (keys_of entries) ≡ false → 64 ≤ length entries → IsTally (words ++ word ∷ []) entries (total + 1)
IsTally-beyond words word entries total is none full =
    let ds = distinct words in
    let keys : keys_of entries ≡ take 64 ds = ap keys_of is.counts ∙ keys_of-rows words (take 64 ds) in
    let kept : length (take 64 ds) ≡ length entries = sym (ap length keys) ∙ length-map entries (λ e. e.0) in
    let long : 64 ≤ length ds = omega (arith, length-take 64 ds, kept) in
    let firsts : first_words (words ++ word ∷ []) ≡ take 64 ds =
    ap (take 64) (distinct-push words word)
    ∙ elim (stands word words) as (λ b. take 64 (cond b ds (ds ++ word ∷ [])) ≡ take 64 ds) [
      | true ↦ refl
      | false ↦ take-append-le 64 ds (word ∷ []) long
    ] in
    record {
      counts =
          is.counts ∙ sym (rows_stay words word (take 64 ds) (ap (stands word) (sym keys) ∙ none))
          ∙ ap (rows (words ++ word ∷ [])) (sym firsts);
      total = ap (λ m. m + 1) is.total ∙ sym (length-append words (word ∷ []));
    }

-- nothing is there where a test says so
pub None-from_is_some : {X : Type 0} (o : Option X) → false ≡ is_some o → o ≡ None
None-from_is_some None e = refl
None-from_is_some (Some x) e = absurd (true≢false (sym e))

-- ---- from counts to impacts

-- a word with its share of the total as an impact
abbrev pub weighed : ℕ → List ℕ × ℕ → List ℕ × ℕ
weighed total entry = (entry.0, 1 + 254 * entry.1 / total)

-- the entries that came are weighed, and the others are left
pub record HasWeighed (entries : List (List ℕ × ℕ)) (total : ℕ) (pairs rest : List (List ℕ × ℕ)) : Type 0 where
  pub done : List (List ℕ × ℕ)
  pub all : entries ≡ done ++ rest
  pub built : pairs ≡ by_word (map (weighed total) done)
  pub few : length pairs ≤ length done

pub HasWeighed-none : (entries : List (List ℕ × ℕ)) (total : ℕ) → HasWeighed entries total [] entries
HasWeighed-none entries total = record { done = []; all = refl; built = refl; few = omega arith }

pub HasWeighed-more : (entries : List (List ℕ × ℕ)) (total : ℕ) (old new : List (List ℕ × ℕ)) (word : List ℕ) (count impact : ℕ) (rest : List (List ℕ × ℕ))
    → HasWeighed entries total old ((word, count) ∷ rest) → impact ≡ 1 + 254 * count / total → new ≡ insert_entry word_cmp old word impact
    → HasWeighed entries total new rest
HasWeighed-more entries total old new word count impact rest w value put = record {
  done = w.done ++ (word, count) ∷ [];
  all = w.all ∙ sym (append_assoc w.done ((word, count) ∷ []) rest);
  built =
      put ∙ ap₂ (λ ps n. insert_entry word_cmp ps word n) w.built value
      ∙ sym (fold-append (λ placed pair. insert_entry word_cmp placed pair.0 pair.1) [] (map (weighed total) w.done) (weighed total (word, count) ∷ []))
      ∙ ap by_word (sym (map-append (weighed total) w.done ((word, count) ∷ [])));
  few =
      omega (arith, ap length put, length-insert_entry old word impact, w.few, length-append w.done ((word, count) ∷ []));
}

count_in : (words ks : List (List ℕ)) (done : List (List ℕ × ℕ)) (word : List ℕ) (count : ℕ) (rest : List (List ℕ × ℕ))
    → rows words ks ≡ done ++ (word, count) ∷ rest → count ≤ length words
count_in words [] [] word count rest e = absurd (cc)
count_in words [] (d ∷ done) word count rest e = absurd (cc)
count_in words (k ∷ ks) [] word count rest e =
    let first : ◌≡◌ {A = List ℕ × ℕ} (k, term_frequency words k) (word, count) = cc in
    let same : term_frequency words k ≡ count = ap (λ e. e.1) first in
    omega (arith, same, count_by-le-length (bytes_eq k) words)
count_in words (k ∷ ks) (d ∷ done) word count rest e =
    let later : rows words ks ≡ done ++ (word, count) ∷ rest = cc in
    count_in words ks done word count rest later

-- a count is at most the total
pub count_le_total : (words : List (List ℕ)) (entries : List (List ℕ × ℕ)) (total : ℕ) (pairs : List (List ℕ × ℕ)) (word : List ℕ) (count : ℕ) (rest : List (List ℕ × ℕ))
    → IsTally words entries total → HasWeighed entries total pairs ((word, count) ∷ rest) → count ≤ total
count_le_total words entries total pairs word count rest is w =
    omega (arith, count_in words (first_words words) w.done word count rest (sym is.counts ∙ w.all), is.total)

-- and where there is a count there is a word
pub some_total : (words : List (List ℕ)) (entries : List (List ℕ × ℕ)) (total : ℕ) (pairs : List (List ℕ × ℕ)) (word : List ℕ) (count : ℕ) (rest : List (List ℕ × ℕ))
    → IsTally words entries total → HasWeighed entries total pairs ((word, count) ∷ rest) → 1 ≤ total
some_total [] entries total pairs word count rest is w =
    absurd (omega (arith, ap length (sym is.counts ∙ w.all), length-append w.done ((word, count) ∷ rest)))
some_total (x ∷ words) entries total pairs word count rest is w = omega (arith, is.total)

-- the map has room for one more pair
pub room_for_more : (words : List (List ℕ)) (entries : List (List ℕ × ℕ)) (total : ℕ) (pairs : List (List ℕ × ℕ)) (entry : List ℕ × ℕ) (rest : List (List ℕ × ℕ))
    → IsTally words entries total → HasWeighed entries total pairs (entry ∷ rest) → length pairs < 64
room_for_more words entries total pairs entry rest is w =
    let size : length entries ≡ length (first_words words) = ap length is.counts ∙ length-map (first_words words) (λ word. (word, term_frequency words word)) in
    omega (arith, size, length-take 64 (distinct words), ap length w.all, length-append w.done (entry ∷ rest), w.few)

weighed_rows : (words ks : List (List ℕ)) (total : ℕ) → total ≡ length words → map (weighed total) (rows words ks) ≡ map (λ word. (word, impact words word)) ks
weighed_rows words [] total same = refl
weighed_rows words (k ∷ ks) total same = ap₂ (λ n l. (k, 1 + 254 * term_frequency words k / n) ∷ l) same (weighed_rows words ks total same)

-- where no entry is left, the map is that of the words
pub HasWeighed-all : (words : List (List ℕ)) (entries : List (List ℕ × ℕ)) (total : ℕ) (pairs rest : List (List ℕ × ℕ))
    → IsTally words entries total → HasWeighed entries total pairs rest → rest ≡ [] → pairs ≡ impacts_of words
HasWeighed-all words entries total pairs rest is w ended =
    let done : w.done ≡ rows words (first_words words) = sym (append-nil w.done) ∙ ap (λ l. w.done ++ l) (sym ended) ∙ sym w.all ∙ is.counts in
    w.built ∙ ap (λ es. by_word (map (weighed total) es)) done ∙ ap by_word (weighed_rows words (first_words words) total is.total)
