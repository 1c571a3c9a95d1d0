-- Maps from words to impacts: what a search finds, and what an insertion leaves.
use Rattle.std.proofs.Common.{◌≡◌, ℕ, zero, suc, set, ◌+◌, ◌<◌, ◌≤◌, ◌↔◌, Bool, true, false, IsTrue, List, [], ◌∷◌, length, get_or, All, refl, sym, ap, subst, ◌∙◌, true≢false, arith, suc-le-suc, zero-le}
use Rattle.std.proofs.lemmas.Cmp.{nat_list_cmp_total}
use Rattle.std.proofs.lemmas.List.{get_or-map, length-map}
use Rattle.std.proofs.lemmas.List.Elements.{All-cons, All-nil, All-head, All-tail}
use Rattle.std.proofs.lemmas.List.Sorted.{searchable_from_sorted}
use Rattle.std.proofs.lemmas.Map.Keys.{sorted_from_all_adjacent, sorted_tail, Less-from_sorted}
use Rattle.std.specs.BTreeMap.{insert_entry}
use Rattle.std.specs.Cmp.Lexicographic.{slice_cmp}
use Rattle.std.specs.FinMap.{nat_cmp-IsAntisymmetric, slice_cmp-IsAntisymmetric}
use Rattle.std.specs.List.{IsAllAdjacentAnswer, AllAdjacentBelow, AllWithin, AllByRecursion, insert}
use Rattle.std.specs.List.Sorted.{IsStrictlySortedBy, IsNonDecreasingBy}
use Rattle.std.specs.Map.{keys_of}
use Rattle.std.specs.Ordering.{nat_cmp, is_lt, match_ordering, ordering_reverse, ordering_index}
use Rattle.std.specs.declared.cmp.Ordering.{Ordering}
use Rattle.std.specs.declared.cmp.Ordering.TheVariants.{Less, Equal, Greater}
use Rattle.term_impacts.specs.Pairs.{IsWordMap}

-- the order of words
abbrev pub word_cmp : List ℕ → List ℕ → Ordering
word_cmp = slice_cmp nat_cmp

Less-from_is_lt : (r : Ordering) → true ≡ is_lt r → r ≡ Less
Less-from_is_lt Less e = refl
Less-from_is_lt Equal e = absurd (true≢false e)
Less-from_is_lt Greater e = absurd (true≢false e)

key_at : (pairs : List (List ℕ × ℕ)) (k : ℕ) (d : List ℕ × ℕ) → k < length pairs → get_or (keys_of pairs) k [] ≡ (get_or pairs k d).0
key_at pairs k d lt = get_or-map (λ p. p.0) pairs k d [] lt

-- words of which each is before the next ascend
pub ascending_from_adjacent : (pairs : List (List ℕ × ℕ)) → AllAdjacentBelow (λ p q. true ≡ is_lt (word_cmp p.0 q.0)) pairs (length pairs)
    → IsStrictlySortedBy word_cmp (keys_of pairs)
ascending_from_adjacent pairs adjacent =
    sorted_from_all_adjacent nat_list_cmp_total (keys_of pairs) [] (λ k lt.
    let d : List ℕ × ℕ = ([], 0) in
    let inside : k + 1 < length pairs = subst (λ n. k + 1 < n) (length-map pairs (λ p. p.0)) lt in
    (λ i. word_cmp (key_at pairs k d (omega arith) i) (key_at pairs (k + 1) d inside i)) ∙ Less-from_is_lt _ (adjacent k d inside))

-- and where one is not before the next they don't
pub not_ascending : (pairs : List (List ℕ × ℕ)) (k : ℕ) → k + 1 < length pairs → ((d : List ℕ × ℕ) → false ≡ is_lt (word_cmp (get_or pairs k d).0 (get_or pairs (k + 1) d).0))
    → IsStrictlySortedBy word_cmp (keys_of pairs) → ⊥
not_ascending pairs k lt fails sorted =
    let d : List ℕ × ℕ = ([], 0) in
    let inside : k + 1 < length (keys_of pairs) = subst (λ n. k + 1 < n) (sym (length-map pairs (λ p. p.0))) lt in
    let less = Less-from_sorted word_cmp (keys_of pairs) k (k + 1) [] sorted (omega arith) inside in
    let same : word_cmp (get_or (keys_of pairs) k []) (get_or (keys_of pairs) (k + 1) []) ≡ word_cmp (get_or pairs k d).0 (get_or pairs (k + 1) d).0 =
    λ i. word_cmp (key_at pairs k d (omega arith) i) (key_at pairs (k + 1) d lt i) in
    true≢false (sym (fails d ∙ ap is_lt (sym same ∙ less)))

-- ---- what a binary search tells

same_word : (word other : List ℕ) → word_cmp other word ≡ Equal → other ≡ word
same_word word other e = slice_cmp-IsAntisymmetric nat_cmp-IsAntisymmetric other word e

-- a search may be made in ascending words
pub searchable : (pairs : List (List ℕ × ℕ)) (word : List ℕ) → IsStrictlySortedBy word_cmp (keys_of pairs)
    → IsNonDecreasingBy (λ p. ordering_index (word_cmp p.0 word)) pairs
searchable pairs word sorted = searchable_from_sorted nat_list_cmp_total (λ p. p.0) pairs word (λ k d low lt.
    let less = Less-from_sorted word_cmp (keys_of pairs) k (k + 1) [] sorted (omega arith) (subst (λ n. k + 1 < n) (sym (length-map pairs (λ p. p.0))) lt) in
    let same : word_cmp (get_or pairs k d).0 (get_or pairs (k + 1) d).0 ≡ Less =
    (λ i. word_cmp (sym (key_at pairs k d (omega arith)) i) (sym (key_at pairs (k + 1) d lt) i)) ∙ less in
    ap is_lt (nat_list_cmp_total.antisymm (get_or pairs (k + 1) d).0 (get_or pairs k d).0 ∙ ap ordering_reverse same))

-- the answer of a test of each word and the next
pub ascending_answer : (pairs : List (List ℕ × ℕ)) (r : Bool) → IsAllAdjacentAnswer (λ p q b. b ≡ is_lt (word_cmp p.0 q.0)) pairs r
    → IsTrue r ↔ IsStrictlySortedBy word_cmp (keys_of pairs)
ascending_answer pairs true adjacent = (λ _. ascending_from_adjacent pairs adjacent, λ _. refl)
ascending_answer pairs false fails = (λ h. absurd (true≢false (sym h)), λ sorted. absurd (not_ascending pairs fails.0 fails.1 fails.2 sorted))

-- ---- what an insertion leaves

-- the answer of one comparison leads to the entries after an insertion
abbrev inserted : Ordering → List ℕ × ℕ → List (List ℕ × ℕ) → List ℕ → ℕ → List (List ℕ × ℕ)
inserted r e es word impact = match_ordering r ((word, impact) ∷ (e ∷ es)) ((e.0, impact) ∷ es) (e ∷ insert_entry word_cmp es word impact)

-- at most one pair is new
pub length-insert_entry : (pairs : List (List ℕ × ℕ)) (word : List ℕ) (impact : ℕ) → length (insert_entry word_cmp pairs word impact) ≤ length pairs + 1
length-insert_entry [] word impact = omega arith
length-insert_entry (e ∷ es) word impact =
    let rest = length-insert_entry es word impact in
    elim (word_cmp word e.0) as (λ r. length (inserted r e es word impact) ≤ length (e ∷ es) + 1) [
      | Less ↦ omega arith
      | Equal ↦ omega arith
      | Greater ↦ omega arith
    ]

-- what holds of the word and of the words that were there holds of all
all_inserted : (P : List ℕ → Type 0) (pairs : List (List ℕ × ℕ)) (word : List ℕ) (impact : ℕ) → P word → AllByRecursion P (keys_of pairs)
    → AllByRecursion P (keys_of (insert_entry word_cmp pairs word impact))
all_inserted P [] word impact here all = (here, tt)
all_inserted P (e ∷ es) word impact here all =
    elim (word_cmp word e.0) as (λ r. AllByRecursion P (keys_of (inserted r e es word impact))) [
      | Less ↦ (here, all)
      | Equal ↦ all
      | Greater ↦ (all.0, all_inserted P es word impact here all.1)
    ]

-- a word that is less than one is less than those after it
less_than_all : (word other : List ℕ) (ks : List (List ℕ)) → word_cmp word other ≡ Less → AllByRecursion (λ k. word_cmp other k ≡ Less) ks
    → AllByRecursion (λ k. word_cmp word k ≡ Less) ks
less_than_all word other [] less all = tt
less_than_all word other (k ∷ ks) less all =
    (nat_list_cmp_total.trans word other k less all.0, less_than_all word other ks less all.1)

-- the words still ascend
ascending-insert_entry : (pairs : List (List ℕ × ℕ)) (word : List ℕ) (impact : ℕ) → IsStrictlySortedBy word_cmp (keys_of pairs)
    → IsStrictlySortedBy word_cmp (keys_of (insert_entry word_cmp pairs word impact))
unfolding IsStrictlySortedBy
ascending-insert_entry [] word impact sorted = (tt, tt)
ascending-insert_entry (e ∷ es) word impact sorted =
    elim (word_cmp word e.0) as (λ r. word_cmp word e.0 ≡ r → IsStrictlySortedBy word_cmp (keys_of (inserted r e es word impact))) [
      | Less ↦ λ less. ((less, less_than_all word e.0 (keys_of es) less sorted.0), sorted)
      | Equal ↦ λ equal. sorted
      | Greater ↦ λ greater. (
        all_inserted (λ k. word_cmp e.0 k ≡ Less) es word impact (nat_list_cmp_total.antisymm e.0 word ∙ ap ordering_reverse greater) sorted.0,
        ascending-insert_entry es word impact sorted.1,
      )
    ] refl

abbrev IsImpact : List ℕ × ℕ → Type 0
IsImpact pair = (1 ≤ pair.1) × (pair.1 ≤ 255)

impacts-insert_entry : (pairs : List (List ℕ × ℕ)) (word : List ℕ) (impact : ℕ) → 1 ≤ impact → impact ≤ 255 → All IsImpact pairs
    → All IsImpact (insert_entry word_cmp pairs word impact)
impacts-insert_entry [] word impact some small all = All-cons IsImpact (word, impact) [] (some, small) (All-nil IsImpact)
impacts-insert_entry (e ∷ es) word impact some small all =
    let rest = All-tail IsImpact e es all in
    elim (word_cmp word e.0) as (λ r. All IsImpact (inserted r e es word impact)) [
      | Less ↦ All-cons IsImpact (word, impact) (e ∷ es) (some, small) all
      | Equal ↦ All-cons IsImpact (e.0, impact) es (some, small) rest
      | Greater ↦ All-cons IsImpact e _ (All-head IsImpact e es all) (impacts-insert_entry es word impact some small rest)
    ]

-- a map with room stays a map
pub IsWordMap-insert_entry : (pairs : List (List ℕ × ℕ)) (word : List ℕ) (impact : ℕ) → IsWordMap pairs → length pairs < 64 → 1 ≤ impact → impact ≤ 255
    → IsWordMap (insert_entry word_cmp pairs word impact)
IsWordMap-insert_entry pairs word impact is room some small = record {
  few = omega (arith, length-insert_entry pairs word impact);
  ascending = ascending-insert_entry pairs word impact is.ascending;
  impacts = impacts-insert_entry pairs word impact some small is.impacts;
}

pub IsWordMap-nil : IsWordMap []
unfolding IsStrictlySortedBy
IsWordMap-nil = record { few = omega arith; ascending = tt; impacts = All-nil IsImpact }

greater_from_less : (word other : List ℕ) → word_cmp other word ≡ Less → word_cmp word other ≡ Greater
greater_from_less word other less = nat_list_cmp_total.antisymm word other ∙ ap ordering_reverse less

-- a pair that is put between the lesser and the greater words is at its place
pub insert_at_place : (pairs : List (List ℕ × ℕ)) (at : ℕ) (word : List ℕ) (impact : ℕ) → at ≤ length pairs → AllWithin (λ p. word_cmp p.0 word ≡ Less) pairs 0 at
    → AllWithin (λ p. word_cmp p.0 word ≡ Greater) pairs at (length pairs) → insert pairs at (word, impact) ≡ insert_entry word_cmp pairs word impact
insert_at_place [] zero word impact le less greater = refl
insert_at_place [] (suc at) word impact le less greater = absurd (omega arith)
insert_at_place (e ∷ es) zero word impact le less greater =
    let over : word_cmp e.0 word ≡ Greater = greater 0 e (omega arith) (omega arith) in
    sym (ap (λ r. inserted r e es word impact) (nat_list_cmp_total.antisymm word e.0 ∙ ap ordering_reverse over))
insert_at_place (e ∷ es) (suc at) word impact le less greater =
    let under : word_cmp e.0 word ≡ Less = less 0 e (omega arith) (omega arith) in
    let rest = insert_at_place es at word impact (omega arith) (λ k d low high. less (suc k) d zero-le (suc-le-suc high))
    (λ k d low high. greater (suc k) d (suc-le-suc low) (suc-le-suc high)) in
    ap (λ l. e ∷ l) rest ∙ sym (ap (λ r. inserted r e es word impact) (greater_from_less word e.0 under))

-- a pair whose word is there takes the impact
pub set_at_place : (pairs : List (List ℕ × ℕ)) (at : ℕ) (word : List ℕ) (impact : ℕ) (d : List ℕ × ℕ) → at < length pairs → IsStrictlySortedBy word_cmp (keys_of pairs)
    → word_cmp (get_or pairs at d).0 word ≡ Equal → set pairs at ((get_or pairs at d).0, impact) ≡ insert_entry word_cmp pairs word impact
set_at_place [] at word impact d lt sorted equal = absurd (omega arith)
set_at_place (e ∷ es) zero word impact d lt sorted equal =
    sym (ap (λ r. inserted r e es word impact) (nat_list_cmp_total.antisymm word e.0 ∙ ap ordering_reverse equal))
set_at_place (e ∷ es) (suc at) word impact d lt sorted equal =
    let inside : at < length es = omega arith in
    let less = Less-from_sorted word_cmp (keys_of (e ∷ es)) 0 (suc at) [] sorted (omega arith)
    (subst (λ n. suc at < n) (sym (length-map (e ∷ es) (λ q. q.0))) lt) in
    let here : word_cmp e.0 word ≡ Less =
    ap (word_cmp e.0) (sym (same_word word (get_or es at d).0 equal)) ∙ ap (word_cmp e.0) (sym (key_at es at d inside)) ∙ less in
    ap (λ l. e ∷ l) (set_at_place es at word impact d inside (sorted_tail word_cmp e.0 (keys_of es) sorted) equal)
    ∙ sym (ap (λ r. inserted r e es word impact) (greater_from_less word e.0 here))

-- the pair that a search found takes the impact, where `shown` is what the search saw
pub put_found : (shown pairs : List (List ℕ × ℕ)) (at : ℕ) (word : List ℕ) (impact : ℕ) (entry : List ℕ × ℕ) → shown ≡ pairs → at < length shown
    → IsStrictlySortedBy word_cmp (keys_of pairs) → ((d : List ℕ × ℕ) → word_cmp (get_or shown at d).0 word ≡ Equal) → entry ≡ get_or pairs at entry
    → set pairs at (entry.0, impact) ≡ insert_entry word_cmp pairs word impact
put_found shown pairs at word impact entry same lt sorted found is =
    ap (λ e. set pairs at (e.0, impact)) is
    ∙ set_at_place pairs at word impact entry (subst (λ ps. at < length ps) same lt) sorted (subst (λ ps. word_cmp (get_or ps at entry).0 word ≡ Equal) same (found entry))

-- a pair goes to the place that a search found for it
pub put_missed : (shown pairs : List (List ℕ × ℕ)) (at : ℕ) (word : List ℕ) (impact : ℕ) → shown ≡ pairs → at ≤ length shown
    → IsStrictlySortedBy word_cmp (keys_of pairs) → (IsNonDecreasingBy (λ p. ordering_index (word_cmp p.0 word)) shown
    → AllWithin (λ p. word_cmp p.0 word ≡ Less) shown 0 at × AllWithin (λ p. word_cmp p.0 word ≡ Greater) shown at (length shown))
    → insert pairs at (word, impact) ≡ insert_entry word_cmp pairs word impact
put_missed shown pairs at word impact same le sorted missed =
    let parted = missed (searchable shown word (subst (λ ps. IsStrictlySortedBy word_cmp (keys_of ps)) (sym same) sorted)) in
    subst (λ ps. insert ps at (word, impact) ≡ insert_entry word_cmp ps word impact) same (insert_at_place shown at word impact le parted.0 parted.1)
