-- Rows whose keys ascend.
use Rattle.std.proofs.Common.{◌≡◌, ℕ, ◌+◌, ◌<◌, ◌↔◌, Bool, true, false, IsTrue, List, [], ◌∷◌, ◌++◌, length, map, get_or, refl, sym, ap, subst, ◌∙◌, true≢false, arith}
use Rattle.std.proofs.lemmas.List.{get_or-map, length-map}
use Rattle.std.proofs.lemmas.Map.Keys.{sorted_from_all_adjacent, sorted_head, sorted_tail, Less-from_sorted}
use Rattle.std.specs.BTreeMap.{insert_entry}
use Rattle.std.specs.Cmp.{IsTotalOrder}
use Rattle.std.specs.List.{IsAllAdjacentAnswer, AllAdjacentBelow, AllByRecursion}
use Rattle.std.specs.List.Sorted.{IsStrictlySortedBy}
use Rattle.std.specs.Map.{keys_of}
use Rattle.std.specs.Ordering.{is_lt, match_ordering, ordering_reverse}
use Rattle.std.specs.declared.cmp.Ordering.{Ordering}
use Rattle.std.specs.declared.cmp.Ordering.TheVariants.{Less, Equal, Greater}

-- what `is_lt` answers true of
less_from_is_lt : (r : Ordering) → true ≡ is_lt r → r ≡ Less
less_from_is_lt Less e = refl
less_from_is_lt Equal e = absurd (true≢false e)
less_from_is_lt Greater e = absurd (true≢false e)

module _ {K Row : Type 0} {R : K → K → Ordering} (o : IsTotalOrder R) (key : Row → K) where
  -- the key at a place is that of the row there
  key_at : (rows : List Row) (k : ℕ) (d : Row) → k < length rows → get_or (map key rows) k (key d) ≡ key (get_or rows k d)
  key_at rows k d lt = get_or-map key rows k d (key d) lt

  -- keys of which each is before the next ascend
  ascending_from_adjacent : (rows : List Row) → AllAdjacentBelow (λ p q. true ≡ is_lt (R (key p) (key q))) rows (length rows) → IsStrictlySortedBy R (map key rows)
  unfolding IsStrictlySortedBy
  ascending_from_adjacent [] adjacent = tt
  ascending_from_adjacent (row ∷ rows) adjacent =
      sorted_from_all_adjacent o (map key (row ∷ rows)) (key row) (λ k lt.
      let inside : k + 1 < length (row ∷ rows) = subst (λ n. k + 1 < n) (length-map (row ∷ rows) key) lt in
      (λ i. R (key_at (row ∷ rows) k row (omega arith) i) (key_at (row ∷ rows) (k + 1) row inside i)) ∙ less_from_is_lt _ (adjacent k row inside))

  -- and where one is not before the next they don't
  not_ascending : (rows : List Row) (k : ℕ) (d : Row) → k + 1 < length rows → false ≡ is_lt (R (key (get_or rows k d)) (key (get_or rows (k + 1) d)))
      → IsStrictlySortedBy R (map key rows) → ⊥
  not_ascending rows k d lt fails sorted =
      let inside : k + 1 < length (map key rows) = subst (λ n. k + 1 < n) (sym (length-map rows key)) lt in
      let less = Less-from_sorted R (map key rows) k (k + 1) (key d) sorted (omega arith) inside in
      let same : R (get_or (map key rows) k (key d)) (get_or (map key rows) (k + 1) (key d)) ≡ R (key (get_or rows k d)) (key (get_or rows (k + 1) d)) =
      λ i. R (key_at rows k d (omega arith) i) (key_at rows (k + 1) d lt i) in
      true≢false (sym (fails ∙ ap is_lt (sym same ∙ less)))

  -- the answer of a test of each key and the next
  pub ascending_answer : (rows : List Row) (r : Bool) → IsAllAdjacentAnswer (λ p q b. b ≡ is_lt (R (key p) (key q))) rows r → IsTrue r ↔ IsStrictlySortedBy R (map key rows)
  ascending_answer rows true adjacent = (λ _. ascending_from_adjacent rows adjacent, λ _. refl)
  ascending_answer [] false fails = absurd (omega (arith, fails.1))
  ascending_answer (row ∷ rows) false fails =
      (λ h. absurd (true≢false (sym h)), λ sorted. absurd (not_ascending (row ∷ rows) fails.0 row fails.1 (fails.2 row) sorted))

-- what holds of all of a list holds of one of them
holds_inside : {K : Type 0} (P : K → Type 0) (ks : List K) (k : K) (later : List K) → AllByRecursion P (ks ++ k ∷ later) → P k
holds_inside P [] k later all = all.0
holds_inside P (y ∷ ks) k later all = holds_inside P ks k later all.1

-- a key behind all others is put behind them
pub insert_last : {K X : Type 0} {R : K → K → Ordering} → IsTotalOrder R → (es : List (K × X)) (k : K) (v : X) (later : List K) → IsStrictlySortedBy R (keys_of es ++ k ∷ later) → insert_entry R es k v ≡ es ++ (k, v) ∷ []
insert_last o [] k v later sorted = refl
insert_last {R = R} o (e ∷ es) k v later sorted =
    let less = holds_inside (λ y. R e.0 y ≡ Less) (keys_of es) k later (sorted_head R e.0 (keys_of es ++ k ∷ later) sorted) in
    ap (λ r. match_ordering r ((k, v) ∷ e ∷ es) ((e.0, v) ∷ es) (e ∷ insert_entry R es k v)) (o.antisymm k e.0 ∙ ap ordering_reverse less)
    ∙ ap (λ rest. e ∷ rest) (insert_last o es k v later (sorted_tail R e.0 (keys_of es ++ k ∷ later) sorted))
