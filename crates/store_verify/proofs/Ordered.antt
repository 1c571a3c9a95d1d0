-- Two lists in order are one list, or some element isn't equally often in both.
use Rattle.std.proofs.Common.{◌≡◌, ◌≢◌, ◌⊎◌, ℕ, suc, ◌+◌, ◌<◌, ◌≤◌, List, [], ◌∷◌, get_or, length, Bool, true, false, if◌then◌else◌, arith, refl, sym, ap, ◌∙◌, subst, inl, inr, ⊎_elim}
use Rattle.std.specs.Cmp.{IsTotalOrder}
use Rattle.std.specs.List.{AllByRecursion}
use Rattle.std.specs.List.Sorted.{IsSorted}
use Rattle.std.specs.Ordering.{is_eq, is_lt, ordering_reverse}
use Rattle.std.specs.declared.cmp.Ordering.{Ordering}
use Rattle.std.specs.declared.cmp.Ordering.TheVariants.{Less, Equal, Greater}
use Rattle.std.proofs.lemmas.Bool.{cases_eq, false≢true}
use Rattle.std.proofs.lemmas.List.Sorted.{ranks_by, sorted_far}
use Rattle.std.proofs.lemmas.Map.Lookups.{CmpEqualImpliesEq}
use Rattle.store_verify.proofs.Times.{TellsApart, count, self_tie, tie_of}

-- what holds of each element by its place
all-by : {X : Type 0} (P : X → Type 0) (xs : List X) → ((k : ℕ) (d : X) → k < length xs → P (get_or xs k d)) → AllByRecursion P xs
all-by P [] each = tt
all-by P (x ∷ xs) each = (each 0 x (omega arith), all-by P xs (λ k d inside. each (suc k) d (omega arith)))

not-both : (o : Ordering) → is_lt o ≡ false → is_lt (ordering_reverse o) ≡ false → o ≡ Equal
not-both Less a b = absurd (cc)
not-both Equal a b = refl
not-both Greater a b = absurd (cc)

-- some element of a kind isn't equally often in both lists
pub record AreUneven {X : Type 0} (same : X → X → ℕ) (P : X → Type 0) (xs ys : List X) : Type 0 where
  pub element : X
  pub kind : P element
  pub apart : count same element xs ≢ count same element ys

module _ {X : Type 0} {cmp : X → X → Ordering} (order : IsTotalOrder cmp) (exact : CmpEqualImpliesEq cmp) where
  -- 1 for two that tie, and else 0
  abbrev pub same_by : X → X → ℕ
  same_by a b = if is_eq (cmp a b) then 1 else 0

  pub order-tells : TellsApart same_by
  order-tells a b = by (is_eq (cmp a b)) refl
    where
      by : (t : Bool) → is_eq (cmp a b) ≡ t → ((a ≡ b) × (◌≡◌ {A = ℕ} (if t then 1 else 0) 1)) ⊎ ((a ≡ b → ⊥) × (◌≡◌ {A = ℕ} (if t then 1 else 0) 0))
      by true e = inl (exact a b (tie_of (cmp a b) e), refl)
      by false e = inr ((λ s. false≢true (sym e ∙ ap is_eq (ap (cmp a) (sym s) ∙ self_tie (cmp a a) (order.antisymm a a)))), refl)

  -- no element is below one before it
  abbrev pub IsOrdered : List X → Type 0
  IsOrdered [] = Unit {0}
  IsOrdered (x ∷ xs) = AllByRecursion (λ y. is_lt (cmp y x) ≡ false) xs × IsOrdered xs

  -- an element of a list is as all are
  member : (P : X → Type 0) (p : X) (xs : List X) → AllByRecursion P xs → 1 ≤ count same_by p xs → P p
  member P p [] all some = absurd (omega arith)
  member P p (x ∷ xs) all some = ⊎_elim (λ s. subst P (sym s.0) all.0) (λ o. let none = o.1 in member P p xs all.1 (omega arith)) (order-tells p x)

  itself : (x : X) → same_by x x ≡ 1
  itself x = ⊎_elim (λ s. s.1) (λ o. absurd (o.0 refl)) (order-tells x x)

  -- two lists in order are one, or some element isn't equally often in both: one of the first two that differ
  pub same-or-apart : (P : X → Type 0) (xs ys : List X) → AllByRecursion P xs → AllByRecursion P ys → IsOrdered xs → IsOrdered ys → (xs ≡ ys) ⊎ AreUneven same_by P xs ys
  same-or-apart P [] [] are are' up up' = inl refl
  same-or-apart P [] (y ∷ ys) are are' up up' = let one = itself y in inr record { element = y; kind = are'.0; apart = λ e. absurd (omega arith) }
  same-or-apart P (x ∷ xs) [] are are' up up' = let one = itself x in inr record { element = x; kind = are.0; apart = λ e. absurd (omega arith) }
  same-or-apart P (x ∷ xs) (y ∷ ys) are are' up up' =
      ⊎_elim
      (λ s. let e : x ≡ y = s.0 in
      ⊎_elim
      (λ rest. inl (ap (λ (z : X). z ∷ xs) e ∙ ap (λ (zs : List X). y ∷ zs) rest))
      (λ w. inr record { element = w.element; kind = w.kind; apart = λ counts. let b : same_by w.element x ≡ same_by w.element y = ap (same_by w.element) e in w.apart (omega arith) })
      (same-or-apart P xs ys are.1 are'.1 up.1 up'.1))
      (λ o.
      let none = o.1 in
      let other : same_by y x ≡ 0 = ⊎_elim (λ s. absurd (o.0 (sym s.0))) (λ q. q.1) (order-tells y x) in
      let here = itself x in
      let there = itself y in
      ⊎_elim
      (λ lacks. inr record { element = x; kind = are.0; apart = λ counts. absurd (omega arith) })
      (λ has.
      let not-below = member (λ z. is_lt (cmp z y) ≡ false) x ys up'.0 (omega arith) in
      inr record {
        element = y;
        kind = are'.0;
        apart = λ counts.
            let not-above = member (λ z. is_lt (cmp z x) ≡ false) y xs up.0 (omega arith) in
            o.0 (exact x y (not-both (cmp x y) not-below (ap is_lt (sym (order.antisymm y x)) ∙ not-above)));
      })
      (cases_eq (count same_by x ys) 0))
      (order-tells x y)

  -- a sorted list is in order
  pub ordered-sorted : (xs : List X) → IsSorted cmp xs → IsOrdered xs
  ordered-sorted [] sorted = tt
  ordered-sorted (x ∷ xs) sorted = (
    all-by (λ y. is_lt (cmp y x) ≡ false) xs (λ k d inside. sorted_far (λ a b. is_lt (cmp a b)) (ranks_by order (λ (a : X). a)) (x ∷ xs) sorted 0 (suc k) d (omega arith) (omega arith)),
    ordered-sorted xs (λ k d low high. by-suc k d (sorted (suc k) d (omega arith) (omega arith))),
  )
    where
      by-suc : (k : ℕ) (d : X) → is_lt (cmp (get_or (x ∷ xs) (suc k + 1) d) (get_or (x ∷ xs) (suc k) d)) ≡ false → is_lt (cmp (get_or xs (k + 1) d) (get_or xs k d)) ≡ false
      by-suc k d h = subst (λ (i : ℕ). is_lt (cmp (get_or (x ∷ xs) i d) (get_or xs k d)) ≡ false) (let e : suc k + 1 ≡ suc (k + 1) = omega arith in e) h
