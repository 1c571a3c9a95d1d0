-- A ranking and the members of what is ranked: only they decide it, and a list in order is its own.
use Rattle.std.proofs.Common.{◌≡◌, ℕ, suc, ◌+◌, ◌<◌, ◌≤◌, Bool, true, false, cond, List, [], ◌∷◌, ◌++◌, length, sum_by, refl, sym, ap, ◌∙◌, arith, ◌⊎◌, inl, inr, ⊎_elim, IsPermutation, get_or}
use Rattle.std.specs.List.{AllByRecursion}
use Rattle.std.specs.Cmp.{IsStrictWeakOrder}
use Rattle.std.specs.List.Sorted.{IsSortedBy}
use Rattle.std.proofs.lemmas.Bool.{cases_Bool}
use Rattle.std.proofs.lemmas.List.Sums.{sum_by-cons, sum_by-append}
use Rattle.std.proofs.lemmas.List.Sorted.{sum_by-IsPermutation, sorted_far}
use Rattle.std.proofs.lemmas.List.Elements.{recursion_from_All}
use Rattle.place_values.specs.First.{IsLinear, placed, ranked, IsRanked}
use Rattle.place_values.specs.Laws.{ranked_middle, all_placed}

-- whatever each member weighs, both lists weigh the same: the one is the other in another order
abbrev pub SameMembers : {X : Type 0} → List X → List X → Type 0
SameMembers {X} xs ys = (weight : X → ℕ) → sum_by weight ys ≡ sum_by weight xs

sum_by-middle : {X : Type 0} (f : X → ℕ) (a : List X) (x : X) (b : List X) → sum_by f (a ++ x ∷ b) ≡ f x + sum_by f (a ++ b)
sum_by-middle f a x b = omega (arith, sum_by-append f a (x ∷ b), sum_by-append f a b, sum_by-cons f x b)

module _ {X : Type 0} {before : X → X → Bool} (o : IsLinear before) where
  itself : (x : X) → before x x ≡ false
  itself x = ⊎_elim (λ t. o.one_way x x t) (λ f. f) (cases_Bool (before x x))

  -- 1 at x, and 0 at all others
  unfoldable at : X → X → ℕ
  at x y = cond (before x y) 0 (cond (before y x) 0 1)

  at_itself : (x : X) → at x x ≡ 1
  unfolding at
  at_itself x = rw (itself x) refl

  at_go : (x y : X) (a b : Bool) → before x y ≡ a → before y x ≡ b → (x ≡ y) ⊎ (at x y ≡ 0)
  unfolding at
  at_go x y true b p q = inr (rw p refl)
  at_go x y false true p q = inr (rw (p, q) refl)
  at_go x y false false p q = inl (o.same x y p q)

  found_go : (x y : X) (ys : List X) → 0 < sum_by (at x) (y ∷ ys) → (x ≡ y) ⊎ (at x y ≡ 0) → (0 < sum_by (at x) ys → (a : List X) × (b : List X) × (ys ≡ a ++ x ∷ b)) → (a : List X) × (b : List X) × (y ∷ ys ≡ a ++ x ∷ b)
  found_go x y ys h (inl e) ih = ([], ys, cc)
  found_go x y ys h (inr e) ih = let r = ih (omega (arith, sum_by-cons (at x) y ys)) in (y ∷ r.0, r.1, ap (λ l. y ∷ l) r.2)

  found : (x : X) (ys : List X) → 0 < sum_by (at x) ys → (a : List X) × (b : List X) × (ys ≡ a ++ x ∷ b)
  found x [] h = absurd (omega arith)
  found x (y ∷ ys) h = found_go x y ys h (at_go x y _ _ refl refl) (found x ys)

  -- the same members have one ranking
  pub ranked_same : (xs ys : List X) → SameMembers xs ys → ranked before ys ≡ ranked before xs
  ranked_same [] [] h = refl
  ranked_same [] (y ∷ ys) h = absurd (let e = h (λ _. 1) in omega (arith, sum_by-cons (λ (x : X). 1) y ys))
  ranked_same (x ∷ xs) ys h =
      let one = h (at x) in
      let r = found x ys (omega (arith, sum_by-cons (at x) x xs, at_itself x)) in
      let ih = ranked_same xs (r.0 ++ r.1) (λ f. omega (arith, h f, ap (sum_by f) r.2, sum_by-middle f r.0 x r.1, sum_by-cons f x xs)) in
      ap (ranked before) r.2 ∙ ranked_middle o r.0 x r.1 ∙ ap (placed before x) ih

  all_ranked : (P : X → Type 0) (xs : List X) → AllByRecursion P xs → AllByRecursion P (ranked before xs)
  all_ranked P [] h = h
  all_ranked P (x ∷ xs) h = all_placed o P x (ranked before xs) h.0 (all_ranked P xs h.1)

  placed_least : (x : X) (ys : List X) → AllByRecursion (λ y. before y x ≡ false) ys → placed before x ys ≡ x ∷ ys
  placed_least x [] h = refl
  placed_least x (y ∷ ys) h = rw h.0 refl

  -- one that none is before comes first
  pub ranked_least : (x : X) (xs : List X) → AllByRecursion (λ y. before y x ≡ false) xs → ranked before (x ∷ xs) ≡ x ∷ ranked before xs
  ranked_least x xs h = placed_least x (ranked before xs) (all_ranked (λ y. before y x ≡ false) xs h)

  -- a list in order is its own ranking
  pub ranked_own : (xs : List X) → IsRanked before xs → ranked before xs ≡ xs
  ranked_own [] h = refl
  ranked_own (x ∷ xs) h = ranked_least x xs h.0 ∙ ap (λ l. x ∷ l) (ranked_own xs h.1)

  -- a list in order with these members is their ranking
  pub ranked_one : (xs ys : List X) → SameMembers xs ys → IsRanked before ys → ys ≡ ranked before xs
  ranked_one xs ys m r = sym (ranked_own ys r) ∙ ranked_same xs ys m

  weak_order : IsStrictWeakOrder before
  weak_order = record { one_way = o.one_way; chain = λ x y z p q. o.chain z y x q p }

  rising : (xs : List X) → ((i j : ℕ) (d : X) → i ≤ j → j < length xs → before (get_or xs j d) (get_or xs i d) ≡ false) → IsRanked before xs
  rising [] h = tt
  rising (x ∷ xs) h = (recursion_from_All (λ y. before y x ≡ false) xs (λ k d l. h 0 (suc k) d (omega arith) (omega arith)), rising xs (λ i j d p q. h (suc i) (suc j) d (omega arith) (omega arith)))

  -- what a sort leaves is the ranking
  pub ranked_from_sorted : (xs ys : List X) → IsSortedBy before ys → IsPermutation xs ys → ys ≡ ranked before xs
  ranked_from_sorted xs ys s p = ranked_one xs ys (λ f. sum_by-IsPermutation f xs ys p) (rising ys (sorted_far before weak_order ys s))
