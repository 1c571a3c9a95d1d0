-- Sums of the first values of a function.
use Rattle.std.proofs.Common.{◌≡◌, ◌≢◌, ℕ, zero, suc, ◌+◌, ◌<◌, ◌≤◌, arith, refl, ap, ◌⊎◌, inl, inr}
use Rattle.split_policy.specs.Masks.{sum_to}

-- the last of a range, or one before it
pub at_end : (n at : ℕ) → at < n + 1 → (at ≡ n) ⊎ (at < n)
at_end n at l = grind arith

-- two numbers are the same or not
pub same_or_not : (i j : ℕ) → (i ≡ j) ⊎ (i ≢ j)
same_or_not i j = grind arith

-- equal values, equal sums
pub sum-same : (n : ℕ) (f g : ℕ → ℕ) → ((i : ℕ) → i < n → f i ≡ g i) → sum_to n f ≡ sum_to n g
unfolding sum_to
sum-same zero f g e = refl
sum-same (suc n) f g e = let a = e n (omega arith) in let b = sum-same n f g (λ i l. e i (omega arith)) in omega arith

-- values that are sums of two
pub sum-plus : (n : ℕ) (f g h : ℕ → ℕ) → ((i : ℕ) → i < n → h i ≡ f i + g i) → sum_to n h ≡ sum_to n f + sum_to n g
unfolding sum_to
sum-plus zero f g h e = refl
sum-plus (suc n) f g h e = let a = e n (omega arith) in let b = sum-plus n f g h (λ i l. e i (omega arith)) in omega arith

-- n ones
pub sum-ones : (n : ℕ) (f : ℕ → ℕ) → ((i : ℕ) → i < n → f i ≡ 1) → sum_to n f ≡ n
unfolding sum_to
sum-ones zero f e = refl
sum-ones (suc n) f e = let a = e n (omega arith) in let b = sum-ones n f (λ i l. e i (omega arith)) in omega arith

-- nothing but zeros
pub sum-zeros : (n : ℕ) (f : ℕ → ℕ) → ((i : ℕ) → i < n → f i ≡ 0) → sum_to n f ≡ 0
unfolding sum_to
sum-zeros zero f e = refl
sum-zeros (suc n) f e = let a = e n (omega arith) in let b = sum-zeros n f (λ i l. e i (omega arith)) in omega arith

-- no lesser values, no lesser sum
pub sum-le : (n : ℕ) (f g : ℕ → ℕ) → ((i : ℕ) → i < n → f i ≤ g i) → sum_to n f ≤ sum_to n g
unfolding sum_to
sum-le zero f g e = omega arith
sum-le (suc n) f g e = let a = e n (omega arith) in let b = sum-le n f g (λ i l. e i (omega arith)) in omega arith

-- one value is greater by one, and the others are equal
pub sum-more : (n at : ℕ) (f g : ℕ → ℕ) → at < n → g at ≡ f at + 1 → ((i : ℕ) → (i ≡ at → ⊥) → g i ≡ f i) → sum_to n g ≡ sum_to n f + 1
unfolding sum_to
sum-more zero at f g l one others = absurd (omega arith)
sum-more (suc n) at f g l one others = elim (at_end n at (omega arith)) [
  | inl e ↦
      let a = ap f e in
      let b = ap g e in
      let c = sum-same n g f (λ i m. others i (λ k. omega arith)) in
      omega arith
  | inr k ↦
      let a = others n (λ m. omega arith) in
      let b = sum-more n at f g k one others in
      omega arith
]

-- one value is greater, and no other is less
pub sum-lt : (n at : ℕ) (f g : ℕ → ℕ) → at < n → f at < g at → ((i : ℕ) → i < n → f i ≤ g i) → sum_to n f < sum_to n g
unfolding sum_to
sum-lt zero at f g l less others = absurd (omega arith)
sum-lt (suc n) at f g l less others = elim (at_end n at (omega arith)) [
  | inl e ↦
      let a = ap f e in
      let b = ap g e in
      let c = sum-le n f g (λ i m. others i (omega arith)) in
      omega arith
  | inr k ↦
      let a = others n (omega arith) in
      let b = sum-lt n at f g k less (λ i m. others i (omega arith)) in
      omega arith
]
