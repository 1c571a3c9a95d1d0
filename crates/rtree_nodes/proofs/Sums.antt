-- Sums and tops over slots.
use Rattle.std.proofs.Common.{◌≡◌, ℕ, zero, suc, ◌+◌, ◌<◌, ◌≤◌, max, arith, refl, sym, ap, ◌∙◌, ◌⊎◌, inl, inr}
use Rattle.rtree_nodes.specs.Slots.{sum_to, top_to}

pub sum-match : (n : ℕ) (f g h k : ℕ → ℕ) → ((i : ℕ) → i < n → f i + g i ≡ h i + k i) → sum_to n f + sum_to n g ≡ sum_to n h + sum_to n k
unfolding sum_to
sum-match zero f g h k e = refl
sum-match (suc n) f g h k e = let a = e n (omega arith) in let b = sum-match n f g h k (λ i l. e i (omega arith)) in omega arith

pub sum-zero : (n : ℕ) → sum_to n (λ i. 0) ≡ 0
unfolding sum_to
sum-zero zero = refl
sum-zero (suc n) = let k = sum-zero n in omega arith

pub sum-same : (n : ℕ) (f g : ℕ → ℕ) → ((i : ℕ) → i < n → f i ≡ g i) → sum_to n f ≡ sum_to n g
unfolding sum_to
sum-same zero f g e = refl
sum-same (suc n) f g e = let a = e n (omega arith) in let b = sum-same n f g (λ i l. e i (omega arith)) in omega arith

pub at_end : (n at : ℕ) → at < suc n → (at ≡ n) ⊎ (at < n)
at_end n at l = grind arith

pub sum-at : (n : ℕ) (f : ℕ → ℕ) (at : ℕ) → at < n → f at ≤ sum_to n f
unfolding sum_to
sum-at zero f at l = absurd (omega arith)
sum-at (suc n) f at l = elim (at_end n at l) [ inl e ↦ let b = ap f e in omega arith | inr k ↦ let b = sum-at n f at k in omega arith ]

pub record Apart (n : ℕ) (sum : ℕ → (ℕ → ℕ) → ℕ) (join : ℕ → ℕ → ℕ) (f g : ℕ → ℕ) (at : ℕ) : Type 0 where
  pub others : ℕ
  pub was : sum n f ≡ join others (f at)
  pub is : sum n g ≡ join others (g at)

abbrev pub plus : ℕ → ℕ → ℕ
plus a b = a + b

pub sum-apart : (n : ℕ) (f g : ℕ → ℕ) (at : ℕ) → at < n → ((i : ℕ) → (i ≡ at → ⊥) → f i ≡ g i) → Apart n sum_to plus f g at
unfolding sum_to
sum-apart zero f g at l e = absurd (omega arith)
sum-apart (suc n) f g at l e = elim (at_end n at l) [
  | inl k ↦ record {
    others = sum_to n f;
    was = let a = ap f k in omega arith;
    is = let a = ap g k in let b = sum-same n f g (λ i m. e i (omega arith)) in omega arith;
  }
  | inr k ↦ let r = sum-apart n f g at k e in let a = e n (omega arith) in record {
    others = f n + r.others;
    was = let b = r.was in omega arith;
    is = let b = r.is in omega arith;
  }
]

max_swap : (a b c : ℕ) → max a (max b c) ≡ max b (max a c)
max_swap a b c = omega arith

pub max_assoc : (a b c : ℕ) → max (max a b) c ≡ max a (max b c)
max_assoc a b c = omega arith

pub max_across : (a b c d : ℕ) → max (max a b) (max c d) ≡ max (max a c) (max b d)
max_across a b c d = max_assoc a b (max c d) ∙ ap (max a) (max_swap b c d) ∙ sym (max_assoc a c (max b d))

pub top-match : (n : ℕ) (f g h k : ℕ → ℕ) → ((i : ℕ) → i < n → max (f i) (g i) ≡ max (h i) (k i)) → max (top_to n f) (top_to n g) ≡ max (top_to n h) (top_to n k)
unfolding top_to
top-match zero f g h k e = refl
top-match (suc n) f g h k e = let a = e n (omega arith) in let b = top-match n f g h k (λ i l. e i (omega arith)) in
    max_across (f n) (top_to n f) (g n) (top_to n g) ∙ ap (λ (m : ℕ). max m (max (top_to n f) (top_to n g))) a ∙ ap (max (max (h n) (k n))) b
    ∙ max_across (h n) (k n) (top_to n h) (top_to n k)

pub top-zero : (n : ℕ) → top_to n (λ i. 0) ≡ 0
unfolding top_to
top-zero zero = refl
top-zero (suc n) = let k = top-zero n in omega arith

pub top-same : (n : ℕ) (f g : ℕ → ℕ) → ((i : ℕ) → i < n → f i ≡ g i) → top_to n f ≡ top_to n g
unfolding top_to
top-same zero f g e = refl
top-same (suc n) f g e = let a = e n (omega arith) in let b = top-same n f g (λ i l. e i (omega arith)) in omega arith

pub top-apart : (n : ℕ) (f g : ℕ → ℕ) (at : ℕ) → at < n → ((i : ℕ) → (i ≡ at → ⊥) → f i ≡ g i) → Apart n top_to max f g at
unfolding top_to
top-apart zero f g at l e = absurd (omega arith)
top-apart (suc n) f g at l e = elim (at_end n at l) [
  | inl k ↦ record {
    others = top_to n f;
    was = let a = ap f k in omega arith;
    is = let a = ap g k in let b = top-same n f g (λ i m. e i (omega arith)) in omega arith;
  }
  | inr k ↦ let r = top-apart n f g at k e in let a = e n (omega arith) in record {
    others = max (f n) r.others;
    was = let b = r.was in omega arith;
    is = let b = r.is in omega arith;
  }
]
