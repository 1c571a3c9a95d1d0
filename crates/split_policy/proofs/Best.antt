-- The best of the numbers up to n of which P holds.
use Rattle.std.proofs.Common.{◌≡◌, ℕ, ◌+◌, ◌<◌, ◌≤◌, arith, ap, ◌⊎◌, inl, inr}
use Rattle.split_policy.proofs.Sums.{at_end}

-- the number at which f is least, of equals g, of equals again the number itself
pub record LeastBelow (n : ℕ) (P : ℕ → Type 0) (f g : ℕ → ℕ) (at : ℕ) : Type 0 where
  pub here : P at
  pub before : at < n
  pub first : (i : ℕ) → i < n → P i → f at ≤ f i
  pub second : (i : ℕ) → i < n → P i → f i ≡ f at → g at ≤ g i
  pub number : (i : ℕ) → i < n → P i → f i ≡ f at → g i ≡ g at → at ≤ i

-- the next number is better
pub least-next : (n : ℕ) (P : ℕ → Type 0) (f g : ℕ → ℕ) (at : ℕ) → LeastBelow n P f g at
    → P n → (f n < f at) ⊎ ((f n ≡ f at) × (g n < g at)) → LeastBelow (n + 1) P f g n
least-next n P f g at best here better = record {
  here = here;
  before = omega arith;
  first = λ i l p. elim (at_end n i l) [
    | inl e ↦ let a = ap f e in omega arith
    | inr k ↦ let a = best.first i k p in elim better [ inl b ↦ omega arith | inr b ↦ let c = b.0 in omega arith ]
  ];
  second = λ i l p q. elim (at_end n i l) [
    | inl e ↦ let a = ap g e in omega arith
    | inr k ↦ let a = best.first i k p in elim better [
      | inl b ↦ absurd (omega arith)
      | inr b ↦ let c = b.0 in let d = b.1 in let h = best.second i k p (omega arith) in omega arith
    ]
  ];
  number = λ i l p q r. elim (at_end n i l) [
    | inl e ↦ omega arith
    | inr k ↦ let a = best.first i k p in elim better [
      | inl b ↦ absurd (omega arith)
      | inr b ↦ let c = b.0 in let d = b.1 in let h = best.second i k p (omega arith) in absurd (omega arith)
    ]
  ];
}

-- the number at which f is greatest, of equals the first
pub record GreatestBelow (n : ℕ) (P : ℕ → Type 0) (f : ℕ → ℕ) (at : ℕ) : Type 0 where
  pub here : P at
  pub before : at < n
  pub first : (i : ℕ) → i < n → P i → f i ≤ f at
  pub number : (i : ℕ) → i < n → P i → f i ≡ f at → at ≤ i

-- the next number is better
pub greatest-next : (n : ℕ) (P : ℕ → Type 0) (f : ℕ → ℕ) (at : ℕ) → GreatestBelow n P f at
    → P n → f at < f n → GreatestBelow (n + 1) P f n
greatest-next n P f at best here better = record {
  here = here;
  before = omega arith;
  first = λ i l p. elim (at_end n i l) [
    | inl e ↦ let a = ap f e in omega arith
    | inr k ↦ let a = best.first i k p in omega arith
  ];
  number = λ i l p q. elim (at_end n i l) [
    | inl e ↦ omega arith
    | inr k ↦ let a = best.first i k p in absurd (omega arith)
  ];
}

-- the first number of which P holds
pub least-first : (P : ℕ → Type 0) (f g : ℕ → ℕ) (at : ℕ) → P at → ((i : ℕ) → i < at → P i → ⊥) → LeastBelow (at + 1) P f g at
least-first P f g at here none = record {
  here = here;
  before = omega arith;
  first = λ i l p. elim (at_end at i l) [ inl e ↦ let a = ap f e in omega arith | inr k ↦ absurd (none i k p) ];
  second = λ i l p q. elim (at_end at i l) [ inl e ↦ let a = ap g e in omega arith | inr k ↦ absurd (none i k p) ];
  number = λ i l p q r. elim (at_end at i l) [ inl e ↦ omega arith | inr k ↦ absurd (none i k p) ];
}

-- the same
pub greatest-first : (P : ℕ → Type 0) (f : ℕ → ℕ) (at : ℕ) → P at → ((i : ℕ) → i < at → P i → ⊥) → GreatestBelow (at + 1) P f at
greatest-first P f at here none = record {
  here = here;
  before = omega arith;
  first = λ i l p. elim (at_end at i l) [ inl e ↦ let a = ap f e in omega arith | inr k ↦ absurd (none i k p) ];
  number = λ i l p q. elim (at_end at i l) [ inl e ↦ omega arith | inr k ↦ absurd (none i k p) ];
}
