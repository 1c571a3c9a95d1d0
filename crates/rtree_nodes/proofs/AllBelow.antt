-- A test of each number below another.
use Rattle.std.proofs.Common.{◌≡◌, ℕ, zero, suc, ◌+◌, ◌<◌, Bool, true, false, ◌&&◌, ◌||◌, not, arith, refl, sym, ap, ◌∙◌, ⊎_elim, inl, inr}
use Rattle.std.proofs.lemmas.Bool.{and_parts, and_from, and_left, and_right, false≢true}
use Rattle.rtree_nodes.proofs.Sums.{at_end}
use Rattle.rtree_nodes.specs.Numbers.{all_below}

-- each of them passes
pub all_below-at : (n : ℕ) (test : ℕ → Bool) → all_below n test ≡ true → (i : ℕ) → i < n → test i ≡ true
unfolding all_below
all_below-at zero test all i l = absurd (omega arith)
all_below-at (suc n) test all i l =
    let both = and_parts (test n) (all_below n test) all in
    elim (at_end n i l) [ inl e ↦ ap test e ∙ both.0 | inr k ↦ all_below-at n test both.1 i k ]

-- where each passes, all do
pub all_below-from : (n : ℕ) (test : ℕ → Bool) → ((i : ℕ) → i < n → test i ≡ true) → all_below n test ≡ true
unfolding all_below
all_below-from zero test each = refl
all_below-from (suc n) test each = and_from (test n) (all_below n test) (each n (omega arith)) (all_below-from n test (λ i l. each i (omega arith)))

-- where one fails, they don't all pass
pub all_below-false : (n : ℕ) (test : ℕ → Bool) (i : ℕ) → i < n → test i ≡ false → all_below n test ≡ false
unfolding all_below
all_below-false zero test i l fails = absurd (omega arith)
all_below-false (suc n) test i l fails = elim (at_end n i l) [
  | inl e ↦ and_left (test n) (all_below n test) (ap test (sym e) ∙ fails)
  | inr k ↦ and_right (test n) (all_below n test) (all_below-false n test i k fails)
]

-- none below 0
pub all_below-none : (test : ℕ → Bool) → all_below 0 test ≡ true
unfolding all_below
all_below-none test = refl

-- one more
pub all_below-more : (n : ℕ) (test : ℕ → Bool) → all_below n test ≡ true → test n ≡ true → all_below (n + 1) test ≡ true
all_below-more n test all one = all_below-from (n + 1) test (λ i l. let k : i < suc n = omega arith in ⊎_elim (λ (e : i ≡ n). ap test e ∙ one) (λ (m : i < n). all_below-at n test all i m) (at_end n i k))

-- one more is unused or good
pub used-more : (used good : ℕ → Bool) (i : ℕ) → all_below i (λ k. not (used k) || good k) ≡ true → ((used i && not (good i)) ≡ true → ⊥)
    → all_below (i + 1) (λ k. not (used k) || good k) ≡ true
used-more used good i all ok = all_below-more i (λ k. not (used k) || good k) all (passes (used i) (good i) ok)
  where
    passes : (a b : Bool) → ((a && not b) ≡ true → ⊥) → (not a || b) ≡ true
    passes true true h = refl
    passes true false h = absurd (h refl)
    passes false b h = refl

-- one that is used and not good
pub used-false : (used good : ℕ → Bool) (n i : ℕ) → i < n → (used i && not (good i)) ≡ true → all_below n (λ k. not (used k) || good k) ≡ false
used-false used good n i l h = all_below-false n (λ k. not (used k) || good k) i l (fails (used i) (good i) h)
  where
    fails : (a b : Bool) → (a && not b) ≡ true → (not a || b) ≡ false
    fails true true h = absurd (false≢true h)
    fails true false h = refl
    fails false b h = absurd (false≢true h)
