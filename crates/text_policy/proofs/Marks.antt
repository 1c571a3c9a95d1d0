-- A mask of the slots of which P holds.
use Rattle.std.proofs.Common.{◌≡◌, ◌≢◌, ℕ, ◌+◌, ◌<◌, ◌≤◌, ◌^◌, true, false, ◌==◌, ◌&&◌, arith, ap, sym, inl, inr, List, ◌↔◌, bit_or, lit<}
use Rattle.std.specs.Int.{bit_at}
use Rattle.std.proofs.lemmas.Nat.{or_lt, pow_below}
use Rattle.std.proofs.lemmas.Bool.Decides.{nat_tests}
use Rattle.std.proofs.lemmas.Nat.Bits.{bit_at_or, bit_at-zero, bit_at-pow_same, bit_at-pow_other}
use Rattle.split_policy.specs.Masks.{IsUsed}
use Rattle.split_policy.proofs.Sums.{at_end}
use Rattle.text_policy.specs.Words.{shared_at}
use Rattle.text_policy.specs.Choices.{IsMostShared}

-- the slots below n whose bits are set are those of which P holds
pub record MarksBelow (n : ℕ) (P : ℕ → Type 0) (mask : ℕ) : Type 0 where
  pub within : mask < 2 ^ 32
  pub each : (i : ℕ) → i < n → (bit_at mask i ≡ 1) ↔ P i
  pub rest : (i : ℕ) → n ≤ i → bit_at mask i ≡ 0

-- P holds of the next slot
pub marks-next : (n : ℕ) (P : ℕ → Type 0) (mask : ℕ) → n < 32 → MarksBelow n P mask → P n → MarksBelow (n + 1) P (bit_or mask (2 ^ n))
marks-next n P mask l is here = record {
  within = or_lt 32 mask (2 ^ n) is.within (pow_below n 32 l);
  each = λ i h.
      let a = bit_at_or mask (2 ^ n) i in
      elim (at_end n i h) [
        | inl e ↦
            let b = ap (λ (x : ℕ). bit_at (2 ^ n) x) e in
            let c = bit_at-pow_same n in
            let d = is.rest i (omega arith) in
            (λ t. rw e here, λ t. omega arith)
        | inr k ↦
            let b = bit_at-pow_other n i (λ e. omega arith) in
            (λ t. (is.each i k).0 (omega arith), λ t. let c = (is.each i k).1 t in omega arith)
      ];
  rest = λ i h.
      let a = bit_at_or mask (2 ^ n) i in
      let b = bit_at-pow_other n i (λ e. omega arith) in
      let c = is.rest i (omega arith) in
      omega arith;
}

-- P doesn't hold of the next slot
pub marks-kept : (n : ℕ) (P : ℕ → Type 0) (mask : ℕ) → MarksBelow n P mask → (P n → ⊥) → MarksBelow (n + 1) P mask
marks-kept n P mask is none = record {
  within = is.within;
  each = λ i h. elim (at_end n i h) [
    | inl e ↦
        let a = is.rest i (omega arith) in
        (λ t. absurd (omega arith), λ t. absurd (none (rw (sym e) t)))
    | inr k ↦ is.each i k
  ];
  rest = λ i h. is.rest i (omega arith);
}

-- no slot is looked at
pub marks-none : (P : ℕ → Type 0) → MarksBelow 0 P 0
marks-none P = record { within = lit< tt; each = λ i h. absurd (omega arith); rest = λ i h. bit_at-zero i }

-- a mask with a slot of which P holds isn't empty
pub marks-some : (P : ℕ → Type 0) (mask at : ℕ) → at < 32 → MarksBelow 32 P mask → P at → mask ≢ 0
marks-some P mask at l is here none =
    let a = (is.each at l).1 here in
    let b = ap (λ (x : ℕ). bit_at x at) none in
    let c = bit_at-zero at in
    omega arith

-- a slot shares the most words if it is used and shares as many as one that does
pub most-same : (used : ℕ) (shared : List ℕ) (at i : ℕ) → IsMostShared used shared at
    → IsMostShared used shared i ↔ (IsUsed used i × (shared_at shared i ≡ shared_at shared at))
most-same used shared at i most = (
  λ also. (also.is_used, let a = most.most i also.is_used in let b = also.most at most.is_used in omega arith),
  λ same. record { is_used = same.0; most = λ k u. let a = most.most k u in let e = same.1 in omega arith },
)

-- a test of two numbers succeeds
pub both-same : (a b m n : ℕ) → ((a == b) && (m == n)) ≡ true → (a ≡ b) × (m ≡ n)
both-same a b m n e = (grind (arith, nat_tests), grind (arith, nat_tests))

-- a test of two numbers fails
pub not-both : (a b m n : ℕ) → ((a == b) && (m == n)) ≡ false → a ≡ b → m ≡ n → ⊥
not-both a b m n e f g = grind (arith, nat_tests)
