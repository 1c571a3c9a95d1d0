-- The order of 33 entries: each has a rank of its own, so 16 have 17 before them.
use Rattle.std.proofs.Common.{◌≡◌, ◌≢◌, ℕ, ℤ, zero, suc, ◌+◌, ◌<◌, ◌≤◌, ◌^◌, Bool, true, false, nat_lt, ◌==◌, arith, add-one, refl, sym, ap, ◌∙◌, ◌⊎◌, inl, inr, if◌then◌else◌, ◌↔◌, bit_or, lit<}
use Rattle.std.specs.Prelude.{◌<ℤ◌, int_lt}
use Rattle.std.specs.Int.{bit_at}
use Rattle.std.specs.Bool.{Decides}
use Rattle.std.proofs.lemmas.Int.{ints, by_lt_z}
use Rattle.std.proofs.lemmas.Nat.Bits.{bit_at-lt, bit_at_or, bit_at-zero, bit_at-pow_same, bit_at-pow_other}
use Rattle.std.proofs.lemmas.Nat.{or_lt, pow_below}
use Rattle.std.proofs.lemmas.Bool.Decides.{Decides-or, Decides-and, Decides-int_eq, Decides-ltb, nat_tests}
use Rattle.split_policy.specs.Halving.{is_before, rank_among}
use Rattle.split_policy.specs.Masks.{sum_to, marked}
use Rattle.split_policy.proofs.Sums.{at_end, same_or_not, sum-same, sum-plus, sum-ones, sum-zeros, sum-lt}

-- one entry comes before another
abbrev pub Before : (ℕ → ℤ) → ℕ → ℕ → Type 0
Before sum i j = (sum i <ℤ sum j) ⊎ ((sum i ≡ sum j) × (i < j))

-- a test of two whole numbers
decides-int_lt : (x y : ℤ) → Decides (int_lt x y) (x <ℤ y)
decides-int_lt x y = (λ e. grind (arith, ints), λ h. grind (arith, ints))

-- the test says which comes first
decides-before : (sum : ℕ → ℤ) (i j : ℕ) → Decides (is_before sum i j) (Before sum i j)
decides-before sum i j = Decides-or _ _ (decides-int_lt (sum i) (sum j)) (Decides-and _ _ (Decides-int_eq (sum i) (sum j)) (Decides-ltb i j))

-- before what comes before
before-trans : (sum : ℕ → ℤ) (i j k : ℕ) → Before sum i j → Before sum j k → Before sum i k
before-trans sum i j k p q = elim p [
  | inl a ↦ elim q [ inl b ↦ inl (omega (arith, ints)) | inr b ↦ let e = b.0 in inl (omega (arith, ints)) ]
  | inr a ↦ elim q [ inl b ↦ let e = a.0 in inl (omega (arith, ints)) | inr b ↦ inr (a.0 ∙ b.0, let h = a.1 in let m = b.1 in omega arith) ]
]

-- no entry comes before itself
before-irrefl : (sum : ℕ → ℤ) (i : ℕ) → Before sum i i → ⊥
before-irrefl sum i p = elim p [ inl a ↦ omega (arith, ints) | inr a ↦ let h = a.1 in omega arith ]

-- the lesser of two numbers
lesser : (i j : ℕ) → i ≢ j → (i < j) ⊎ (j < i)
lesser i j ne = grind arith

-- of two entries one comes before the other
before-total : (sum : ℕ → ℤ) (i j : ℕ) → i ≢ j → Before sum i j ⊎ Before sum j i
before-total sum i j ne =
    by_lt_z (sum i) (sum j) (λ a. inl (inl a))
    (λ a. by_lt_z (sum j) (sum i) (λ b. inr (inl b))
    (λ b.
    let e : sum i ≡ sum j = omega (arith, ints) in
    elim (lesser i j ne) [ inl h ↦ inl (inr (e, h)) | inr h ↦ inr (inr (sym e, h)) ]))

-- a test as a number
abbrev number : Bool → ℕ
number b = if b then 1 else 0

-- a test that succeeds
number-true : (b : Bool) → b ≡ true → number b ≡ 1
number-true b e = rw e

-- a test that fails
number-false : (b : Bool) → (b ≡ true → ⊥) → number b ≡ 0
number-false true h = absurd (h refl)
number-false false h = refl

-- a test doesn't both succeed and fail
true_not_false : true ≡ false → ⊥
true_not_false e = cc

-- a test that follows from another
number-le : (a b : Bool) → (a ≡ true → b ≡ true) → number a ≤ number b
number-le true b h = rw (h refl) (omega arith)
number-le false b h = omega arith

-- none of no entries come before
pub rank-none : (sum : ℕ → ℤ) (i : ℕ) → rank_among 0 sum i ≡ 0
unfolding rank_among sum_to
rank-none sum i = refl

-- one entry more is counted if it comes before
pub rank-next : (n : ℕ) (sum : ℕ → ℤ) (i : ℕ)
    → (is_before sum n i ≡ true → rank_among (n + 1) sum i ≡ rank_among n sum i + 1) × (is_before sum n i ≡ false → rank_among (n + 1) sum i ≡ rank_among n sum i)
unfolding rank_among sum_to
rank-next n sum i = (
  λ t. rw add-one (let a = number-true (is_before sum n i) t in omega arith),
  λ t. rw add-one (let a = number-false (is_before sum n i) (λ u. true_not_false (sym u ∙ t)) in omega arith),
)

-- an entry has a lesser rank than those it comes before
rank-lt : (n : ℕ) (sum : ℕ → ℤ) (i j : ℕ) → i < n → Before sum i j → rank_among n sum i < rank_among n sum j
unfolding rank_among
rank-lt n sum i j l before =
    sum-lt n i (λ k. number (is_before sum k i)) (λ k. number (is_before sum k j)) l
    (let a = number-false (is_before sum i i) (λ t. before-irrefl sum i ((decides-before sum i i).0 t)) in
    let b = number-true (is_before sum i j) ((decides-before sum i j).1 before) in
    omega arith)
    (λ k m. number-le (is_before sum k i) (is_before sum k j)
    (λ t. (decides-before sum k j).1 (before-trans sum k i j ((decides-before sum k i).0 t) before)))

-- different entries have different ranks
pub rank-apart : (n : ℕ) (sum : ℕ → ℤ) (i j : ℕ) → i < n → j < n → i ≢ j → rank_among n sum i ≢ rank_among n sum j
rank-apart n sum i j l m ne e = elim (before-total sum i j ne) [
  | inl b ↦ let h = rank-lt n sum i j l b in omega arith
  | inr b ↦ let h = rank-lt n sum j i m b in omega arith
]

-- one of n entries has fewer than n before it
pub rank-below : (n : ℕ) (sum : ℕ → ℤ) (i : ℕ) → i < n → rank_among n sum i < n
unfolding rank_among
rank-below n sum i l =
    let less = sum-lt n i (λ k. number (is_before sum k i)) (λ k. 1) l
    (let a = number-false (is_before sum i i) (λ t. before-irrefl sum i ((decides-before sum i i).0 t)) in omega arith)
    (λ k m. number-le (is_before sum k i) true (λ t. refl)) in
    let ones = sum-ones n (λ k. 1) (λ k m. refl) in
    omega arith

-- 1 if a rank is below a number
below : ℕ → ℕ → ℕ
below m r = if nat_lt r m then 1 else 0

-- 1 if a rank is a number
same : ℕ → ℕ → ℕ
same m r = if r == m then 1 else 0

-- below the next number is below the number, or the number
below-next : (m r : ℕ) → below (m + 1) r ≡ below m r + same m r
unfolding below same
below-next m r = grind (arith, nat_tests)

-- it is
same-is : (m r : ℕ) → r ≡ m → same m r ≡ 1
unfolding same
same-is m r e = grind (arith, nat_tests)

-- it isn't
same-not : (m r : ℕ) → r ≢ m → same m r ≡ 0
unfolding same
same-not m r ne = grind (arith, nat_tests)

-- no two of the first n have the same rank
abbrev Apart : ℕ → (ℕ → ℕ) → Type 0
Apart n f = (i j : ℕ) → i < n → j < n → i ≢ j → f i ≢ f j

-- so one at most has this rank
same-few : (n m : ℕ) (f : ℕ → ℕ) → Apart n f → sum_to n (λ i. same m (f i)) ≤ 1
unfolding sum_to
same-few zero m f apart = omega arith
same-few (suc n) m f apart = elim (same_or_not (f n) m) [
  | inl e ↦
      let a = same-is m (f n) e in
      let b = sum-zeros n (λ i. same m (f i)) (λ i l. same-not m (f i) (λ k. apart i n (omega arith) (omega arith) (λ s. omega arith) (k ∙ sym e))) in
      omega arith
  | inr k ↦
      let a = same-not m (f n) k in
      let b = same-few n m f (λ i j l h ne. apart i j (omega arith) (omega arith) ne) in
      omega arith
]

-- how many have a rank below k more, at most k more
below-rise : (n m k : ℕ) (f : ℕ → ℕ) → Apart n f → sum_to n (λ i. below (m + k) (f i)) ≤ sum_to n (λ i. below m (f i)) + k
below-rise n m zero f apart =
    let e = sum-same n (λ i. below (m + 0) (f i)) (λ i. below m (f i)) (λ i l. let h : m + 0 ≡ m = omega arith in ap (λ (x : ℕ). below x (f i)) h) in
    omega arith
below-rise n m (suc k) f apart =
    let h : m + suc k ≡ m + k + 1 = omega arith in
    let e = sum-same n (λ i. below (m + suc k) (f i)) (λ i. below (m + k + 1) (f i)) (λ i l. ap (λ (x : ℕ). below x (f i)) h) in
    let s = sum-plus n (λ i. below (m + k) (f i)) (λ i. same (m + k) (f i)) (λ i. below (m + k + 1) (f i)) (λ i l. below-next (m + k) (f i)) in
    let few = same-few n (m + k) f apart in
    let rise = below-rise n m k f apart in
    omega arith

-- below nothing
below-none : (n : ℕ) (f : ℕ → ℕ) → sum_to n (λ i. below 0 (f i)) ≡ 0
unfolding below
below-none n f = sum-zeros n (λ i. below 0 (f i)) (λ i l. grind (arith, nat_tests))

-- all
below-all : (n m : ℕ) (f : ℕ → ℕ) → ((i : ℕ) → i < n → f i < m) → sum_to n (λ i. below m (f i)) ≡ n
unfolding below
below-all n m f within = sum-ones n (λ i. below m (f i)) (λ i l. let h = within i l in grind (arith, nat_tests))

-- a bit that is set from a rank on
bit-or-below : (bit m r : ℕ) → bit < 2 → (bit ≡ 1) ↔ (m ≤ r) → 1 ≡ bit + below m r
unfolding below
bit-or-below bit m r lt is = grind (arith, nat_tests)

-- 16 of 33 bits are set if those are that have 17 ranks below them
pub sixteen-marked : (mask : ℕ) (f : ℕ → ℕ) → Apart 33 f → ((i : ℕ) → i < 33 → f i < 33)
    → ((i : ℕ) → i < 33 → (bit_at mask i ≡ 1) ↔ (17 ≤ f i)) → marked 33 mask ≡ 16
unfolding marked
sixteen-marked mask f apart within moves =
    let parts = sum-plus 33 (λ i. bit_at mask i) (λ i. below 17 (f i)) (λ i. 1) (λ i l. bit-or-below (bit_at mask i) 17 (f i) (bit_at-lt mask i) (moves i l)) in
    let ones = sum-ones 33 (λ i. 1) (λ i l. refl) in
    let low = below-rise 33 0 17 f apart in
    let none = below-none 33 f in
    let high = below-rise 33 17 16 f apart in
    let all = below-all 33 33 f within in
    omega arith

-- the entries below n that move are those with 17 before them
pub record MovesBelow (n : ℕ) (f : ℕ → ℕ) (mask : ℕ) : Type 0 where
  pub within : mask < 2 ^ 33
  pub moves : (i : ℕ) → i < n → (bit_at mask i ≡ 1) ↔ (17 ≤ f i)
  pub rest : (i : ℕ) → n ≤ i → bit_at mask i ≡ 0

-- the next entry moves
pub moves-next : (n : ℕ) (f : ℕ → ℕ) (mask : ℕ) → n < 33 → MovesBelow n f mask → 17 ≤ f n → MovesBelow (n + 1) f (bit_or mask (2 ^ n))
moves-next n f mask l is moves = record {
  within = or_lt 33 mask (2 ^ n) is.within (pow_below n 33 l);
  moves = λ i h.
      let a = bit_at_or mask (2 ^ n) i in
      elim (at_end n i h) [
        | inl e ↦
            let b = ap (λ (x : ℕ). bit_at (2 ^ n) x) e in
            let c = bit_at-pow_same n in
            let d = is.rest i (omega arith) in
            let m = ap f e in
            (λ t. omega arith, λ t. omega arith)
        | inr k ↦
            let b = bit_at-pow_other n i (λ e. omega arith) in
            (λ t. (is.moves i k).0 (omega arith), λ t. let c = (is.moves i k).1 t in omega arith)
      ];
  rest = λ i h.
      let a = bit_at_or mask (2 ^ n) i in
      let b = bit_at-pow_other n i (λ e. omega arith) in
      let c = is.rest i (omega arith) in
      omega arith;
}

-- the next entry stays
pub moves-kept : (n : ℕ) (f : ℕ → ℕ) (mask : ℕ) → MovesBelow n f mask → f n < 17 → MovesBelow (n + 1) f mask
moves-kept n f mask is stays = record {
  within = is.within;
  moves = λ i h. elim (at_end n i h) [
    | inl e ↦
        let a = is.rest i (omega arith) in
        let b = ap f e in
        (λ t. absurd (omega arith), λ t. absurd (omega arith))
    | inr k ↦ is.moves i k
  ];
  rest = λ i h. is.rest i (omega arith);
}

-- no entry is looked at
pub moves-none : (f : ℕ → ℕ) → MovesBelow 0 f 0
moves-none f = record { within = lit< tt; moves = λ i h. absurd (omega arith); rest = λ i h. bit_at-zero i }
