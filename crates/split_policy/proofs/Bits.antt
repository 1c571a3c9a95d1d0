-- How many bits of a mask are set.
use Rattle.std.proofs.Common.{◌≡◌, ◌≢◌, ℕ, ◌+◌, ◌-◌, ◌<◌, ◌≤◌, ◌^◌, arith, bit_or, ◌⊎◌, inl, inr}
use Rattle.std.specs.Prelude.{bit_xor}
use Rattle.std.specs.Int.{bit_at, trailing_zeros, w32, w64}
use Rattle.std.proofs.lemmas.Nat.Bits.{bit_at-lt, bit_at_or, bit_at_xor, bit_at-pow_same, bit_at-pow_other, bit_at_ones, bit_at-zero, bit_at_above, bit_at-trailing_zeros}
use Rattle.split_policy.specs.Masks.{marked, IsUsed, IsAmong}
use Rattle.split_policy.proofs.Sums.{sum-plus, sum-ones, sum-zeros, sum-more}

-- no bit of 0 is set
pub marked-zero : (n : ℕ) → marked n 0 ≡ 0
unfolding marked
marked-zero n = sum-zeros n (λ i. bit_at 0 i) (λ i l. bit_at-zero i)

-- one more bit is set
pub marked-more : (n at a b : ℕ) → at < n → bit_at b at ≡ bit_at a at + 1 → ((i : ℕ) → (i ≡ at → ⊥) → bit_at b i ≡ bit_at a i) → marked n b ≡ marked n a + 1
unfolding marked
marked-more n at a b l one others = sum-more n at (λ i. bit_at a i) (λ i. bit_at b i) l one others

-- a bit that wasn't set is set by `|`
pub marked-or : (n at a : ℕ) → at < n → bit_at a at ≡ 0 → marked n (bit_or a (2 ^ at)) ≡ marked n a + 1
marked-or n at a l off =
    marked-more n at a (bit_or a (2 ^ at)) l
    (let e = bit_at_or a (2 ^ at) at in let f = bit_at-pow_same at in omega arith)
    (λ i k. let e = bit_at_or a (2 ^ at) i in let f = bit_at-pow_other at i k in omega arith)

-- a bit that was set is cleared by `^`
pub marked-xor : (n at a : ℕ) → at < n → bit_at a at ≡ 1 → marked n a ≡ marked n (bit_xor a (2 ^ at)) + 1
marked-xor n at a l on =
    marked-more n at (bit_xor a (2 ^ at)) a l
    (let e = bit_at_xor a (2 ^ at) at in let f = bit_at-pow_same at in omega arith)
    (λ i k. let e = bit_at_xor a (2 ^ at) i in let f = bit_at-pow_other at i k in let g = bit_at-lt a i in omega arith)

-- one bit alone
pub marked-one : (n at : ℕ) → at < n → marked n (2 ^ at) ≡ 1
marked-one n at l =
    let e = marked-more n at 0 (2 ^ at) l
    (let f = bit_at-pow_same at in let g = bit_at-zero at in omega arith)
    (λ i k. let f = bit_at-pow_other at i k in let g = bit_at-zero i in omega arith) in
    let z = marked-zero n in
    omega arith

-- the bits of two masks that have none in common
pub marked-both : (n a b : ℕ) → ((i : ℕ) → bit_at b i + bit_at a i ≤ 1) → marked n (bit_or a b) ≡ marked n a + marked n b
unfolding marked
marked-both n a b apart =
    sum-plus n (λ i. bit_at a i) (λ i. bit_at b i) (λ i. bit_at (bit_or a b) i)
    (λ i l. let e = bit_at_or a b i in let f = apart i in omega arith)

-- all of 33 bits
pub marked-all : marked 33 (2 ^ 33 - 1) ≡ 33
unfolding marked
marked-all = sum-ones 33 (λ i. bit_at (2 ^ 33 - 1) i) (λ i l. bit_at_ones 33 i l)

-- the lowest bit of a mask of slots
pub first-used : (used : ℕ) → used ≢ 0 → used < 2 ^ 32
    → IsUsed used (trailing_zeros w32 used) × ((i : ℕ) → i < trailing_zeros w32 used → IsUsed used i → ⊥)
first-used used some within =
    let lowest = bit_at-trailing_zeros w32 used (omega arith) within in
    ((lowest.0, lowest.1), λ i l u. let a = lowest.2 i l in let b = u.1 in omega arith)

-- a bit below 2 ^ 33 is one of 33
bit-within : (mask at : ℕ) → mask < 2 ^ 33 → bit_at mask at ≡ 1 → (at < 33) ⊎ (33 ≤ at) → at < 33
bit-within mask at within on where_it_is = elim where_it_is [ inl l ↦ l | inr k ↦ let a = bit_at_above mask 33 at within k in absurd (omega arith) ]

-- below 33 or not
below_or_not : (at : ℕ) → (at < 33) ⊎ (33 ≤ at)
below_or_not at = grind arith

-- the lowest bit of a mask of entries
pub first-among : (left : ℕ) → left ≢ 0 → left < 2 ^ 33
    → IsAmong left (trailing_zeros w64 left) × ((i : ℕ) → i < trailing_zeros w64 left → IsAmong left i → ⊥)
first-among left some within =
    let fits : left < 2 ^ 64 = omega arith in
    let lowest = bit_at-trailing_zeros w64 left (omega arith) fits in
    let low = bit-within left (trailing_zeros w64 left) within lowest.1 (below_or_not (trailing_zeros w64 left)) in
    ((low, lowest.1), λ i l u. let a = lowest.2 i l in let b = u.1 in omega arith)
