-- A product with a power of ten, rounded, is the digits with the point moved, rounded at the digit behind it.
use Rattle.std.proofs.Common.{◌≡◌, ℕ, zero, suc, add-one, length-drop, ◌+◌, ◌-◌, ◌*◌, ◌/◌, ◌^◌, ◌<◌, ◌≤◌, pos, negsuc, List, [], ◌∷◌, ◌++◌, length, take, drop, true, false, refl, ap, sym, ◌∙◌, inl, inr, arith}
use Rattle.std.specs.Prelude.{◌⊎◌, nat_lt}
use Rattle.std.specs.Char.{digit_value}
use Rattle.std.specs.Str.Parse.{AllDigits, digits_value, digits_value_after}
use Rattle.std.proofs.lemmas.Bool.Decides.{nat_tests}
use Rattle.std.proofs.lemmas.Int.Digits.{digits_value-lt}
use Rattle.std.proofs.lemmas.List.{take-append-drop, take_all, drop_all}
use Rattle.std.proofs.lemmas.Nat.{div-mul-add}
use Rattle.std.proofs.Math.Nat.{pow-suc, one-le-pow, pow-le-pow_right, mul-le-mul_right}
use Rattle.number_grammar.specs.Number.{IsDigit, AreDigits}
use Rattle.fixed_coords.specs.Fixed.{scaled}
use Rattle.fixed_coords.specs.Placed.{round_up, placed}

-- the value of a digit
pub digit_value-digit : (byte : ℕ) → IsDigit byte → digit_value byte ≡ byte - 48
digit_value-digit byte digit = grind (arith, nat_tests)

-- what a test of order says
pub lt_tells : (a b : ℕ) → ((nat_lt a b ≡ true) × (a < b)) ⊎ ((nat_lt a b ≡ false) × (b ≤ a))
lt_tells a b = grind (arith, nat_tests)

-- the grammar's digits are std's
pub AllDigits-digits : (digits : List ℕ) → AreDigits digits → AllDigits 10 digits
AllDigits-digits [] are = tt
AllDigits-digits (digit ∷ digits) are = (let value : digit_value digit ≡ digit - 48 = digit_value-digit digit (are.0) in omega arith, AllDigits-digits digits (are.1))

-- digits behind those of n
pub digits_value_after-split : (n : ℕ) (digits : List ℕ) → digits_value_after 10 n digits ≡ n * 10 ^ length digits + digits_value 10 digits
digits_value_after-split n [] = omega arith
digits_value_after-split n (digit ∷ digits) =
    let far : digits_value_after 10 (n * 10 + digit_value digit) digits ≡ (n * 10 + digit_value digit) * 10 ^ length digits + digits_value 10 digits = digits_value_after-split (n * 10 + digit_value digit) digits in
    let near : digits_value_after 10 (0 * 10 + digit_value digit) digits ≡ (0 * 10 + digit_value digit) * 10 ^ length digits + digits_value 10 digits = digits_value_after-split (0 * 10 + digit_value digit) digits in
    let tenfold : 10 ^ suc (length digits) ≡ 10 ^ length digits * 10 = pow-suc 10 (length digits) in
    let sum : digits_value_after 10 (n * 10 + digit_value digit) digits ≡ n * 10 ^ suc (length digits) + digits_value_after 10 (0 * 10 + digit_value digit) digits = rw (far, near, tenfold) (omega arith) in
    sum

-- digits joined are read on from the first
pub digits_value_after-append : (n : ℕ) (digits more : List ℕ) → digits_value_after 10 n (digits ++ more) ≡ digits_value_after 10 (digits_value_after 10 n digits) more
digits_value_after-append n [] more = refl
digits_value_after-append n (digit ∷ digits) more = digits_value_after-append (n * 10 + digit_value digit) digits more

-- the digits before a place and those behind it
pub digits_value-take-drop : (place : ℕ) (digits : List ℕ) → digits_value 10 digits ≡ digits_value 10 (take place digits) * 10 ^ length (drop place digits) + digits_value 10 (drop place digits)
digits_value-take-drop place digits =
    let joined : digits_value 10 (take place digits ++ drop place digits) ≡ digits_value 10 digits = ap (digits_value 10) (take-append-drop place digits) in
    sym joined ∙ digits_value_after-append 0 (take place digits) (drop place digits) ∙ digits_value_after-split (digits_value 10 (take place digits)) (drop place digits)

-- a power of ten is at least 1
pub ten_to_positive : (k : ℕ) → 0 < 10 ^ k
ten_to_positive k = one-le-pow k 10 (omega arith)

-- one power of ten higher
pub pow_more : (k : ℕ) → 10 ^ (k + 1) ≡ 10 ^ k * 10
pow_more k = rw add-one (pow-suc 10 k)

-- digits without the first ones are digits
pub AreDigits-drop : (place : ℕ) (digits : List ℕ) → AreDigits digits → AreDigits (drop place digits)
AreDigits-drop zero digits are = are
AreDigits-drop (suc place) [] are = tt
AreDigits-drop (suc place) (digit ∷ digits) are = AreDigits-drop place digits (are.1)

-- the first digits are digits
pub AreDigits-take : (place : ℕ) (digits : List ℕ) → AreDigits digits → AreDigits (take place digits)
AreDigits-take zero digits are = tt
AreDigits-take (suc place) [] are = tt
AreDigits-take (suc place) (digit ∷ digits) are = (are.0, AreDigits-take place digits (are.1))

-- a sum with half of the divisor, divided
pub half_up : (a b d r : ℕ) → 0 < d → b < d → (((r ≡ 0) × (2 * b < d)) ⊎ ((r ≡ 1) × (d ≤ 2 * b))) → (2 * (a * d + b) + d) / (2 * d) ≡ a + r
half_up a b d r pos_d below (inl down) =
    let regrouped : 2 * (a * d + b) + d ≡ a * (2 * d) + (2 * b + d) = omega arith in
    rw (regrouped, down.0) (div-mul-add a (2 * d) (2 * b + d) (omega arith) ∙ omega arith)
half_up a b d r pos_d below (inr up) =
    let regrouped : 2 * (a * d + b) + d ≡ (a + 1) * (2 * d) + (2 * b - d) = omega arith in
    rw (regrouped, up.0) (div-mul-add (a + 1) (2 * d) (2 * b - d) (omega arith))

-- a number that begins with a digit below 5 is less than half of a power of ten, and any other isn't
below_half : (v t r : ℕ) → r < t → v ≤ 4 → 2 * (v * t + r) < t * 10
below_half v t r low small = omega (arith, mul-le-mul_right t small)

-- a number that begins with 5 or more is half of a power of ten, or more
half_or_more : (v t r : ℕ) → 5 ≤ v → t * 10 ≤ 2 * (v * t + r)
half_or_more v t r large = omega (arith, mul-le-mul_right t large)

-- the first digit cut off says which half the rest is in
pub halves : (digit : ℕ) (digits : List ℕ) → AreDigits (digit ∷ digits) → ((round_up (digit ∷ digits) ≡ 0) × (2 * digits_value 10 (digit ∷ digits) < 10 ^ suc (length digits))) ⊎ ((round_up (digit ∷ digits) ≡ 1) × (10 ^ suc (length digits) ≤ 2 * digits_value 10 (digit ∷ digits)))
halves digit digits are =
    let value : digit_value digit ≡ digit - 48 = digit_value-digit digit (are.0) in
    let split : digits_value 10 (digit ∷ digits) ≡ (0 * 10 + digit_value digit) * 10 ^ length digits + digits_value 10 digits = digits_value_after-split (0 * 10 + digit_value digit) digits in
    let low : digits_value 10 digits < 10 ^ length digits = digits_value-lt 10 digits (AllDigits-digits digits (are.1)) in
    let tenfold : 10 ^ suc (length digits) ≡ 10 ^ length digits * 10 = pow-suc 10 (length digits) in
    elim (lt_tells digit 53) [
      | inl small ↦ inl (rw (small.0) refl, rw (split, tenfold) (below_half (0 * 10 + digit_value digit) (10 ^ length digits) (digits_value 10 digits) low (omega arith)))
      | inr large ↦ inr (rw (large.0) refl, rw (split, tenfold) (half_or_more (0 * 10 + digit_value digit) (10 ^ length digits) (digits_value 10 digits) (omega arith)))
    ]

-- a small number with half of the divisor, divided
quotient_none : (m d : ℕ) → 2 * m < d → (2 * m + d) / (2 * d) ≡ 0
quotient_none m d small = let whole : 2 * m + d ≡ 0 * (2 * d) + (2 * m + d) = omega arith in rw whole (div-mul-add 0 (2 * d) (2 * m + d) (omega arith))

-- a number of so many digits, less than half of a higher power of ten, is 0
pub scaled-small : (digits : List ℕ) → AreDigits digits → (more : ℕ) → scaled (digits_value 10 digits) (negsuc (length digits + more)) ≡ 0
unfolding scaled
scaled-small digits are more =
    let low : digits_value 10 digits < 10 ^ length digits = digits_value-lt 10 digits (AllDigits-digits digits are) in
    let tenfold : 10 ^ (length digits + more + 1) ≡ 10 ^ (length digits + more) * 10 = pow_more (length digits + more) in
    let higher : 10 ^ length digits ≤ 10 ^ (length digits + more) = pow-le-pow_right {n = 10} (omega arith) (omega arith) in
    quotient_none (digits_value 10 digits) (10 ^ (length digits + more + 1)) (omega arith)

-- what the reader does on digits is the product with the power of ten, rounded
placed_below : (digits front back : List ℕ) (cut : ℕ) → digits_value 10 digits ≡ digits_value 10 front * 10 ^ length back + digits_value 10 back → AreDigits back → length back ≡ suc cut →
    (2 * digits_value 10 digits + 10 ^ (cut + 1)) / (2 * 10 ^ (cut + 1)) ≡ digits_value 10 front + round_up back
placed_below digits front [] cut split are e = absurd (omega arith)
placed_below digits front (digit ∷ back) cut split are e =
    let all : suc (length back) ≡ cut + 1 = e ∙ omega arith in
    let low : digits_value 10 (digit ∷ back) < 10 ^ suc (length back) = digits_value-lt 10 (digit ∷ back) (AllDigits-digits (digit ∷ back) are) in
    rw (split, ← all) (half_up (digits_value 10 front) (digits_value 10 (digit ∷ back)) (10 ^ suc (length back)) (round_up (digit ∷ back)) (ten_to_positive (suc (length back))) low (halves digit back are))

-- a point among the digits: what the reader does is the product with the power of ten, rounded
pub scaled-placed_below : (digits : List ℕ) → AreDigits digits → (point cut : ℕ) → point + suc cut ≡ length digits → scaled (digits_value 10 digits) (negsuc cut) ≡ placed digits point
unfolding scaled
scaled-placed_below digits are point cut e =
    let none : point - length digits ≡ 0 = omega arith in
    rw none (placed_below digits (take point digits) (drop point digits) cut (digits_value-take-drop point digits) (AreDigits-drop point digits are) (length-drop point digits ∙ omega arith) ∙ omega arith)

-- a point behind the digits: zeros follow
pub scaled-placed_above : (digits : List ℕ) (count : ℕ) → scaled (digits_value 10 digits) (pos count) ≡ placed digits (length digits + count)
unfolding scaled
scaled-placed_above digits count =
    let more : length digits + count - length digits ≡ count = omega arith in
    rw (more, take_all (length digits + count) digits (omega arith), drop_all (length digits + count) digits (omega arith)) (omega arith)

-- a number that isn't 0 with thirteen zeros or more is above 10^12
pub many_zeros : (n k : ℕ) → 1 ≤ n → 13 ≤ k → 10 ^ 12 < n * 10 ^ k
many_zeros n k some many =
    let higher : 10 ^ 13 ≤ 10 ^ k = pow-le-pow_right {n = 10} (omega arith) many in
    omega (arith, mul-le-mul_right (10 ^ k) some)
