-- What is written is read again.
use Rattle.std.proofs.Common.{◌≡◌, ℕ, zero, suc, ◌+◌, ◌-◌, ◌*◌, ◌/◌, ◌%◌, ◌^◌, ◌<◌, ◌≤◌, ℤ, pos, negsuc, neg_ℤ, List, [], ◌∷◌, ◌++◌, length, drop, get_or, false, Ok, refl, ap, sym, ◌∙◌, inl, inr, arith}
use Rattle.std.specs.Prelude.{decimal, unsigned_abs, nat_lt}
use Rattle.std.specs.Str.Parse.{AllDigits, digits_value_after}
use Rattle.std.specs.Char.{digit_value}
use Rattle.std.proofs.lemmas.Bool.Decides.{nat_tests}
use Rattle.std.proofs.lemmas.Fmt.{decimal_is_IsNumeral, first_decimal, decimal_digit, length-decimal-le}
use Rattle.std.proofs.lemmas.Str.Parse.{digit_from_value}
use Rattle.std.proofs.lemmas.List.{length-append, append_assoc, append-nil, length_push, drop-drop}
use Rattle.std.proofs.Math.Nat.{div-div-eq-div-mul, pow-suc, mul_comm}
use Rattle.number_grammar.specs.Number.{AreDigits, IsMinus, IsInt, Parts, IsMadeOf}
use Rattle.fixed_coords.specs.Fixed.{scaled, mantissa, exponent, power, size, fixed, IsReading}
use lib.Signed.{lt_z}
use Rattle.fixed_coords.specs.Spelled.{minus_of}
use Rattle.fixed_coords.specs.Degrees.{last_digits, size_text, fixed_text}
use Rattle.fixed_coords.proofs.Scaling.{digits_value_after-append, digit_value-digit}
use Rattle.fixed_coords.proofs.Scanning.{AreDigits-push, IsDigits-some}

-- std's digits are the grammar's
AreDigits-all : (digits : List ℕ) → AllDigits 10 digits → AreDigits digits
AreDigits-all [] are = tt
AreDigits-all (digit ∷ digits) are = (let range = digit_from_value digit (are.0) in (omega arith, omega arith), AreDigits-all digits (are.1))

-- digits that don't begin with 0, or it alone, are an integer
IsInt-digits : (digits : List ℕ) → AreDigits digits → 0 < length digits → 48 < get_or digits 0 0 → IsInt digits
IsInt-digits [] are some first = absurd (omega arith)
IsInt-digits (digit ∷ digits) are some first = inr (first, omega arith, are.1)

-- a number is written as an integer
IsInt-decimal : (n : ℕ) → n < 2 ^ 64 → IsInt (decimal n)
IsInt-decimal zero fits = let written : decimal 0 ≡ 48 ∷ [] = decimal_digit 0 (omega arith) in rw written (inl (refl, refl))
IsInt-decimal (suc n) fits =
    let numeral = (decimal_is_IsNumeral (suc n) fits).0 in
    IsInt-digits (decimal (suc n)) (AreDigits-all (decimal (suc n)) numeral.1) numeral.0 (first_decimal (suc n) (omega arith) fits)

-- the last digits are digits, so many of them, and behind the quotient they give the number
AreDigits-last_digits : (k n : ℕ) → AreDigits (last_digits k n)
unfolding last_digits
AreDigits-last_digits zero n = tt
AreDigits-last_digits (suc k) n = AreDigits-push (last_digits k (n / 10)) (48 + n % 10) (AreDigits-last_digits k (n / 10)) (omega arith, omega arith)

-- so many digits
pub length-last_digits : (k n : ℕ) → length (last_digits k n) ≡ k
unfolding last_digits
length-last_digits zero n = refl
length-last_digits (suc k) n = length_push (last_digits k (n / 10)) (48 + n % 10) ∙ rw (length-last_digits k (n / 10)) (omega arith)

-- the last digits behind the quotient give the number
digits_value_after-last_digits : (k n : ℕ) → digits_value_after 10 (n / 10 ^ k) (last_digits k n) ≡ n
unfolding last_digits
digits_value_after-last_digits zero n = omega arith
digits_value_after-last_digits (suc k) n =
    let turned : 10 ^ suc k ≡ 10 * 10 ^ k = pow-suc 10 k ∙ mul_comm (10 ^ k) 10 in
    let quotient : n / 10 ^ suc k ≡ n / 10 / 10 ^ k = rw turned (sym (div-div-eq-div-mul n 10 (10 ^ k))) in
    let last : digit_value (48 + n % 10) ≡ n % 10 = digit_value-digit (48 + n % 10) (omega arith, omega arith) ∙ omega arith in
    rw (quotient, digits_value_after-append (n / 10 / 10 ^ k) (last_digits k (n / 10)) ((48 + n % 10) ∷ []), digits_value_after-last_digits k (n / 10), last) (omega arith)

-- the parts of a size that was written, with its sign
abbrev written_parts : List ℕ → ℕ → Parts
written_parts minus n = record { minus = minus; int = decimal (n / 10 ^ 7); frac = 46 ∷ last_digits 7 n; exp = [] }

-- what is written is a number of these parts
IsMadeOf-written : (minus : List ℕ) (n : ℕ) → IsMinus minus → n < 2 ^ 64 → IsMadeOf (minus ++ size_text n) (written_parts minus n)
unfolding size_text
IsMadeOf-written minus n is_minus fits = record {
  whole = rw (append-nil (46 ∷ last_digits 7 n)) refl;
  is_minus = is_minus;
  is_int = IsInt-decimal (n / 10 ^ 7) (omega arith);
  is_frac = (refl, IsDigits-some (last_digits 7 n) (AreDigits-last_digits 7 n) (omega (arith, length-last_digits 7 n)));
  is_exp = tt;
}

-- each part of what is written says what was written
mantissa-written : (minus : List ℕ) (n : ℕ) → n < 2 ^ 64 → mantissa (written_parts minus n) ≡ n
unfolding mantissa
mantissa-written minus n fits =
    digits_value_after-append 0 (decimal (n / 10 ^ 7)) (last_digits 7 n)
    ∙ ap (λ m. digits_value_after 10 m (last_digits 7 n)) ((decimal_is_IsNumeral (n / 10 ^ 7) (omega arith)).1)
    ∙ digits_value_after-last_digits 7 n

-- the size of what is written
size-written : (minus : List ℕ) (n : ℕ) → n < 2 ^ 64 → size (written_parts minus n) ≡ n
unfolding size exponent power scaled
size-written minus n fits = rw (length-last_digits 7 n, mantissa-written minus n fits) (omega arith)

-- what is written is short
length-written : (n : ℕ) → n < 2 ^ 64 → length (size_text n) ≤ 63
unfolding size_text
length-written n fits = omega (arith, length-append (decimal (n / 10 ^ 7)) (46 ∷ last_digits 7 n), length-last_digits 7 n, length-decimal-le 20 (n / 10 ^ 7) (omega arith) (omega arith) (omega arith))

-- what is written of a size is read again
pub IsReading-fixed_text : (value : ℤ) → unsigned_abs value ≤ 10 ^ 12 → IsReading (fixed_text value) (Ok value)
unfolding fixed_text fixed
IsReading-fixed_text (pos n) small = (
  omega (arith, length-written n (omega arith)),
  (written_parts [] n, IsMadeOf-written [] n tt (omega arith), rw (size-written [] n (omega arith)) small, ap pos (sym (size-written [] n (omega arith)))),
)
IsReading-fixed_text (negsuc n) small = (
  omega (arith, length-written (suc n) (omega arith)),
  (written_parts (45 ∷ []) (suc n), IsMadeOf-written (45 ∷ []) (suc n) (refl, refl) (omega arith), rw (size-written (45 ∷ []) (suc n) (omega arith)) small, ap (λ m. neg_ℤ (pos m)) (sym (size-written (45 ∷ []) (suc n) (omega arith)))),
)

-- the parts of what is written, in turn
pub fixed_text-joined : (value : ℤ) → ((minus_of (lt_z value (pos 0)) ++ decimal (unsigned_abs value / 10 ^ 7)) ++ 46 ∷ []) ++ last_digits 7 (unsigned_abs value) ≡ fixed_text value
unfolding fixed_text size_text
fixed_text-joined (pos n) = let above : nat_lt n 0 ≡ false = grind (arith, nat_tests) in rw above (append_assoc (decimal (n / 10 ^ 7)) (46 ∷ []) (last_digits 7 n))
fixed_text-joined (negsuc n) = ap (λ text. 45 ∷ text) (append_assoc (decimal (suc n / 10 ^ 7)) (46 ∷ []) (last_digits 7 (suc n)))

-- lists that are the same from one place on are so from any later place on
pub drop_later : (n m : ℕ) (xs ys : List ℕ) → n ≤ m → drop n xs ≡ drop n ys → drop m xs ≡ drop m ys
drop_later n m xs ys later same =
    let e : n + (m - n) ≡ m = omega arith in
    rw (← e, ← drop-drop (m - n) n xs, ← drop-drop (m - n) n ys) (ap (drop (m - n)) same)
