-- The tests pass just the numbers.
use Rattle.std.proofs.Common.{◌≡◌, ℕ, ◌≤◌, ◌⊎◌, inl, inr, Bool, true, false, List, [], ◌∷◌, refl, ap, subst, arith, nat_eq}
use Rattle.std.specs.Prelude.{not, ◌&&◌, ◌||◌}
use Rattle.std.specs.List.{list_all}
use Rattle.std.specs.Char.{is_ascii_digit}
use Rattle.std.proofs.lemmas.Bool.{and_parts, and_from}
use Rattle.std.proofs.lemmas.Bool.Decides.{nat_tests}
use Rattle.number_grammar.specs.Number.{IsDigit, AreDigits, IsDigits, IsInt, IsFrac, IsSignedDigits, IsExp, Parts, IsMadeOf}
use Rattle.number_grammar.specs.Cut.{cut}
use Rattle.number_grammar.specs.Tests.{are_some_digits, is_int, is_frac, are_signed_digits, is_exp, is_number}
use Rattle.number_grammar.proofs.Cuts.{is_digit, parts_are_cut, made_of_cut}

digit_is : (byte : ℕ) → is_ascii_digit byte ≡ true → IsDigit byte
digit_is byte h = (grind (arith, nat_tests), grind (arith, nat_tests))

-- digits, as a fact and as a test
digits_pass : (bytes : List ℕ) → AreDigits bytes → list_all is_ascii_digit bytes ≡ true
digits_pass [] h = refl
digits_pass (byte ∷ bytes) h = and_from _ _ (is_digit byte h.0) (digits_pass bytes h.1)

passed_digits : (bytes : List ℕ) → list_all is_ascii_digit bytes ≡ true → AreDigits bytes
passed_digits [] h = tt
passed_digits (byte ∷ bytes) h =
    let parts = and_parts (is_ascii_digit byte) (list_all is_ascii_digit bytes) h in (digit_is byte parts.0, passed_digits bytes parts.1)

some_pass : (bytes : List ℕ) → IsDigits bytes → are_some_digits bytes ≡ true
some_pass [] h = absurd h
some_pass (byte ∷ bytes) h = and_from _ _ (is_digit byte h.0) (digits_pass bytes h.1)

passed_some : (bytes : List ℕ) → are_some_digits bytes ≡ true → IsDigits bytes
passed_some [] h = absurd (cc)
passed_some (byte ∷ bytes) h =
    let parts = and_parts (is_ascii_digit byte) (list_all is_ascii_digit bytes) h in (digit_is byte parts.0, passed_digits bytes parts.1)

-- the integer
no_zero : (byte : ℕ) → 49 ≤ byte → not (nat_eq byte 48) ≡ true
no_zero byte h = grind (arith, nat_tests)

from_one : (byte : ℕ) → not (nat_eq byte 48) ≡ true → is_ascii_digit byte ≡ true → (49 ≤ byte) × (byte ≤ 57)
from_one byte no_zero digit = (grind (arith, nat_tests), grind (arith, nat_tests))

zero_digit : (byte : ℕ) → byte ≡ 48 → is_ascii_digit byte ≡ true
zero_digit byte h = grind (arith, nat_tests)

large_digit : (byte : ℕ) → 49 ≤ byte → byte ≤ 57 → is_ascii_digit byte ≡ true
large_digit byte h k = grind (arith, nat_tests)

int_pass : (bytes : List ℕ) → IsInt bytes → is_int bytes ≡ true
int_pass [] h = absurd h
int_pass (byte ∷ []) (inl h) = zero_digit byte h.0
int_pass (byte ∷ []) (inr h) = large_digit byte h.0 h.1
int_pass (byte ∷ next ∷ rest) (inl h) = absurd (cc h.1)
int_pass (byte ∷ next ∷ rest) (inr h) = and_from _ _ (no_zero byte h.0) (and_from _ _ (large_digit byte h.0 h.1) (digits_pass (next ∷ rest) h.2))

passed_one : (byte : ℕ) (test : Bool) → nat_eq byte 48 ≡ test → is_ascii_digit byte ≡ true → IsInt (byte ∷ [])
passed_one byte true is h = inl (grind (arith, nat_tests), refl)
passed_one byte false is h = let large = from_one byte (ap not is) h in inr (large.0, large.1, tt)

passed_int : (bytes : List ℕ) → is_int bytes ≡ true → IsInt bytes
passed_int [] h = absurd (cc)
passed_int (byte ∷ []) h = passed_one byte (nat_eq byte 48) refl h
passed_int (byte ∷ next ∷ rest) h =
    let parts = and_parts (not (nat_eq byte 48)) (list_all is_ascii_digit (byte ∷ next ∷ rest)) h in
    let digits = and_parts (is_ascii_digit byte) (list_all is_ascii_digit (next ∷ rest)) parts.1 in
    let large = from_one byte parts.0 digits.0 in
    inr (large.0, large.1, passed_digits (next ∷ rest) digits.1)

-- the fraction
is_same : (a b : ℕ) → a ≡ b → nat_eq a b ≡ true
is_same a b h = grind (arith, nat_tests)

pub same_is : (a b : ℕ) → nat_eq a b ≡ true → a ≡ b
same_is a b h = grind (arith, nat_tests)

frac_pass : (bytes : List ℕ) → IsFrac bytes → is_frac bytes ≡ true
frac_pass [] h = refl
frac_pass (byte ∷ bytes) h = and_from _ _ (is_same byte 46 h.0) (some_pass bytes h.1)

passed_frac : (bytes : List ℕ) → is_frac bytes ≡ true → IsFrac bytes
passed_frac [] h = tt
passed_frac (byte ∷ bytes) h = let parts = and_parts (nat_eq byte 46) (are_some_digits bytes) h in (same_is byte 46 parts.0, passed_some bytes parts.1)

-- one of two bytes
one_of : (byte a b : ℕ) → (byte ≡ a) ⊎ (byte ≡ b) → (nat_eq byte a || nat_eq byte b) ≡ true
one_of byte a b (inl h) = grind (arith, nat_tests)
one_of byte a b (inr h) = grind (arith, nat_tests)

or_one : (byte a b : ℕ) (test : Bool) → nat_eq byte a ≡ test → (nat_eq byte a || nat_eq byte b) ≡ true → (byte ≡ a) ⊎ (byte ≡ b)
or_one byte a b true is h = inl (same_is byte a is)
or_one byte a b false is h = inr (grind (arith, nat_tests))

-- the exponent
no_sign : (byte : ℕ) → IsDigit byte → (nat_eq byte 45 || nat_eq byte 43) ≡ false
no_sign byte h = grind (arith, nat_tests)

signed_pass : (bytes : List ℕ) → IsSignedDigits bytes → are_signed_digits bytes ≡ true
signed_pass [] h = absurd h
signed_pass (byte ∷ bytes) (inl h) = rw (one_of byte 45 43 h.0) (some_pass bytes h.1)
signed_pass (byte ∷ bytes) (inr h) = rw (no_sign byte h.0) (and_from _ _ (is_digit byte h.0) (digits_pass bytes h.1))

passed_signed_by : (byte : ℕ) (bytes : List ℕ) (test : Bool) → (nat_eq byte 45 || nat_eq byte 43) ≡ test → are_signed_digits (byte ∷ bytes) ≡ true → IsSignedDigits (byte ∷ bytes)
passed_signed_by byte bytes true is h =
    let rest : are_some_digits bytes ≡ true = rw is at h in
    inl (or_one byte 45 43 (nat_eq byte 45) refl is, passed_some bytes rest)
passed_signed_by byte bytes false is h =
    let rest : (is_ascii_digit byte && list_all is_ascii_digit bytes) ≡ true = rw is at h in
    let parts = and_parts (is_ascii_digit byte) (list_all is_ascii_digit bytes) rest in
    inr (digit_is byte parts.0, passed_digits bytes parts.1)

passed_signed : (bytes : List ℕ) → are_signed_digits bytes ≡ true → IsSignedDigits bytes
passed_signed [] h = absurd (cc)
passed_signed (byte ∷ bytes) h = passed_signed_by byte bytes (nat_eq byte 45 || nat_eq byte 43) refl h

exp_pass : (bytes : List ℕ) → IsExp bytes → is_exp bytes ≡ true
exp_pass [] h = refl
exp_pass (byte ∷ bytes) h = and_from _ _ (one_of byte 101 69 h.0) (signed_pass bytes h.1)

passed_exp : (bytes : List ℕ) → is_exp bytes ≡ true → IsExp bytes
passed_exp [] h = tt
passed_exp (byte ∷ bytes) h =
    let parts = and_parts (nat_eq byte 101 || nat_eq byte 69) (are_signed_digits bytes) h in
    (or_one byte 101 69 (nat_eq byte 101) refl parts.0, passed_signed bytes parts.1)

-- a number, as a fact and as a test
pub number_passes : (bytes : List ℕ) (parts : Parts) → IsMadeOf bytes parts → is_number bytes ≡ true
number_passes bytes parts made =
    let same = parts_are_cut bytes parts made in
    and_from _ _ (subst (λ (p : Parts). is_int p.int ≡ true) same (int_pass parts.int made.is_int))
    (and_from _ _ (subst (λ (p : Parts). is_frac p.frac ≡ true) same (frac_pass parts.frac made.is_frac)) (subst (λ (p : Parts). is_exp p.exp ≡ true) same (exp_pass parts.exp made.is_exp)))

pub passed_number : (bytes : List ℕ) → is_number bytes ≡ true → IsMadeOf bytes (cut bytes)
passed_number bytes h =
    let one = and_parts (is_int (cut bytes).int) (is_frac (cut bytes).frac && is_exp (cut bytes).exp) h in
    let two = and_parts (is_frac (cut bytes).frac) (is_exp (cut bytes).exp) one.1 in
    made_of_cut bytes (passed_int (cut bytes).int one.0) (passed_frac (cut bytes).frac two.0) (passed_exp (cut bytes).exp two.1)
