-- Digits and the numbers that they write.
use Rattle.std.proofs.Common.{◌≡◌, ◌≢◌, ℕ, zero, suc, ◌^◌, ◌<◌, ◌≤◌, nat_le, ◌&&◌, if◌then◌else◌, get_or, Bool, true, false, List, [], ◌∷◌, length, Some, None, Result, Ok, Err, MatchResult, refl, sym, ap, ◌∙◌, arith, rules}
use Rattle.std.specs.Result.{result_ok, is_ok}
use Rattle.std.specs.List.{list_all}
use Rattle.std.specs.Char.{is_ascii_digit}
use Rattle.std.specs.Str.{IsAscii, IsUtf8}
use Rattle.std.specs.Str.Parse.{digits_value, ParsesUnsigned}
use Rattle.std.proofs.lemmas.Bool.{false≢true, and_parts, and_from, leb-true, le-leb}
use Rattle.std.proofs.lemmas.Bool.Decides.{nat_tests}
use Rattle.std.proofs.lemmas.Str.{IsUtf8-from_ascii}
use Rattle.std.proofs.lemmas.Str.Parse.{IsDigitsTest, IsNumeralModel, numerals_by_value, parse_plain, digits_value_short}
use Rattle.query_lang.specs.Number.{are_digits, number_of}

-- digits in std's words
digits_test : IsDigitsTest (λ ds. list_all is_ascii_digit ds ≡ true)
digits_test = search rules

numerals : IsNumeralModel (λ ds. list_all is_ascii_digit ds ≡ true) (digits_value 10)
numerals = numerals_by_value _ digits_test

-- digits are ASCII
digit-below : (byte : ℕ) → is_ascii_digit byte ≡ true → byte < 128
digit-below byte h = grind (arith, nat_tests)

digits-IsAscii : (bytes : List ℕ) → list_all is_ascii_digit bytes ≡ true → IsAscii bytes
digits-IsAscii [] all i = omega arith
digits-IsAscii (byte ∷ bytes) all zero = digit-below byte (and_parts (is_ascii_digit byte) (list_all is_ascii_digit bytes) all).0
digits-IsAscii (byte ∷ bytes) all (suc i) = digits-IsAscii bytes (and_parts (is_ascii_digit byte) (list_all is_ascii_digit bytes) all).1 i

-- what `all` and then `from_utf8` say of bytes
pub digits_text : (bytes : List ℕ) (all : Bool) → all ≡ list_all is_ascii_digit bytes → all ≡ true → IsUtf8 bytes
digits_text bytes all same holds = IsUtf8-from_ascii bytes (digits-IsAscii bytes (sym same ∙ holds))

-- what a fault rules out makes a result Ok
pub is_ok-ruled_out : {T E : Type 0} (P : T → Type 0) (Q : E → Type 0) (U : Type 0) (r : Result T E) → MatchResult r P (λ e. ¬ U × Q e) → U → is_ok r ≡ true
is_ok-ruled_out P Q U (Ok x) h u = refl
is_ok-ruled_out P Q U (Err e) h u = absurd (h.0 u)

-- what `are_digits` tests
are_digits-parts : (bytes : List ℕ) → are_digits bytes ≡ true → (1 ≤ length bytes) × (length bytes ≤ 20) × (list_all is_ascii_digit bytes ≡ true)
are_digits-parts bytes h =
    let some = and_parts (nat_le 1 (length bytes)) (nat_le (length bytes) 20 && list_all is_ascii_digit bytes) h in
    let few = and_parts (nat_le (length bytes) 20) (list_all is_ascii_digit bytes) some.1 in
    (leb-true _ _ some.0, leb-true _ _ few.0, few.1)

are_digits-from : (bytes : List ℕ) → 1 ≤ length bytes → length bytes ≤ 20 → list_all is_ascii_digit bytes ≡ true → are_digits bytes ≡ true
are_digits-from bytes some few all = and_from _ _ (le-leb _ _ some) (and_from _ _ (le-leb _ _ few) all)

-- no number where the test fails
none_unless : (test : Bool) (n : ℕ) → (test ≡ true → ⊥) → (if test then Some n else None) ≡ None
none_unless true n h = absurd (h refl)
none_unless false n h = refl

number_of-none : (bytes : List ℕ) → (are_digits bytes ≡ true → ⊥) → number_of bytes ≡ None
unfolding number_of
number_of-none bytes h = none_unless (are_digits bytes) (digits_value 10 bytes) h

-- no number in more bytes
pub number_of-long : (bytes : List ℕ) → 20 < length bytes → number_of bytes ≡ None
number_of-long bytes long = number_of-none bytes (λ t. let parts = are_digits-parts bytes t in omega (arith, parts.1))

-- no number in other bytes
pub number_of-other : (bytes : List ℕ) → list_all is_ascii_digit bytes ≡ false → number_of bytes ≡ None
number_of-other bytes other = number_of-none bytes (λ t. false≢true (sym other ∙ (are_digits-parts bytes t).2))

-- no digit is a sign
digit-no_plus : (byte : ℕ) → is_ascii_digit byte ≡ true → byte ≢ 43
digit-no_plus byte h = grind (arith, nat_tests)

first-no_plus : (bytes : List ℕ) → list_all is_ascii_digit bytes ≡ true → get_or bytes 0 0 ≢ 43
first-no_plus [] all = λ e. omega (arith, e)
first-no_plus (byte ∷ bytes) all = digit-no_plus byte (and_parts (is_ascii_digit byte) (list_all is_ascii_digit bytes) all).0

-- few digits write a number of 128 bits
fits : (bytes : List ℕ) → length bytes ≤ 20 → list_all is_ascii_digit bytes ≡ true → digits_value 10 bytes < 2 ^ 128
fits bytes l all = omega (arith, digits_value_short numerals bytes 20 all l)

-- the test that holds gives the number
number_is : (bytes : List ℕ) → are_digits bytes ≡ true → number_of bytes ≡ Some (digits_value 10 bytes)
unfolding number_of
number_is bytes h = rw h refl

-- what `parse` gives for digits
pub number_of-parsed : (bytes : List ℕ) {E : Type 0} (r : Result ℕ E) → length bytes ≤ 20 → list_all is_ascii_digit bytes ≡ true → ParsesUnsigned 128 10 bytes r → result_ok r ≡ number_of bytes
number_of-parsed bytes {E} (Ok n) l all h =
    let plain = parse_plain numerals {E = E} 128 bytes (Ok n) h (first-no_plus bytes all) in
    ap Some plain.1 ∙ sym (number_is bytes (are_digits-from bytes plain.0.1 l plain.0.0))
number_of-parsed bytes {E} (Err e) l all h =
    let plain = parse_plain numerals {E = E} 128 bytes (Err e) h (first-no_plus bytes all) in
    sym (number_of-none bytes (λ t. let parts = are_digits-parts bytes t in plain (parts.2, parts.0, fits bytes l parts.2)))
