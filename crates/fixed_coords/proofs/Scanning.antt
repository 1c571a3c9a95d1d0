-- What the reader finds in a text is what the grammar has there.
use Rattle.std.proofs.Common.{◌≡◌, ℕ, zero, suc, ◌+◌, ◌-◌, ◌*◌, ◌<◌, ◌≤◌, min, List, [], ◌∷◌, ◌++◌, length, take, drop, true, refl, ap, subst, Option, Some, None, inl, inr, arith, get_or}
use Rattle.std.specs.Prelude.{take_while, ◌==◌, IfNone}
use Rattle.std.specs.Char.{is_ascii_digit}
use Rattle.std.specs.List.{prefix_len}
use Rattle.std.specs.Str.Parse.{digits_value_after}
use Rattle.std.proofs.lemmas.List.{take_more}
use Rattle.std.proofs.lemmas.List.Folds.{length-prefix_len}
use Rattle.number_grammar.specs.Number.{IsDigit, AreDigits, IsDigits, IsInt, IsFrac, IsExp, Parts, IsNumber}
use Rattle.number_grammar.specs.Cut.{first_digits, after_digits, after_minus, first_frac, after_frac}
use Rattle.fixed_coords.proofs.Scaling.{digit_value-digit, digits_value_after-append}
use Rattle.number_grammar.proofs.Cuts.{digit_tells, AreDigits-first_digits, parts_are_cut}

-- the digits that were counted, and what follows them
take-prefix_len : (text : List ℕ) → take (prefix_len is_ascii_digit text) text ≡ first_digits text
take-prefix_len [] = refl
take-prefix_len (byte ∷ rest) = elim (digit_tells byte) [
  | inl digit ↦ let more : 1 + prefix_len is_ascii_digit rest ≡ suc (prefix_len is_ascii_digit rest) = omega arith in rw (digit.0, more) (ap (λ xs. byte ∷ xs) (take-prefix_len rest))
  | inr other ↦ rw (other.0) refl
]

-- what follows the digits that were counted
drop-prefix_len : (text : List ℕ) → drop (prefix_len is_ascii_digit text) text ≡ after_digits text
drop-prefix_len [] = refl
drop-prefix_len (byte ∷ rest) = elim (digit_tells byte) [
  | inl digit ↦ let more : 1 + prefix_len is_ascii_digit rest ≡ suc (prefix_len is_ascii_digit rest) = omega arith in rw (digit.0, more) (drop-prefix_len rest)
  | inr other ↦ rw (other.0) refl
]

-- the same of the count that the reader makes
pub take-digits : (text : List ℕ) → take (length (take_while is_ascii_digit text)) text ≡ first_digits text
take-digits text = rw (length-prefix_len is_ascii_digit text) (take-prefix_len text)

-- and of what follows
pub drop-digits : (text : List ℕ) → drop (length (take_while is_ascii_digit text)) text ≡ after_digits text
drop-digits text = rw (length-prefix_len is_ascii_digit text) (drop-prefix_len text)

-- a count that stands still at a most
pub capped : (n most digit : ℕ) → min (min n most * 10 + digit) most ≡ min (n * 10 + digit) most
capped n most digit = omega arith

-- digits, of which there are some
pub IsDigits-some : (digits : List ℕ) → AreDigits digits → 0 < length digits → IsDigits digits
IsDigits-some [] are some = omega arith
IsDigits-some (digit ∷ digits) are some = are

-- a point with digits behind it is a fraction
pub IsFrac-first_frac : (text digits : List ℕ) → 1 ≤ length text → get_or text 0 0 ≡ 46 → digits ≡ first_digits (drop 1 text) → 0 < length digits → IsFrac (first_frac text)
IsFrac-first_frac [] digits some point are more = absurd (omega arith)
IsFrac-first_frac (byte ∷ rest) digits some point are more =
    let is_point : (byte == 46) ≡ true = rw point refl in
    rw is_point (point, IsDigits-some (first_digits rest) (AreDigits-first_digits rest) (rw (← are) more))

-- each of the digits is one
pub AreDigits-at : (digits : List ℕ) (i : ℕ) → AreDigits digits → i < length digits → IsDigit (get_or digits i 0)
AreDigits-at [] i are below = absurd (omega arith)
AreDigits-at (digit ∷ digits) zero are below = are.0
AreDigits-at (digit ∷ digits) (suc i) are below = AreDigits-at digits i (are.1) (omega arith)

-- digits and one more
pub AreDigits-push : (digits : List ℕ) (digit : ℕ) → AreDigits digits → IsDigit digit → AreDigits (digits ++ digit ∷ [])
AreDigits-push [] digit are is = (is, tt)
AreDigits-push (first ∷ digits) digit are is = (are.0, AreDigits-push digits digit (are.1) is)

-- the first digits, one more of them
pub AreDigits-more : (digits : List ℕ) (i : ℕ) → i < length digits → AreDigits (take i digits) → IsDigit (get_or digits i 0) → AreDigits (take (i + 1) digits)
AreDigits-more digits i below are is = rw (take_more digits i 0 below) (AreDigits-push (take i digits) (get_or digits i 0) are is)

-- the number of the digits behind n, counted up to a most
pub capped_more : (most n i : ℕ) (digits : List ℕ) → i < length digits → IsDigit (get_or digits i 0) →
    min (min (digits_value_after 10 n (take i digits)) most * 10 + (get_or digits i 0 - 48)) most ≡ min (digits_value_after 10 n (take (i + 1) digits)) most
capped_more most n i digits below is =
    rw (take_more digits i 0 below, digits_value_after-append n (take i digits) (get_or digits i 0 ∷ []), digit_value-digit (get_or digits i 0) is)
    (capped (digits_value_after 10 n (take i digits)) most (get_or digits i 0 - 48))

-- the parts that are cut from a number are the grammar's
pub IsInt-cut : (text : List ℕ) → IsNumber text → IsInt (first_digits (after_minus text))
IsInt-cut text (parts, made) = let P : Parts → Type 0 = λ p. IsInt p.int in subst P (parts_are_cut text parts made) made.is_int

-- the cut fraction is one
pub IsFrac-cut : (text : List ℕ) → IsNumber text → IsFrac (first_frac (after_digits (after_minus text)))
IsFrac-cut text (parts, made) = let P : Parts → Type 0 = λ p. IsFrac p.frac in subst P (parts_are_cut text parts made) made.is_frac

-- the cut exponent is one
pub IsExp-cut : (text : List ℕ) → IsNumber text → IsExp (after_frac (after_digits (after_minus text)))
IsExp-cut text (parts, made) = let P : Parts → Type 0 = λ p. IsExp p.exp in subst P (parts_are_cut text parts made) made.is_exp

-- a fact holds where an option is none
pub none_holds : {X P : Type 0} → (o : Option X) → P → IfNone o P
none_holds None h = h
none_holds (Some x) h = tt
