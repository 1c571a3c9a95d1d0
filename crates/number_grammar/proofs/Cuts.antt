-- A number has one set of parts, which `cut` finds.
use Rattle.std.proofs.Common.{◌≡◌, ℕ, ◌<◌, ◌≢◌, List, [], ◌∷◌, ◌++◌, true, false, refl, ap, sym, ◌∙◌, inl, inr, arith, rules}
use Rattle.std.specs.Prelude.{◌==◌, ◌⊎◌, ⊤}
use Rattle.std.specs.Char.{is_ascii_digit}
use Rattle.std.proofs.lemmas.Bool.Decides.{nat_tests}
use Rattle.number_grammar.specs.Number.{IsDigit, AreDigits, IsDigits, IsMinus, IsInt, IsFrac, IsExp, Parts, IsMadeOf}
use Rattle.number_grammar.specs.Cut.{first_digits, after_digits, first_minus, after_minus, first_frac, after_frac, cut}

-- no digit stands first
abbrev pub NoDigitFirst : List ℕ → Type 0
NoDigitFirst [] = ⊤
NoDigitFirst (byte ∷ rest) = is_ascii_digit byte ≡ false

-- what the test of a digit says
pub digit_tells : (byte : ℕ) → ((is_ascii_digit byte ≡ true) × IsDigit byte) ⊎ ((is_ascii_digit byte ≡ false) × ((byte < 48) ⊎ (57 < byte)))
digit_tells byte = grind (arith, nat_tests)

-- what a comparison says
pub is_readable : (a b : ℕ) → (((a == b) ≡ true) × (a ≡ b)) ⊎ (((a == b) ≡ false) × (a ≢ b))
is_readable a b = grind (arith, nat_tests)

-- a byte of the grammar's digits passes the test
pub is_digit : (byte : ℕ) → IsDigit byte → is_ascii_digit byte ≡ true
is_digit byte h = grind (arith, nat_tests)

-- the digits that stand first, and what follows them, are all
pub first-after_digits : (bytes : List ℕ) → first_digits bytes ++ after_digits bytes ≡ bytes
first-after_digits [] = refl
first-after_digits (byte ∷ rest) = elim (digit_tells byte) [
  | inl digit ↦ rw (digit.0) (ap (λ xs. byte ∷ xs) (first-after_digits rest))
  | inr other ↦ rw (other.0) refl
]

-- the digits that stand first are digits
pub AreDigits-first_digits : (bytes : List ℕ) → AreDigits (first_digits bytes)
AreDigits-first_digits [] = search rules
AreDigits-first_digits (byte ∷ rest) = elim (digit_tells byte) [
  | inl digit ↦ rw (digit.0) (digit.1, AreDigits-first_digits rest)
  | inr other ↦ rw (other.0) (search rules)
]

-- where no digit stands first, none is taken
pub first_digits-none : (bytes : List ℕ) → NoDigitFirst bytes → first_digits bytes ≡ []
first_digits-none [] h = refl
first_digits-none (byte ∷ rest) h = rw h refl

-- and all is left
pub after_digits-none : (bytes : List ℕ) → NoDigitFirst bytes → after_digits bytes ≡ bytes
after_digits-none [] h = refl
after_digits-none (byte ∷ rest) h = rw h refl

-- digits before what begins with none are the first digits
pub first_digits-append : (digits rest : List ℕ) → AreDigits digits → NoDigitFirst rest → first_digits (digits ++ rest) ≡ digits
first_digits-append [] rest h n = first_digits-none rest n
first_digits-append (byte ∷ digits) rest h n = rw (is_digit byte (h.0)) (ap (λ xs. byte ∷ xs) (first_digits-append digits rest (h.1) n))

-- and the rest is what follows them
pub after_digits-append : (digits rest : List ℕ) → AreDigits digits → NoDigitFirst rest → after_digits (digits ++ rest) ≡ rest
after_digits-append [] rest h n = after_digits-none rest n
after_digits-append (byte ∷ digits) rest h n = rw (is_digit byte (h.0)) (after_digits-append digits rest (h.1) n)

-- digits are digits
pub AreDigits-IsDigits : (bytes : List ℕ) → IsDigits bytes → AreDigits bytes
AreDigits-IsDigits [] h = search rules
AreDigits-IsDigits (byte ∷ rest) h = h

-- an integer is digits
pub AreDigits-IsInt : (bytes : List ℕ) → IsInt bytes → AreDigits bytes
AreDigits-IsInt [] h = search rules
AreDigits-IsInt (byte ∷ rest) (inl alone) = rw (alone.1) ((omega arith, omega arith), tt)
AreDigits-IsInt (byte ∷ rest) (inr more) = ((omega arith, omega arith), more.2)

-- a fraction or an exponent doesn't begin with a digit
pub NoDigitFirst-frac : (frac exp : List ℕ) → IsFrac frac → IsExp exp → NoDigitFirst (frac ++ exp)
NoDigitFirst-frac [] [] f e = tt
NoDigitFirst-frac [] (byte ∷ rest) f e = grind (arith, nat_tests)
NoDigitFirst-frac (byte ∷ rest) exp f e = grind (arith, nat_tests)

-- an exponent doesn't begin with a digit
pub NoDigitFirst-exp : (exp : List ℕ) → IsExp exp → NoDigitFirst exp
NoDigitFirst-exp [] e = tt
NoDigitFirst-exp (byte ∷ rest) e = grind (arith, nat_tests)

-- a fraction before an exponent is the first fraction
pub first_frac-append : (frac exp : List ℕ) → IsFrac frac → IsExp exp → first_frac (frac ++ exp) ≡ frac
first_frac-append [] [] f e = refl
first_frac-append [] (byte ∷ rest) f e = grind (arith, nat_tests)
first_frac-append (byte ∷ rest) exp f e = let point : (byte == 46) ≡ true = grind (arith, nat_tests) in
    rw point (ap (λ xs. byte ∷ xs) (first_digits-append rest exp (AreDigits-IsDigits rest (f.1)) (NoDigitFirst-exp exp e)))

-- and the exponent is what follows it
pub after_frac-append : (frac exp : List ℕ) → IsFrac frac → IsExp exp → after_frac (frac ++ exp) ≡ exp
after_frac-append [] [] f e = refl
after_frac-append [] (byte ∷ rest) f e = grind (arith, nat_tests)
after_frac-append (byte ∷ rest) exp f e = let point : (byte == 46) ≡ true = grind (arith, nat_tests) in
    rw point (after_digits-append rest exp (AreDigits-IsDigits rest (f.1)) (NoDigitFirst-exp exp e))

-- a sign before an integer is the first sign
pub first_minus-append : (minus int tail : List ℕ) → IsMinus minus → IsInt int → first_minus (minus ++ (int ++ tail)) ≡ minus
first_minus-append [] (byte ∷ rest) tail m i = grind (arith, nat_tests)
first_minus-append (byte ∷ rest) int tail m i = let sign : (byte == 45) ≡ true = grind (arith, nat_tests) in rw sign (ap (λ xs. byte ∷ xs) (sym (m.1)))
first_minus-append [] [] tail m i = absurd i

-- and the integer begins what follows it
pub after_minus-append : (minus int tail : List ℕ) → IsMinus minus → IsInt int → after_minus (minus ++ (int ++ tail)) ≡ int ++ tail
after_minus-append [] (byte ∷ rest) tail m i = grind (arith, nat_tests)
after_minus-append (byte ∷ rest) int tail m i = let sign : (byte == 45) ≡ true = grind (arith, nat_tests) in rw (sign, m.1) refl
after_minus-append [] [] tail m i = absurd i

-- what a number's parts join to is cut into these parts
pub cut-joined : (p : Parts) → IsMinus p.minus → IsInt p.int → IsFrac p.frac → IsExp p.exp → cut (p.minus ++ (p.int ++ (p.frac ++ p.exp))) ≡ p
cut-joined p m i f e =
    let tail : List ℕ = p.frac ++ p.exp in
    let apart : NoDigitFirst (p.frac ++ p.exp) = NoDigitFirst-frac p.frac p.exp f e in
    rw (
      first_minus-append p.minus p.int (p.frac ++ p.exp) m i,
      after_minus-append p.minus p.int (p.frac ++ p.exp) m i,
      first_digits-append p.int (p.frac ++ p.exp) (AreDigits-IsInt p.int i) apart,
      after_digits-append p.int (p.frac ++ p.exp) (AreDigits-IsInt p.int i) apart,
      first_frac-append p.frac p.exp f e,
      after_frac-append p.frac p.exp f e,
    ) refl

-- a number has the parts that `cut` finds, and so one set of parts
pub parts_are_cut : (bytes : List ℕ) (p : Parts) → IsMadeOf bytes p → p ≡ cut bytes
parts_are_cut bytes p made = rw made.whole (sym (cut-joined p made.is_minus made.is_int made.is_frac made.is_exp))

-- a number has one set of parts
pub one_set_of_parts : (bytes : List ℕ) (p q : Parts) → IsMadeOf bytes p → IsMadeOf bytes q → p ≡ q
one_set_of_parts bytes p q as_p as_q = parts_are_cut bytes p as_p ∙ sym (parts_are_cut bytes q as_q)

-- the sign that stands first is one, and what follows it is the rest
pub IsMinus-first_minus : (bytes : List ℕ) → IsMinus (first_minus bytes)
IsMinus-first_minus [] = tt
IsMinus-first_minus (byte ∷ rest) = elim (is_readable byte 45) [
  | inl minus ↦ rw (minus.0) (minus.1, refl)
  | inr other ↦ rw (other.0) tt
]

-- the sign and what follows it are all
pub first-after_minus : (bytes : List ℕ) → first_minus bytes ++ after_minus bytes ≡ bytes
first-after_minus [] = refl
first-after_minus (byte ∷ rest) = elim (is_readable byte 45) [
  | inl minus ↦ rw (minus.0) refl
  | inr other ↦ rw (other.0) refl
]

-- the fraction and what follows it are all
pub first-after_frac : (bytes : List ℕ) → first_frac bytes ++ after_frac bytes ≡ bytes
first-after_frac [] = refl
first-after_frac (byte ∷ rest) = elim (is_readable byte 46) [
  | inl point ↦ rw (point.0) (ap (λ xs. byte ∷ xs) (first-after_digits rest))
  | inr other ↦ rw (other.0) refl
]

-- the parts that `cut` finds join to the bytes
pub cut_joins : (bytes : List ℕ) → bytes ≡ (cut bytes).minus ++ ((cut bytes).int ++ ((cut bytes).frac ++ (cut bytes).exp))
cut_joins bytes = rw (first-after_frac (after_digits (after_minus bytes)), first-after_digits (after_minus bytes)) (sym (first-after_minus bytes))

-- where the other three parts are in the grammar, the bytes are the number of them
pub made_of_cut : (bytes : List ℕ) → IsInt (cut bytes).int → IsFrac (cut bytes).frac → IsExp (cut bytes).exp → IsMadeOf bytes (cut bytes)
made_of_cut bytes i f e = record { whole = cut_joins bytes; is_minus = IsMinus-first_minus bytes; is_int = i; is_frac = f; is_exp = e }
