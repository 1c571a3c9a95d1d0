-- Each spelling has a reading.
use Rattle.std.proofs.Common.{◌≡◌, ℕ, zero, suc, ◌^◌, ◌<◌, ◌≤◌, ◌⊎◌, ℤ, List, [], ◌∷◌, ◌++◌, length, Option, Some, None, Result, Ok, Err, refl, ap, arith, inl, inr, length-append}
use Rattle.std.specs.Prelude.{unsigned_abs}
use Rattle.std.proofs.Math.Logic.{⊎_elim}
use Rattle.number_grammar.specs.Number.{IsDigits, IsInt, IsNumber}
use Rattle.number_grammar.specs.Stages.{Continues, next_stage}
use Rattle.number_grammar.specs.declared.stage.Stage.{Stage}
use Rattle.number_grammar.specs.declared.stage.Stage.TheVariants.{Start, Minus, Zero, Whole, Point, Fraction, Letter, Sign, Exponent}
use Rattle.number_grammar.proofs.StageSteps.{Steps, Steps-next_stage}
use Rattle.fixed_coords.specs.Fixed.{size, fixed, IsReading, IsReadingWithin}
use Rattle.fixed_coords.specs.declared.fault.NumberFault.{NumberFault}
use Rattle.fixed_coords.specs.declared.fault.NumberFault.TheVariants.{NotANumber, TooLong, TooBig, OutOfRange}

-- of two numbers the first is no greater, or the second is less
pub at_most : (m n : ℕ) → (m ≤ n) ⊎ (n < m)
at_most zero n = inl (omega arith)
at_most (suc m) zero = inr (omega arith)
at_most (suc m) (suc n) = ⊎_elim (λ h. inl (omega arith)) (λ h. inr (omega arith)) (at_most m n)

-- an integer has a digit
int_some : (int : List ℕ) → IsInt int → 1 ≤ length int
int_some [] h = absurd h
int_some (byte ∷ rest) h = omega arith

-- digits that have to be there are some
digits_some : (digits : List ℕ) → IsDigits digits → 1 ≤ length digits
digits_some [] h = absurd h
digits_some (byte ∷ rest) h = omega arith

-- nothing is no number, and goes on with none
no_front : (int rest : List ℕ) → [] ≡ int ++ rest → IsInt int → ⊥
no_front int rest e h = omega (arith, ap length e, length-append int rest, int_some int h)

no_number : IsNumber [] → ⊥
no_number (parts, made) =
    omega (arith, ap length made.whole, length-append parts.minus (parts.int ++ (parts.frac ++ parts.exp)), length-append parts.int (parts.frac ++ parts.exp), int_some parts.int made.is_int)

-- a number may end at a stage, or may not
ends_or_not : (stage : Stage) → Continues stage [] ⊎ (Continues stage [] → ⊥)
ends_or_not Start = inr no_number
ends_or_not Minus = inr (λ (int, frac, exp, e, h, f, x). no_front int (frac ++ exp) e h)
ends_or_not Zero = inl ([], [], refl, tt, tt)
ends_or_not Whole = inl ([], [], [], refl, tt, tt, tt)
ends_or_not Point = inr (λ (digits, exp, e, h, x). omega (arith, ap length e, length-append digits exp, digits_some digits h))
ends_or_not Fraction = inl ([], [], refl, tt, tt)
ends_or_not Letter = inr (λ h. h)
ends_or_not Sign = inr (λ h. h)
ends_or_not Exponent = inl tt

-- a number goes on with a byte, or doesn't
goes_or_not : (stage : Stage) (byte : ℕ) (bytes : List ℕ) (answer : Option Stage) → Steps stage byte answer
    → ((next : Stage) → Continues next bytes ⊎ (Continues next bytes → ⊥)) → Continues stage (byte ∷ bytes) ⊎ (Continues stage (byte ∷ bytes) → ⊥)
goes_or_not stage byte bytes (Some next) steps rest = ⊎_elim (λ h. inl ((steps bytes).1 h)) (λ no. inr (λ h. no ((steps bytes).0 h))) (rest next)
goes_or_not stage byte bytes None steps rest = inr (steps bytes)

-- bytes go on with a number to its end, or don't
number_or_not : (bytes : List ℕ) (stage : Stage) → Continues stage bytes ⊎ (Continues stage bytes → ⊥)
number_or_not [] stage = ends_or_not stage
number_or_not (byte ∷ bytes) stage = goes_or_not stage byte bytes (next_stage stage byte) (Steps-next_stage stage byte) (λ next. number_or_not bytes next)

-- a reading of a spelling
some_reading : (bytes : List ℕ) → (read : Result ℤ NumberFault) × IsReading bytes read
some_reading bytes = elim (at_most (length bytes) 64) [
  | inl short ↦ elim (number_or_not bytes Start) [
    | inl number ↦ elim (at_most (size number.0) (10 ^ 12)) [
      | inl small ↦ (Ok (fixed number.0), (short, (number.0, number.1, small, refl)))
      | inr big ↦ (Err TooBig, (short, (number.0, number.1, big)))
    ]
    | inr none ↦ (Err NotANumber, (short, none))
  ]
  | inr long ↦ (Err TooLong, long)
]

-- the same held to a range
held : (most : ℕ) (bytes : List ℕ) (read : Result ℤ NumberFault) → IsReading bytes read → (within : Result ℤ NumberFault) × IsReadingWithin most bytes within
held most bytes (Ok value) h = elim (at_most (unsigned_abs value) most) [
  | inl small ↦ (Ok value, (h, small))
  | inr big ↦ (Err OutOfRange, (value, h, big))
]
held most bytes (Err NotANumber) h = (Err NotANumber, h)
held most bytes (Err TooLong) h = (Err TooLong, h)
held most bytes (Err TooBig) h = (Err TooBig, h)
held most bytes (Err OutOfRange) h = absurd h

-- a reading of a coordinate
pub some_coordinate : (most : ℕ) (bytes : List ℕ) → (read : Result ℤ NumberFault) × IsReadingWithin most bytes read
some_coordinate most bytes = let read = some_reading bytes in held most bytes read.0 read.1
