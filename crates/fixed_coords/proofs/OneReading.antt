-- A spelling has one reading.
use Rattle.std.proofs.Common.{◌≡◌, ℕ, ◌^◌, ◌<◌, ◌≤◌, ℤ, List, Result, Ok, Err, true, false, refl, ap, sym, ◌∙◌, arith}
use Rattle.std.specs.Prelude.{unsigned_abs, nat_le, if◌then◌else◌}
use Rattle.std.proofs.lemmas.Bool.Decides.{nat_tests}
use Rattle.number_grammar.specs.Number.{Parts, IsMadeOf}
use Rattle.number_grammar.proofs.Cuts.{one_set_of_parts}
use Rattle.fixed_coords.specs.declared.fault.NumberFault.{NumberFault}
use Rattle.fixed_coords.specs.declared.fault.NumberFault.TheVariants.{NotANumber, TooLong, TooBig, OutOfRange}
use Rattle.fixed_coords.specs.Fixed.{size, fixed, IsReading, IsReadingWithin}

-- the size of a number is one
one_size : (bytes : List ℕ) (p q : Parts) → IsMadeOf bytes p → IsMadeOf bytes q → size p ≡ size q
one_size bytes p q as_p as_q = ap size (one_set_of_parts bytes p q as_p as_q)

-- a number that is read isn't too big
not_too_big : (bytes : List ℕ) (p q : Parts) → IsMadeOf bytes p → IsMadeOf bytes q → size p ≤ 10 ^ 12 → 10 ^ 12 < size q → ⊥
not_too_big bytes p q as_p as_q small big = omega (arith, one_size bytes p q as_p as_q)

-- two readings of one spelling are one
pub one_reading : (bytes : List ℕ) (one other : Result ℤ NumberFault) → IsReading bytes one → IsReading bytes other → one ≡ other
one_reading bytes (Ok v) (Ok w) (short, (p, as_p, small_p, is_p)) (also, (q, as_q, small_q, is_q)) = ap Ok (is_p ∙ ap fixed (one_set_of_parts bytes p q as_p as_q) ∙ sym is_q)
one_reading bytes (Ok v) (Err NotANumber) (short, (p, as_p, small, is)) (also, none) = absurd (none (p, as_p))
one_reading bytes (Ok v) (Err TooLong) (short, read) long = absurd (omega arith)
one_reading bytes (Ok v) (Err TooBig) (short, (p, as_p, small, is)) (also, (q, as_q, big)) = absurd (not_too_big bytes p q as_p as_q small big)
one_reading bytes (Err NotANumber) (Ok w) (short, none) (also, (q, as_q, small, is)) = absurd (none (q, as_q))
one_reading bytes (Err NotANumber) (Err NotANumber) one other = refl
one_reading bytes (Err NotANumber) (Err TooLong) (short, none) long = absurd (omega arith)
one_reading bytes (Err NotANumber) (Err TooBig) (short, none) (also, (q, as_q, big)) = absurd (none (q, as_q))
one_reading bytes (Err TooLong) (Ok w) long (short, read) = absurd (omega arith)
one_reading bytes (Err TooLong) (Err NotANumber) long (short, none) = absurd (omega arith)
one_reading bytes (Err TooLong) (Err TooLong) one other = refl
one_reading bytes (Err TooLong) (Err TooBig) long (short, read) = absurd (omega arith)
one_reading bytes (Err TooBig) (Ok w) (short, (p, as_p, big)) (also, (q, as_q, small, is)) = absurd (not_too_big bytes q p as_q as_p small big)
one_reading bytes (Err TooBig) (Err NotANumber) (short, (p, as_p, big)) (also, none) = absurd (none (p, as_p))
one_reading bytes (Err TooBig) (Err TooLong) (short, read) long = absurd (omega arith)
one_reading bytes (Err TooBig) (Err TooBig) one other = refl
one_reading bytes (Err OutOfRange) other impossible also = absurd impossible
one_reading bytes one (Err OutOfRange) also impossible = absurd impossible

-- a reading, held to a range
abbrev limited : ℕ → Result ℤ NumberFault → Result ℤ NumberFault
limited most (Ok value) = if nat_le (unsigned_abs value) most then Ok value else Err OutOfRange
limited most (Err fault) = Err fault

-- a coordinate's reading is the spelling's, held to its range
within_is_limited : (most : ℕ) (bytes : List ℕ) (answer : Result ℤ NumberFault) → IsReadingWithin most bytes answer → (read : Result ℤ NumberFault) × IsReading bytes read × (answer ≡ limited most read)
within_is_limited most bytes (Ok value) (read, small) = (Ok value, read, let test : nat_le (unsigned_abs value) most ≡ true = grind (arith, nat_tests) in rw test refl)
within_is_limited most bytes (Err NotANumber) read = (Err NotANumber, read, refl)
within_is_limited most bytes (Err TooLong) read = (Err TooLong, read, refl)
within_is_limited most bytes (Err TooBig) read = (Err TooBig, read, refl)
within_is_limited most bytes (Err OutOfRange) (value, read, big) = (Ok value, read, let test : nat_le (unsigned_abs value) most ≡ false = grind (arith, nat_tests) in rw test refl)

-- two readings of one coordinate are one
pub one_coordinate : (most : ℕ) (bytes : List ℕ) (one other : Result ℤ NumberFault) → IsReadingWithin most bytes one → IsReadingWithin most bytes other → one ≡ other
one_coordinate most bytes one other as_one as_other =
    let first = within_is_limited most bytes one as_one in
    let second = within_is_limited most bytes other as_other in
    first.2 ∙ ap (limited most) (one_reading bytes first.0 second.0 first.1 second.1) ∙ sym second.2
