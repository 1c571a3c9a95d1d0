-- A spelling is read as it is defined.
use Rattle.std.proofs.Common.{◌≡◌, ℕ, ◌^◌, ◌<◌, ◌≤◌, ℤ, Bool, true, false, List, length, Result, Ok, Err, refl, ap, ◌∙◌, subst, arith, nat_lt}
use Rattle.std.proofs.lemmas.Bool.Decides.{nat_tests}
use Rattle.number_grammar.specs.Number.{Parts}
use Rattle.number_grammar.specs.Cut.{cut}
use Rattle.number_grammar.specs.Tests.{is_number}
use Rattle.number_grammar.proofs.Cuts.{parts_are_cut}
use Rattle.number_grammar.proofs.Tests.{number_passes, passed_number}
use Rattle.fixed_coords.specs.Fixed.{size, fixed, IsReading}
use Rattle.fixed_coords.specs.declared.fault.NumberFault.{NumberFault}
use Rattle.fixed_coords.specs.declared.fault.NumberFault.TheVariants.{NotANumber, TooLong, TooBig, OutOfRange}
use Rattle.query_lang.specs.Degrees.{reading_of}

fails : (test : Bool) → (test ≡ true → ⊥) → test ≡ false
fails true h = absurd (h refl)
fails false h = refl

-- a reading is the one that is defined
pub reading_is : (bytes : List ℕ) (answer : Result ℤ NumberFault) → IsReading bytes answer → answer ≡ reading_of bytes
unfolding reading_of
reading_is bytes (Ok value) (short, (parts, made, small, is)) =
    let a : nat_lt 64 (length bytes) ≡ false = grind (arith, nat_tests) in
    let same = parts_are_cut bytes parts made in
    let fits : size (cut bytes) ≤ 10 ^ 12 = subst (λ (p : Parts). size p ≤ 10 ^ 12) same small in
    let b : nat_lt (10 ^ 12) (size (cut bytes)) ≡ false = grind (arith, nat_tests) in
    rw (a, number_passes bytes parts made, b) (ap Ok (is ∙ ap fixed same))
reading_is bytes (Err NotANumber) (short, none) =
    let a : nat_lt 64 (length bytes) ≡ false = grind (arith, nat_tests) in
    rw (a, fails (is_number bytes) (λ h. none (cut bytes, passed_number bytes h))) refl
reading_is bytes (Err TooLong) long =
    let a : nat_lt 64 (length bytes) ≡ true = grind (arith, nat_tests) in
    rw a refl
reading_is bytes (Err TooBig) (short, (parts, made, big)) =
    let a : nat_lt 64 (length bytes) ≡ false = grind (arith, nat_tests) in
    let exceeds : 10 ^ 12 < size (cut bytes) = subst (λ (p : Parts). 10 ^ 12 < size p) (parts_are_cut bytes parts made) big in
    let b : nat_lt (10 ^ 12) (size (cut bytes)) ≡ true = grind (arith, nat_tests) in
    rw (a, number_passes bytes parts made, b) refl
reading_is bytes (Err OutOfRange) impossible = absurd impossible
