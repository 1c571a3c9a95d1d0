-- The size that the reader finds is the size of the number's parts, or both are too big.
use Rattle.std.proofs.Common.{◌≡◌, ℕ, zero, suc, ◌+◌, ◌-◌, ◌*◌, ◌^◌, ◌<◌, ◌≤◌, min, ℤ, pos, negsuc, neg_ℤ, List, [], ◌∷◌, ◌++◌, length, drop, Bool, true, false, refl, ap, sym, ◌∙◌, inl, inr, arith}
use Rattle.std.specs.Prelude.{◌+ℤ◌, ◌-ℤ◌, if◌then◌else◌}
use Rattle.std.specs.Str.Parse.{digits_value, without_leading_sign}
use Rattle.std.proofs.lemmas.Bool.{cases_lt}
use Rattle.std.proofs.lemmas.Int.{ints}
use Rattle.std.proofs.lemmas.List.{length-append, length-drop, take_all, drop_all}
use Rattle.number_grammar.specs.Number.{AreDigits, IsFrac, Parts, IsMadeOf}
use Rattle.number_grammar.proofs.Cuts.{AreDigits-IsInt, AreDigits-IsDigits}
use Rattle.fixed_coords.specs.declared.number.Number.{Number}
use Rattle.fixed_coords.specs.Fixed.{scaled, mantissa, exponent, power, size, signed, fixed}
use Rattle.fixed_coords.specs.Placed.{placed, moved_point, size_at}
use Rattle.fixed_coords.specs.Spelled.{IsNumberOf, minus_of}
use Rattle.fixed_coords.proofs.Scaling.{scaled-small, scaled-placed_below, scaled-placed_above, many_zeros, lt_tells}
use Rattle.fixed_coords.proofs.Rounding.{Same}

-- a power of ten that moves the point to a place among the digits or behind them
scaled_at : (digits : List ℕ) → AreDigits digits → (z : ℤ) (point : ℕ) → z ≡ (pos point -ℤ pos (length digits)) → scaled (digits_value 10 digits) z ≡ placed digits point
scaled_at digits are z point e = elim (cases_lt point (length digits)) [
  | inl among ↦ let z_is : z ≡ negsuc (length digits - point - 1) = omega (arith, ints) in rw z_is (scaled-placed_below digits are point (length digits - point - 1) (omega arith))
  | inr behind ↦
      let z_is : z ≡ pos (point - length digits) = omega (arith, ints) in
      let back : length digits + (point - length digits) ≡ point = omega arith in
      rw z_is (scaled-placed_above digits (point - length digits) ∙ ap (placed digits) back)
]

-- a product with a power of ten that isn't negative is whole
scaled-up : (m k : ℕ) → scaled m (pos k) ≡ m * 10 ^ k
unfolding scaled
scaled-up m k = refl

-- a number that is 0, or one with so many zeros that it is too big
Same-large : (n k j : ℕ) → 13 ≤ k → 13 ≤ j → Same (n * 10 ^ k) (n * 10 ^ j)
Same-large zero k j far too = inl (omega arith)
Same-large (suc n) k j far too = inr (many_zeros (suc n) k (omega arith) far, many_zeros (suc n) j (omega arith) too)

-- the point far behind the digits
Same-far : (digits : List ℕ) (point k : ℕ) → length digits + 13 ≤ point → 13 ≤ k → Same (placed digits point) (digits_value 10 digits * 10 ^ k)
Same-far digits point k far large =
    let exact : digits_value 10 digits * 10 ^ (point - length digits) + 0 ≡ digits_value 10 digits * 10 ^ (point - length digits) = omega arith in
    rw (take_all point digits (omega arith), drop_all point digits (omega arith), exact) (Same-large (digits_value 10 digits) (point - length digits) k (omega arith) large)

-- an exponent that stands still at 1000 gives the same size as the whole exponent
Same-sizes : (digits : List ℕ) → AreDigits digits → (whole fraction e : ℕ) (negative : Bool) → length digits ≡ whole + fraction → whole + fraction ≤ 64 →
    Same (size_at digits (moved_point whole negative (min e 1000))) (scaled (digits_value 10 digits) (((if negative then neg_ℤ (pos e) else pos e) -ℤ pos fraction) +ℤ pos 7))
Same-sizes digits are whole fraction e true parts short = elim (lt_tells (whole + 7) (min e 1000)) [
  | inl before ↦
      let z_is : ((neg_ℤ (pos e) -ℤ pos fraction) +ℤ pos 7) ≡ negsuc (length digits + (e - whole - 8)) = omega (arith, ints) in
      rw (before.0, z_is) (inl (sym (scaled-small digits are (e - whole - 8))))
  | inr among ↦
      let e_is : min e 1000 ≡ e = omega arith in
      let z_is : ((neg_ℤ (pos e) -ℤ pos fraction) +ℤ pos 7) ≡ (pos (whole + 7 - e) -ℤ pos (length digits)) = omega (arith, ints) in
      let point : whole + 7 - min e 1000 ≡ whole + 7 - e = omega arith in
      rw (among.0, point) (inl (sym (scaled_at digits are ((neg_ℤ (pos e) -ℤ pos fraction) +ℤ pos 7) (whole + 7 - e) z_is)))
]
Same-sizes digits are whole fraction e false parts short = elim (cases_lt 1000 e) [
  | inl far ↦
      let z_is : ((pos e -ℤ pos fraction) +ℤ pos 7) ≡ pos (e + 7 - fraction) = omega (arith, ints) in
      let e_is : min e 1000 ≡ 1000 = omega arith in
      rw (e_is, z_is, scaled-up (digits_value 10 digits) (e + 7 - fraction)) (Same-far digits (whole + 7 + 1000) (e + 7 - fraction) (omega arith) (omega arith))
  | inr near ↦
      let e_is : min e 1000 ≡ e = omega arith in
      let z_is : ((pos e -ℤ pos fraction) +ℤ pos 7) ≡ (pos (whole + 7 + e) -ℤ pos (length digits)) = omega (arith, ints) in
      rw e_is (inl (sym (scaled_at digits are ((pos e -ℤ pos fraction) +ℤ pos 7) (whole + 7 + e) z_is)))
]

-- the digits of a fraction
AreDigits-frac : (frac : List ℕ) → IsFrac frac → AreDigits (drop 1 frac)
AreDigits-frac [] is = tt
AreDigits-frac (point ∷ digits) is = AreDigits-IsDigits digits (is.1)

-- digits before digits
AreDigits-append : (digits more : List ℕ) → AreDigits digits → AreDigits more → AreDigits (digits ++ more)
AreDigits-append [] more are also = also
AreDigits-append (digit ∷ digits) more are also = (are.0, AreDigits-append digits more (are.1) also)

-- what `size_of` requires of a number that was read
whole_digits : (number : Number) (parts : Parts) (text : List ℕ) → IsMadeOf text parts → IsNumberOf number parts → AreDigits number.whole.now
whole_digits number parts text made is = rw is.int (AreDigits-IsInt parts.int made.is_int)

-- the digits behind the point
fraction_digits : (number : Number) (parts : Parts) (text : List ℕ) → IsMadeOf text parts → IsNumberOf number parts → AreDigits number.fraction.now
fraction_digits number parts text made is = rw is.frac (AreDigits-frac parts.frac made.is_frac)

-- no more digits than bytes
short_parts : (number : Number) (parts : Parts) (text : List ℕ) → IsMadeOf text parts → IsNumberOf number parts → length number.whole.now + length number.fraction.now ≤ length text
short_parts number parts text made is =
    let joined : length text ≡ length (parts.minus ++ (parts.int ++ (parts.frac ++ parts.exp))) = ap length made.whole in
    let sum : length text ≡ length parts.minus + (length parts.int + (length parts.frac + length parts.exp)) = simp length-append at joined in
    rw (is.int, is.frac) (omega (arith, length-drop 1 parts.frac))

-- the size of a number's parts, by what was read of them
size-parts : (number : Number) (parts : Parts) → IsNumberOf number parts → size parts ≡ scaled (digits_value 10 (number.whole.now ++ number.fraction.now))
    (((if number.exponent.negative then neg_ℤ (pos (digits_value 10 (without_leading_sign (drop 1 parts.exp)))) else pos (digits_value 10 (without_leading_sign (drop 1 parts.exp)))) -ℤ pos (length number.fraction.now)) +ℤ pos 7)
unfolding size mantissa exponent power
size-parts number parts is = rw (is.int, is.frac, is.exp.sign) refl

-- the size that `size_of` finds
pub Same-read : (number : Number) (parts : Parts) (text : List ℕ) → IsMadeOf text parts → IsNumberOf number parts → length text ≤ 64 →
    Same (size_at (number.whole.now ++ number.fraction.now) (moved_point (length number.whole.now) number.exponent.negative number.exponent.size)) (size parts)
Same-read number parts text made is short =
    let few : length number.whole.now + length number.fraction.now ≤ 64 = omega (arith, short_parts number parts text made is) in
    rw (size-parts number parts is, is.exp.size)
    (Same-sizes (number.whole.now ++ number.fraction.now)
    (AreDigits-append number.whole.now number.fraction.now (whole_digits number parts text made is) (fraction_digits number parts text made is))
    (length number.whole.now) (length number.fraction.now) (digits_value 10 (without_leading_sign (drop 1 parts.exp))) number.exponent.negative
    (length-append number.whole.now number.fraction.now) few)

-- a number that isn't at most another is above it
pub above : (a b : ℕ) → (a ≤ b → ⊥) → b < a
above a b not_below = elim (cases_lt b a) [ inl over ↦ over | inr under ↦ absurd (not_below under) ]

-- a size with the sign that was read
signed-read : (negative : Bool) (n : ℕ) (minus : List ℕ) → minus ≡ minus_of negative → (if negative then neg_ℤ (pos n) else pos n) ≡ signed minus n
signed-read true n minus is = rw is refl
signed-read false n minus is = rw is refl

-- the value of a number, by its sign and its size
pub fixed-read : (negative : Bool) (n : ℕ) (parts : Parts) → parts.minus ≡ minus_of negative → n ≡ size parts → (if negative then neg_ℤ (pos n) else pos n) ≡ fixed parts
unfolding fixed
fixed-read negative n parts minus found = signed-read negative n parts.minus minus ∙ ap (signed parts.minus) found
