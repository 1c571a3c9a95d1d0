-- What the reader does part by part and up to a most is the rounding of all digits.
use Rattle.std.proofs.Common.{◌≡◌, ℕ, zero, suc, ◌+◌, ◌-◌, ◌*◌, ◌^◌, ◌<◌, ◌≤◌, min, List, [], ◌∷◌, ◌++◌, length, take, drop, Option, Some, None, refl, ap, sym, ◌∙◌, inl, inr, arith}
use Rattle.std.specs.Prelude.{◌⊎◌}
use Rattle.std.specs.Option.{SomeIff}
use Rattle.std.specs.Str.Parse.{digits_value, digits_value_after}
use Rattle.std.specs.Char.{digit_value}
use Rattle.std.proofs.lemmas.List.{drop_all, length-append, take_min}
use Rattle.std.proofs.lemmas.Bool.{cases_lt}
use Rattle.std.proofs.Math.Nat.{mul-le-mul_left}
use Rattle.fixed_coords.specs.Placed.{round_up, placed}
use Rattle.fixed_coords.proofs.Scaling.{digits_value_after-append, ten_to_positive}
use Rattle.fixed_coords.proofs.Scanning.{capped}

-- nothing of nothing
take-nil : (n : ℕ) → take {A = ℕ} n [] ≡ []
take-nil zero = refl
take-nil (suc n) = refl

-- nothing is left of nothing
drop-nil : (n : ℕ) → drop {A = ℕ} n [] ≡ []
drop-nil zero = refl
drop-nil (suc n) = refl

-- two sizes are one, or both are too big
abbrev pub Same : ℕ → ℕ → Type 0
Same a b = (a ≡ b) ⊎ ((10 ^ 12 < a) × (10 ^ 12 < b))

-- an answer for one of them is right for the other
pub SomeIff-same : (answer : Option ℕ) (a b : ℕ) → Same a b → SomeIff answer (a ≤ 10 ^ 12) a → SomeIff answer (b ≤ 10 ^ 12) b
SomeIff-same None a b (inl one) h = λ small. h (omega arith)
SomeIff-same None a b (inr big) h = λ small. omega arith
SomeIff-same (Some x) a b (inl one) h = (omega arith, h.1 ∙ one)
SomeIff-same (Some x) a b (inr big) h = absurd (omega arith)

-- a front that was cut down to the most gives the same number, cut down to it
capped_front : (most n : ℕ) (digits : List ℕ) → min (digits_value_after 10 (min n most) digits) most ≡ min (digits_value_after 10 n digits) most
capped_front most n [] = omega arith
capped_front most n (digit ∷ digits) =
    sym (capped_front most (min n most * 10 + digit_value digit) digits)
    ∙ ap (λ m. min (digits_value_after 10 m digits) most) (capped n most (digit_value digit))
    ∙ capped_front most (n * 10 + digit_value digit) digits

-- a front of two lists joined is a front of each
take-append_both : (n : ℕ) (xs ys : List ℕ) → take n (xs ++ ys) ≡ take n xs ++ take (n - length xs) ys
take-append_both n [] ys = let all : n - 0 ≡ n = omega arith in rw (all, take-nil n) refl
take-append_both zero (x ∷ xs) ys = let none : 0 - suc (length xs) ≡ 0 = omega arith in rw none refl
take-append_both (suc n) (x ∷ xs) ys = let less : suc n - suc (length xs) ≡ n - length xs = omega arith in rw less (ap (λ zs. x ∷ zs) (take-append_both n xs ys))

-- what is left of two lists joined is what is left of each
drop-append_both : (n : ℕ) (xs ys : List ℕ) → drop n (xs ++ ys) ≡ drop n xs ++ drop (n - length xs) ys
drop-append_both n [] ys = let all : n - 0 ≡ n = omega arith in rw (all, drop-nil n) refl
drop-append_both zero (x ∷ xs) ys = let none : 0 - suc (length xs) ≡ 0 = omega arith in rw none refl
drop-append_both (suc n) (x ∷ xs) ys = let less : suc n - suc (length xs) ≡ n - length xs = omega arith in rw less (drop-append_both n xs ys)

-- a number cut down to the most, with zeros behind it
Same-shifted : (n k : ℕ) → Same (min n (10 ^ 12 + 1) * 10 ^ k) (n * 10 ^ k)
Same-shifted n k = elim (cases_lt (10 ^ 12) n) [
  | inr small ↦ inl (let whole : min n (10 ^ 12 + 1) ≡ n = omega arith in rw whole refl)
  | inl big ↦ inr (
    let most : min n (10 ^ 12 + 1) ≡ 10 ^ 12 + 1 = omega arith in
        let one : 1 ≤ 10 ^ k = ten_to_positive k in
        rw most (omega (arith, one, mul-le-mul_left (10 ^ 12 + 1) one)),
    let one : 1 ≤ 10 ^ k = ten_to_positive k in
        omega (arith, mul-le-mul_left n one),
  )
]

-- a number cut down to the most, rounded
Same-rounded : (n r : ℕ) → Same (min n (10 ^ 12 + 1) + r) (n + r)
Same-rounded n r = elim (cases_lt (10 ^ 12) n) [ inr small ↦ inl (omega arith) | inl big ↦ inr (omega arith, omega arith) ]

-- the digits cut off in both parts
pub round_up-parts : (back rest : List ℕ) → (0 < length back → round_up (back ++ rest) ≡ round_up back) × (length back ≡ 0 → round_up (back ++ rest) ≡ round_up rest)
round_up-parts [] rest = (λ some. absurd (omega arith), λ none. refl)
round_up-parts (digit ∷ back) rest = (λ some. refl, λ none. absurd (omega arith))

-- what both parts give in turn, up to the most
pub front_value : (whole fraction : List ℕ) (point : ℕ) → min (digits_value_after 10 (min (digits_value 10 (take (min point (length whole)) whole)) (10 ^ 12 + 1)) (take (min (point - length whole) (length fraction)) fraction)) (10 ^ 12 + 1) ≡ min (digits_value 10 (take point (whole ++ fraction))) (10 ^ 12 + 1)
front_value whole fraction point =
    rw (take_min point whole, take_min (point - length whole) fraction, capped_front (10 ^ 12 + 1) (digits_value 10 (take point whole)) (take (point - length whole) fraction), take-append_both point whole fraction)
    (ap (λ n. min n (10 ^ 12 + 1)) (sym (digits_value_after-append 0 (take point whole) (take (point - length whole) fraction))))

-- the point behind all digits: zeros follow
pub Same-behind : (whole fraction : List ℕ) (point size : ℕ) → size ≡ min (digits_value 10 (take point (whole ++ fraction))) (10 ^ 12 + 1) → length fraction < point - length whole →
    Same (size * 10 ^ (point - length whole - length fraction)) (placed (whole ++ fraction) point)
Same-behind whole fraction point size counted behind =
    let joined : length (whole ++ fraction) ≡ length whole + length fraction = length-append whole fraction in
    let more : point - length (whole ++ fraction) ≡ point - length whole - length fraction = omega arith in
    let none : drop point (whole ++ fraction) ≡ [] = drop_all point (whole ++ fraction) (omega arith) in
    let same : Same (min (digits_value 10 (take point (whole ++ fraction))) (10 ^ 12 + 1) * 10 ^ (point - length whole - length fraction)) (digits_value 10 (take point (whole ++ fraction)) * 10 ^ (point - length whole - length fraction)) =
    Same-shifted (digits_value 10 (take point (whole ++ fraction))) (point - length whole - length fraction) in
    let exact : digits_value 10 (take point (whole ++ fraction)) * 10 ^ (point - length whole - length fraction) + 0 ≡ digits_value 10 (take point (whole ++ fraction)) * 10 ^ (point - length whole - length fraction) = omega arith in
    rw (counted, more, none, exact) same

-- the point among the digits: the digit behind it rounds
pub Same-among : (whole fraction cut : List ℕ) (point size : ℕ) → size ≡ min (digits_value 10 (take point (whole ++ fraction))) (10 ^ 12 + 1) → point - length whole ≤ length fraction →
    round_up (drop point whole ++ drop (point - length whole) fraction) ≡ round_up cut → Same (size + round_up cut) (placed (whole ++ fraction) point)
Same-among whole fraction cut point size counted among same_cut =
    let joined : length (whole ++ fraction) ≡ length whole + length fraction = length-append whole fraction in
    let none : point - length (whole ++ fraction) ≡ 0 = omega arith in
    let same : Same (min (digits_value 10 (take point (whole ++ fraction))) (10 ^ 12 + 1) + round_up cut) (digits_value 10 (take point (whole ++ fraction)) + round_up cut) = Same-rounded (digits_value 10 (take point (whole ++ fraction))) (round_up cut) in
    let exact : digits_value 10 (take point (whole ++ fraction)) * 10 ^ 0 + round_up cut ≡ digits_value 10 (take point (whole ++ fraction)) + round_up cut = omega arith in
    rw (counted, none, drop-append_both point whole fraction, same_cut, exact) same
