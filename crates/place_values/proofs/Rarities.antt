-- The weight of a word, by a logarithm.
use Rattle.std.proofs.Common.{◌≡◌, ℕ, zero, suc, ◌+◌, ◌*◌, ◌^◌, ◌/◌, ◌<◌, ◌≤◌, ◌⊎◌, min, Bool, true, false, nat_le, nat_eq, refl, ap, sym, ◌∙◌, subst, arith}
use mathlib.Core.Logic.{inl, inr}
use Rattle.std.proofs.lemmas.Bool.{false≢true, le-leb, leb-true, cases_lt}
use Rattle.std.proofs.lemmas.Bool.Decides.{nat_tests}
use Rattle.std.proofs.Math.Nat.{le-div_iff_mul-le, two-pow-succ}
use Rattle.std.proofs.Math.Pow.{pow_mono}
use Rattle.place_values.specs.Rarity.{greatest, rarity}

-- one step down from the greatest bound
step_down : (meets : ℕ → Bool) (n k : ℕ) (last : Bool) → meets (suc n) ≡ last → (k < suc n) ⊎ (suc n ≤ k) → k ≤ suc n → (1 ≤ k → meets k ≡ true) → ((j : ℕ) → k < j → j ≤ suc n → meets j ≡ false)
    → (k ≤ n → greatest meets n ≡ k) → greatest meets (suc n) ≡ k
step_down meets n k true is (inl less) few here above below = absurd (false≢true (sym (above (suc n) less (omega arith)) ∙ is))
step_down meets n k true is (inr most) few here above below = rw is (omega (arith, few, most))
step_down meets n k false is (inl less) few here above below = rw is (below (omega (arith, less)))
step_down meets n k false is (inr most) few here above below =
    let same : k ≡ suc n = omega (arith, few, most) in
    absurd (false≢true (sym is ∙ subst (λ m. meets m ≡ true) same (here (omega (arith, most)))))

-- the greatest number is the one behind which none meets the condition
greatest_is : (meets : ℕ → Bool) (n k : ℕ) → k ≤ n → (1 ≤ k → meets k ≡ true) → ((j : ℕ) → k < j → j ≤ n → meets j ≡ false) → greatest meets n ≡ k
greatest_is meets zero k few here above = omega (arith, few)
greatest_is meets (suc n) k few here above =
    step_down meets n k (meets (suc n)) refl (cases_lt k (suc n)) few here above (λ few. greatest_is meets n k few here (λ j more within. above j more (omega (arith, within))))

-- so many doublings stay within all
fits_below : (live count e j : ℕ) → 0 < count → 2 ^ e ≤ live / count → j ≤ e → nat_le (count * 2 ^ j) live ≡ true
fits_below live count e j some low few =
    let up : 2 ^ j ≤ 2 ^ e = pow_mono few in
    let within : 2 ^ j * count ≤ live = (le-div_iff_mul-le {k = count} {x = 2 ^ j} {y = live} some).0 (omega (arith, up, low)) in
    le-leb (count * 2 ^ j) live (omega (arith, within))

-- and more don't
fits_none : (live count e j : ℕ) → 0 < count → live / count < 2 * 2 ^ e → e < j → (fits : Bool) → nat_le (count * 2 ^ j) live ≡ fits → fits ≡ false
fits_none live count e j some high more false is = refl
fits_none live count e j some high more true is =
    let fits : 2 ^ j ≤ live / count = (le-div_iff_mul-le {k = count} {x = 2 ^ j} {y = live} some).1 (omega (arith, leb-true (count * 2 ^ j) live is)) in
    let up : 2 ^ suc e ≤ 2 ^ j = pow_mono more in
    let double : 2 ^ suc e ≡ 2 ^ e + 2 ^ e = two-pow-succ e in
    absurd (omega (arith, fits, up, double, high))

-- the weight of a word that some place holds is one more than the number of doublings, at most 19
pub weighed : (live count e m : ℕ) → (count ≡ 0 → ⊥) → 2 ^ e ≤ live / count → live / count < 2 * 2 ^ e → m ≡ min e 19 → 1 + m ≡ rarity live count
weighed live count e m some low high is =
    let none : nat_eq count 0 ≡ false = grind (arith, nat_tests) in
    let more : 0 < count = grind (arith, nat_tests) in
    let doubled : greatest (λ e. nat_le (count * 2 ^ e) live) 19 ≡ min e 19 =
    greatest_is (λ e. nat_le (count * 2 ^ e) live) 19 (min e 19) (omega arith) (λ some. fits_below live count e (min e 19) more low (omega arith))
    (λ j over within. fits_none live count e j more high (omega (arith, over, within)) (nat_le (count * 2 ^ j) live) refl) in
    rw none (ap (λ w. 1 + w) (is ∙ sym doubled))
