-- Masks that are joined, cut and taken away.
use Rattle.std.proofs.Common.{◌≡◌, ℕ, ◌-◌, ◌*◌, ◌%◌, ◌^◌, ◌<◌, min, max, Bool, true, false, not, ◌&&◌, ◌||◌, ◌==◌, arith, refl, sym, ap, ◌∙◌, bit_and, bit_or}
use Rattle.std.specs.Int.{bit_at, bit_not, w32}
use Rattle.std.proofs.lemmas.Bool.Decides.{nat_tests}
use Rattle.std.proofs.lemmas.Nat.Bits.{bit_at_and, bit_at_or, bit_at_not, bit_at-lt, bit_at-zero, bit_at_set_same, bit_at_set_other}
use Rattle.node_filter.specs.Masks.{has_slot}

min-one : (a b : ℕ) → a < 2 → b < 2 → (min a b == 1) ≡ (a == 1 && b == 1)
min-one a b l m = grind (arith, nat_tests)

max-one : (a b : ℕ) → a < 2 → b < 2 → (max a b == 1) ≡ (a == 1 || b == 1)
max-one a b l m = grind (arith, nat_tests)

not-one : (a : ℕ) → a < 2 → (1 - a == 1) ≡ not (a == 1)
not-one a l = grind (arith, nat_tests)

-- a slot of both masks
pub slot-and : (a b i : ℕ) → has_slot (bit_and a b) i ≡ (has_slot a i && has_slot b i)
slot-and a b i = ap (λ (n : ℕ). n == 1) (bit_at_and a b i) ∙ min-one (bit_at a i) (bit_at b i) (bit_at-lt a i) (bit_at-lt b i)

-- a slot of one mask or the other
pub slot-or : (a b i : ℕ) → has_slot (bit_or a b) i ≡ (has_slot a i || has_slot b i)
slot-or a b i = ap (λ (n : ℕ). n == 1) (bit_at_or a b i) ∙ max-one (bit_at a i) (bit_at b i) (bit_at-lt a i) (bit_at-lt b i)

-- a slot that a mask doesn't have
pub slot-not : (a i : ℕ) → a < 2 ^ 32 → i < 32 → has_slot (bit_not w32 a) i ≡ not (has_slot a i)
slot-not a i l m = ap (λ (n : ℕ). n == 1) (bit_at_not w32 a i l m) ∙ not-one (bit_at a i) (bit_at-lt a i)

-- no slot
pub slot-none : (i : ℕ) → has_slot 0 i ≡ false
slot-none i = ap (λ (n : ℕ). n == 1) (bit_at-zero i)

wanted : (b w : Bool) → w ≡ true → true ≡ (b || w)
wanted true w e = refl
wanted false w e = sym e

-- a slot that is added
pub slot-added : (mask at : ℕ) (w : Bool) → at < 32 → w ≡ true → has_slot (bit_or mask (1 * 2 ^ at % 2 ^ 32)) at ≡ (has_slot mask at || w)
slot-added mask at w l e = ap (λ (n : ℕ). n == 1) (bit_at_set_same w32 mask at l) ∙ wanted (has_slot mask at) w e

-- and the others
pub slot-beside : (mask at i : ℕ) → at < 32 → (i ≡ at → ⊥) → has_slot (bit_or mask (1 * 2 ^ at % 2 ^ 32)) i ≡ has_slot mask i
slot-beside mask at i l ne = ap (λ (n : ℕ). n == 1) (bit_at_set_other w32 mask at l i ne)
