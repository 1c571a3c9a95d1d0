-- Whether a search starts with the root.
use Rattle.std.proofs.Common.{◌≡◌, ℕ, zero, suc, ◌^◌, ◌<◌, Bool, true, false, not, ◌||◌, ◌==◌, [], ◌∷◌, refl, sym, ap, ◌∙◌, arith, ⊎_elim, lit<}
use Rattle.std.specs.Int.{bit_at}
use Rattle.std.proofs.lemmas.Bool.{cases_Bool}
use Rattle.std.proofs.lemmas.Bool.Decides.{nat_tests}
use Rattle.std.proofs.lemmas.Nat.Bits.{same_from_bits_below, bit_at-lt, bit_at-zero}
use Rattle.best_first.specs.declared.item.Item.TheVariants.{Node}
use Rattle.node_filter.specs.Masks.{has_slot}
use Rattle.node_filter.proofs.Marking.{slot-none}
use Rattle.best_first.specs.NodeOpenings.{some_below, first_in}
use Rattle.best_first.specs.Trees.{none-below}

pub first-none : (b : Bool) (root level : ℕ) → b ≡ false → first_in b root level ≡ []
first-none b zero level e = refl
first-none true (suc m) level e = absurd (cc)
first-none false (suc m) level e = refl

pub first-some : (b : Bool) (root level : ℕ) → 0 < root → b ≡ true → first_in b root level ≡ Node root level 0 ∷ []
first-some b zero level l e = absurd (omega arith)
first-some true (suc m) level l e = refl
first-some false (suc m) level l e = absurd (cc)

or-none : (a b : Bool) → a ≡ false → b ≡ false → (a || b) ≡ false
or-none true b h k = absurd (cc)
or-none false b h k = k

below-false : (n : ℕ) (test : ℕ → Bool) → ((i : ℕ) → i < n → test i ≡ false) → some_below n test ≡ false
unfolding some_below
below-false zero test h = refl
below-false (suc n) test h = or-none (test n) (some_below n test) (h n (omega arith)) (below-false n test (λ i l. h i (omega arith)))

below-same : (n : ℕ) (f g : ℕ → Bool) → ((i : ℕ) → i < n → f i ≡ g i) → some_below n f ≡ some_below n g
unfolding some_below
below-same zero f g h = refl
below-same (suc n) f g h = ap (λ (b : Bool). b || some_below n f) (h n (omega arith)) ∙ ap (λ (b : Bool). g n || b) (below-same n f g (λ i l. h i (omega arith)))

-- a mask of slots that meet a test
pub marked-same : (mask : ℕ) (test : ℕ → Bool) → ((i : ℕ) → i < 32 → has_slot mask i ≡ test i) → some_below 32 (λ i. has_slot mask i) ≡ some_below 32 test
marked-same mask test h = below-same 32 (λ i. has_slot mask i) test h

-- the mask of no slot
pub empty-none : (mask : ℕ) → mask ≡ 0 → some_below 32 (λ i. has_slot mask i) ≡ false
empty-none mask e = below-false 32 (λ i. has_slot mask i) (λ i l. ap (λ (m : ℕ). has_slot m i) e ∙ slot-none i)

no-bit : (n : ℕ) → n < 2 → (n == 1) ≡ false → n ≡ 0
no-bit n l h = grind (arith, nat_tests)

-- any other mask has a slot
pub other-some : (mask : ℕ) → mask < 2 ^ 32 → (mask ≡ 0 → ⊥) → some_below 32 (λ i. has_slot mask i) ≡ true
other-some mask l ne = ⊎_elim
    (λ (t : some_below 32 (λ i. has_slot mask i) ≡ true). t)
    (λ (f : some_below 32 (λ i. has_slot mask i) ≡ false).
    absurd (ne (same_from_bits_below 32 mask 0 l (lit< tt) (λ i k. no-bit (bit_at mask i) (bit_at-lt mask i) (none-below 32 (λ j. has_slot mask j) f i k) ∙ sym (bit_at-zero i)))))
    (cases_Bool (some_below 32 (λ i. has_slot mask i)))

zero-of : (n : ℕ) → (n == 0) ≡ true → n ≡ 0
zero-of n h = grind (arith, nat_tests)

not-zero : (n : ℕ) → (n == 0) ≡ false → n ≡ 0 → ⊥
not-zero n h e = grind (arith, nat_tests)

-- so a mask that isn't 0 has one
pub any-mask : (mask : ℕ) → mask < 2 ^ 32 → not (mask == 0) ≡ some_below 32 (λ i. has_slot mask i)
any-mask mask l = ⊎_elim
    (λ (t : (mask == 0) ≡ true). ap not t ∙ sym (empty-none mask (zero-of mask t)))
    (λ (f : (mask == 0) ≡ false). ap not f ∙ sym (other-some mask l (not-zero mask f)))
    (cases_Bool (mask == 0))
