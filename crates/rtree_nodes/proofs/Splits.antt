-- 33 items in two nodes.
use Rattle.std.proofs.Common.{◌≡◌, ℕ, ◌+◌, ◌<◌, max, arith, refl, ◌∙◌}
use Rattle.std.proofs.lemmas.Bool.Decides.{nat_tests}
use Rattle.std.specs.Int.{bit_at}
use Rattle.std.proofs.lemmas.Nat.Bits.{bit_at-lt}
use Rattle.rtree_nodes.specs.Slots.{Item, Slots, sum_to, got, amount, tops, filled, one}
use Rattle.rtree_nodes.specs.Masks.{marked, kept_of, moved_of}
use Rattle.rtree_nodes.proofs.Sums.{sum-same}
use Rattle.rtree_nodes.proofs.Amounts.{amount-match, tops-match}

-- each of 33 items is in one of the two
pub record Parted (s a b : Slots) : Type 0 where
  pub sums : (f : Item → ℕ) → amount f a + amount f b ≡ amount f s
  pub reach : (d : ℕ) → max (tops d a) (tops d b) ≡ tops d s

pub parted : (mask : ℕ) (s : Slots) → Parted s (kept_of mask s) (moved_of mask s)
parted mask s = record {
  sums = λ f. amount-match f (kept_of mask s) (moved_of mask s) s (λ i l. grind (arith, nat_tests));
  reach = λ d. tops-match d (kept_of mask s) (moved_of mask s) s (λ i l. grind (arith, nat_tests));
}

moved-one : (mask : ℕ) (s : Slots) (i : ℕ) → got one (s i) ≡ 1 → got one (moved_of mask s i) ≡ bit_at mask i
moved-one mask s i full = let l = bit_at-lt mask i in grind (arith, nat_tests)

-- where all slots are used, as many move as bits are set
pub moved-many : (mask : ℕ) (s : Slots) → ((i : ℕ) → i < 32 → got one (s i) ≡ 1) → filled (moved_of mask s) ≡ marked 32 mask
unfolding amount marked
moved-many mask s full = sum-same 32 (λ i. got one (moved_of mask s i)) (λ i. bit_at mask i) (λ i l. moved-one mask s i (full i l))

-- a full node: each slot is used
pub full-many : (s : Slots) → ((i : ℕ) → i < 32 → got one (s i) ≡ 1) → filled s ≡ 32
unfolding amount sum_to
full-many s full = sum-same 32 (λ i. got one (s i)) (λ i. 1) full ∙ refl
