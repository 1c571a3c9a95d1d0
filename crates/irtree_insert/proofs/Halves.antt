-- The mask of a split.
use Rattle.std.proofs.Common.{◌≡◌, ℕ, zero, suc, ◌+◌, ◌<◌, true, false, arith, refl, sym, ap, ◌==◌}
use Rattle.std.specs.Int.{bit_at}
use Rattle.std.proofs.lemmas.Bool.Decides.{nat_tests}
use Rattle.std.proofs.lemmas.Nat.Bits.{bit_at-lt}
use Rattle.rtree_nodes.specs.Slots.{Item, Slots, filled, IsFull, IsPart}
use Rattle.rtree_nodes.specs.Slots as shape
use Rattle.rtree_nodes.specs.Trees.{IsPutFree}
use Rattle.rtree_nodes.specs.Masks as masks
use Rattle.rtree_nodes.specs.Masks.{kept_of, moved_of}
use Rattle.rtree_nodes.proofs.TreeParts.{room-free, part_moved, part_kept}
use Rattle.split_policy.specs.Masks as policy
use Rattle.split_policy.specs.Masks.{IsMask}

sums-are : (n : ℕ) (f g : ℕ → ℕ) → ((i : ℕ) → i < n → f i ≡ g i) → policy.sum_to n f ≡ shape.sum_to n g
unfolding policy.sum_to shape.sum_to
sums-are zero f g e = refl
sums-are (suc n) f g e = let a = e n (omega arith) in let b = sums-are n f g (λ i l. e i (omega arith)) in omega arith

-- how many of 33 entries move: those of the slots, and the new one
pub marks-are : (mask moves : ℕ) → ((i : ℕ) → i < 32 → bit_at moves i ≡ bit_at mask i) → policy.marked 33 mask ≡ bit_at mask 32 + masks.marked 32 moves
unfolding policy.marked masks.marked policy.sum_to
marks-are mask moves same = ap (λ (k : ℕ). bit_at mask 32 + k) (sums-are 32 (λ i. bit_at mask i) (λ i. bit_at moves i) (λ i l. sym (same i l)))

module _ (mask moves : ℕ) (same : (i : ℕ) → i < 32 → bit_at moves i ≡ bit_at mask i) (is : IsMask mask) (s : Slots) (full : IsFull s) where
  -- either node has a free slot
  pub halves-room : (filled (kept_of moves s) < 32) × (filled (moved_of moves s) < 32)
  halves-room = let m = marks-are mask moves same in let l = bit_at-lt mask 32 in let a = is.enough in let b = is.few in room-free moves s full (omega arith) (omega arith)

  -- the new item moves
  pub halves-moved : (b : Slots) (x : Item) → (bit_at mask 32 == 1) ≡ true → IsPutFree (moved_of moves s) x b → IsPart s x (kept_of moves s) b
  halves-moved b x set put =
      let bit : bit_at mask 32 ≡ 1 = grind (arith, nat_tests) in
      let m = marks-are mask moves same in let e = is.enough in let f = is.few in
      part_moved moves s b x full (omega arith) (omega arith) put

  -- the new item stays
  pub halves-kept : (a : Slots) (x : Item) → (bit_at mask 32 == 1) ≡ false → IsPutFree (kept_of moves s) x a → IsPart s x a (moved_of moves s)
  halves-kept a x set put =
      let l = bit_at-lt mask 32 in
      let bit : bit_at mask 32 ≡ 0 = grind (arith, nat_tests) in
      let m = marks-are mask moves same in let e = is.enough in let f = is.few in
      part_kept moves s a x full (omega arith) (omega arith) put
