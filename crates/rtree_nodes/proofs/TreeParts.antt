-- 33 items in two nodes, the new one in the lowest free slot of its node.
use Rattle.std.proofs.Common.{◌≡◌, ℕ, ◌+◌, ◌<◌, ◌≤◌, max, arith, refl, sym, ap, ◌∙◌, subst, Option, Some, None, true, false, inl, inr, if◌then◌else◌, ◌==◌}
use Rattle.std.specs.Int.{bit_at}
use Rattle.rtree_nodes.specs.Slots.{Item, Slots, amount, tops, one, filled, IsFull, IsFree, IsFrom, IsPart}
use Rattle.rtree_nodes.specs.Trees.{with_slot, IsPutFree}
use Rattle.rtree_nodes.specs.Masks.{kept_of, moved_of, marked}
use Rattle.rtree_nodes.proofs.Splits.{parted, moved-many, full-many}
use Rattle.rtree_nodes.proofs.Amounts.{amount-put, tops-put, with_slot-same, with_slot-other, same_or}

from-some : (s : Slots) (x : Item) (i : ℕ) (o : Option Item) → i < 32 → s i ≡ o → IsFrom s x o
from-some s x i None l e = tt
from-some s x i (Some z) l e = inr (i, l, e)

from-kept : (mask : ℕ) (s : Slots) (x : Item) (i : ℕ) → i < 32 → IsFrom s x (kept_of mask s i)
from-kept mask s x i l = elim (bit_at mask i == 1) as (λ b. IsFrom s x (if b then None else s i)) [ true ↦ tt | false ↦ from-some s x i (s i) l refl ]

from-moved : (mask : ℕ) (s : Slots) (x : Item) (i : ℕ) → i < 32 → IsFrom s x (moved_of mask s i)
from-moved mask s x i l = elim (bit_at mask i == 1) as (λ b. IsFrom s x (if b then s i else None)) [ true ↦ from-some s x i (s i) l refl | false ↦ tt ]

from-put : (s t : Slots) (x : Item) (at i : ℕ) → IsFrom s x (t i) → IsFrom s x (with_slot at x t i)
from-put s t x at i h = elim (same_or i at) [
  | inl k ↦ subst (IsFrom s x) (sym (ap (with_slot at x t) k ∙ with_slot-same at x t)) (inl refl)
  | inr k ↦ subst (IsFrom s x) (sym (with_slot-other at x t i k)) h
]

-- an item put into a free slot adds to a sum
pub put-sum : (f : Item → ℕ) (s : Slots) (x : Item) (at : ℕ) → IsFree s at → amount f (with_slot at x s) ≡ amount f s + f x
put-sum f s x at h = amount-put f s (with_slot at x s) at x h.within (λ i k. sym (with_slot-other at x s i k)) h.free (with_slot-same at x s)

-- and the slots reach as far as it
pub put-top : (d : ℕ) (s : Slots) (x : Item) (at : ℕ) → IsFree s at → tops d (with_slot at x s) ≡ max (tops d s) (x.reach d)
put-top d s x at h = tops-put d s (with_slot at x s) at x h.within (λ i k. sym (with_slot-other at x s i k)) h.free (with_slot-same at x s)

-- where some but not all items of a full node move, either node has a free slot
pub room-free : (mask : ℕ) (s : Slots) → IsFull s → 0 < marked 32 mask → marked 32 mask < 32 → (filled (kept_of mask s) < 32) × (filled (moved_of mask s) < 32)
room-free mask s full some few =
    let a = moved-many mask s full in
    let b = full-many s full in
    let p = (parted mask s).sums one in
    (omega arith, omega arith)

max_right : (a b c s : ℕ) → max a b ≡ s → max a (max b c) ≡ max s c
max_right a b c s e = let t : max a (max b c) ≡ max (max a b) c = omega arith in t ∙ ap (λ (k : ℕ). max k c) e

max_left : (a b c s : ℕ) → max a b ≡ s → max (max a c) b ≡ max s c
max_left a b c s e = let t : max (max a c) b ≡ max (max a b) c = omega arith in t ∙ ap (λ (k : ℕ). max k c) e

-- the new item moves
pub part_moved : (mask : ℕ) (s b : Slots) (x : Item) → IsFull s → 11 ≤ marked 32 mask → marked 32 mask ≤ 20 → IsPutFree (moved_of mask s) x b → IsPart s x (kept_of mask s) b
part_moved mask s b x full enough few put =
    let at : ℕ = put.at in
    let m = moved-many mask s full in
    let n = full-many s full in
    let p = parted mask s in
    let o = put-sum one (moved_of mask s) x at put.free in
    let q = p.sums one in
    let whole : IsPart s x (kept_of mask s) (with_slot at x (moved_of mask s)) = record {
      sums = λ f. let k = put-sum f (moved_of mask s) x at put.free in let j = p.sums f in omega arith;
      reach = λ d. ap (max (tops d (kept_of mask s))) (put-top d (moved_of mask s) x at put.free) ∙ max_right (tops d (kept_of mask s)) (tops d (moved_of mask s)) (x.reach d) (tops d s) (p.reach d);
      stay = omega arith;
      move = omega arith;
      from_a = λ i l. from-kept mask s x i l;
      from_b = λ i l. from-put s (moved_of mask s) x at i (from-moved mask s x i l);
    } in
    subst (λ (t : Slots). IsPart s x (kept_of mask s) t) (sym put.is) whole

-- the new item stays
pub part_kept : (mask : ℕ) (s a : Slots) (x : Item) → IsFull s → 12 ≤ marked 32 mask → marked 32 mask ≤ 21 → IsPutFree (kept_of mask s) x a → IsPart s x a (moved_of mask s)
part_kept mask s a x full enough few put =
    let at : ℕ = put.at in
    let m = moved-many mask s full in
    let n = full-many s full in
    let p = parted mask s in
    let o = put-sum one (kept_of mask s) x at put.free in
    let q = p.sums one in
    let whole : IsPart s x (with_slot at x (kept_of mask s)) (moved_of mask s) = record {
      sums = λ f. let k = put-sum f (kept_of mask s) x at put.free in let j = p.sums f in omega arith;
      reach = λ d. ap (λ (k : ℕ). max k (tops d (moved_of mask s))) (put-top d (kept_of mask s) x at put.free) ∙ max_left (tops d (kept_of mask s)) (tops d (moved_of mask s)) (x.reach d) (tops d s) (p.reach d);
      stay = omega arith;
      move = omega arith;
      from_a = λ i l. from-put s (kept_of mask s) x at i (from-kept mask s x i l);
      from_b = λ i l. from-moved mask s x i l;
    } in
    subst (λ (t : Slots). IsPart s x t (moved_of mask s)) (sym put.is) whole
