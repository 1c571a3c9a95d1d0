-- Rectangles round some of 32, and what a change does to the outline of a node.
use Rattle.std.proofs.Common.{◌≡◌, ◌⊎◌, ℕ, zero, suc, ◌+◌, ◌-◌, ◌*◌, ◌^◌, ◌%◌, ◌<◌, max, min, Bool, true, false, List, Option, Some, None, arith, refl, sym, ap, ◌∙◌, subst, inl, inr, add-one, length, get_or, if◌then◌else◌, ◌==◌}
use Rattle.std.specs.Prelude.{unwrap_or, bit_or, bit_and}
use Rattle.std.specs.Int.{bit_at, bit_not, w32}
use Rattle.std.proofs.Math.ListN.{set}
use Rattle.std.proofs.lemmas.Bool.Decides.{nat_tests}
use Rattle.std.proofs.lemmas.List.{get_or-set_same, get_or-set_other}
use Rattle.std.proofs.lemmas.Nat.Bits.{bit_at_set_same, bit_at_set_other, bit_at_and, bit_at_not, bit_at-lt}
use Rattle.spatial_base.specs.Rect.{Bounds}
use Rattle.rtree_nodes.specs.Slots.{Item, Slots, got, one, top_to, tops, amount, filled}
use Rattle.rtree_nodes.specs.Trees.{reach_of as reach_at, with_slot}
use Rattle.rtree_nodes.specs.Masks.{kept_of, moved_of}
use Rattle.rtree_nodes.proofs.Sums.{sum-same, sum-zero}
use Rattle.rtree_nodes.proofs.Amounts.{same_or, with_slot-same, with_slot-other}
use Rattle.rtree_nodes.specs.Reach.{reach_of, joined_both, origin_rect}
use Rattle.rtree_nodes.proofs.Reaches.{joined-reach}
use Rattle.irtree_insert.specs.Drafts.{IsOutlined, AreOutlined, reach_or}

-- the rectangle round the first n items, or none
pub record IsRound (s : Slots) (n : ℕ) (bounds : Option Bounds) : Type 0 where
  pub reach : (d : ℕ) → reach_or bounds d ≡ top_to n (λ i. got (reach_at d) (s i))
  pub none : bounds ≡ None → (i : ℕ) → i < n → got one (s i) ≡ 0

pub round-none : (s : Slots) → IsRound s 0 None
unfolding top_to
round-none s = record { reach = λ d. refl; none = λ e i l. absurd (omega arith) }

joined-or : (bounds : Option Bounds) (rect : Bounds) (d : ℕ) → reach_or (joined_both bounds (Some rect)) d ≡ max (reach_of rect d) (reach_or bounds d)
joined-or None rect d = omega arith
joined-or (Some b) rect d = let j = joined-reach b rect d in omega arith

joined-some : (bounds : Option Bounds) (rect : Bounds) → joined_both bounds (Some rect) ≡ None → ⊥
joined-some None rect e = cc
joined-some (Some b) rect e = cc

-- one slot more
pub round-more : (s : Slots) (i bit : ℕ) (rect : Bounds) (bounds bounds' : Option Bounds) → IsOutlined bit rect (s i) → IsRound s i bounds
    → bounds' ≡ (if bit == 1 then joined_both bounds (Some rect) else bounds) → IsRound s (i + 1) bounds'
unfolding top_to
round-more s i bit rect bounds bounds' outlined round is = subst (λ (n : ℕ). IsRound s n bounds') (sym (add-one i)) (by (s i) refl outlined)
  where
    below : (k : ℕ) → k < suc i → (k ≡ i) ⊎ (k < i)
    below k l = grind arith

    unused : bit ≡ 0 → bounds' ≡ bounds
    unused z = let t : (bit == 1) ≡ false = grind (arith, nat_tests) in is ∙ ap (λ (b : Bool). if b then joined_both bounds (Some rect) else bounds) t

    used : bit ≡ 1 → bounds' ≡ joined_both bounds (Some rect)
    used z = let t : (bit == 1) ≡ true = grind (arith, nat_tests) in is ∙ ap (λ (b : Bool). if b then joined_both bounds (Some rect) else bounds) t

    by : (o : Option Item) → s i ≡ o → IsOutlined bit rect o → IsRound s (suc i) bounds'
    by None e z = record {
      reach = λ d. let a = ap (got (reach_at d)) e in let b = round.reach d in let c = ap (λ (o : Option Bounds). reach_or o d) (unused z) in omega arith;
      none = λ n k l. elim (below k l) [ inl h ↦ ap (λ (m : ℕ). got one (s m)) h ∙ ap (got one) e | inr h ↦ round.none (sym (unused z) ∙ n) k h ];
    }
    by (Some x) e o = record {
      reach = λ d. let a = ap (got (reach_at d)) e in let b = round.reach d in let c = ap (λ (o : Option Bounds). reach_or o d) (used o.0) in let j = joined-or bounds rect d in let r = ap (λ (f : ℕ → ℕ). f d) o.1 in omega arith;
      none = λ n. absurd (joined-some bounds rect (sym (used o.0) ∙ n));
    }

-- the rectangle round all items of a node that has some
pub round-all : (s : Slots) (bounds : Option Bounds) (default rect : Bounds) → IsRound s 32 bounds → 0 < filled s → rect ≡ unwrap_or bounds default → (d : ℕ) → reach_of rect d ≡ tops d s
unfolding tops amount
round-all s None default rect round some e d = absurd (let z = sum-same 32 (λ i. got one (s i)) (λ i. 0) (λ i l. round.none refl i l) in let y = sum-zero 32 in omega arith)
round-all s (Some b) default rect round some e d = ap (λ (r : Bounds). reach_of r d) e ∙ round.reach d

-- an item was put into a slot, its bit set, and its rectangle kept
pub outlined-put : (used : ℕ) (rects : List Bounds) (s : Slots) (at : ℕ) (rect : Bounds) (x : Item) → at < 32 → at < length rects → AreOutlined used rects s → reach_of rect ≡ x.reach
    → AreOutlined (bit_or used (1 * 2 ^ at % 4294967296)) (set rects at rect) (with_slot at x s)
outlined-put used rects s at rect x within long out reach i l = elim (same_or i at) [
  | inl e ↦ subst (λ (k : ℕ). IsOutlined (bit_at (bit_or used (1 * 2 ^ at % 4294967296)) k) (get_or (set rects at rect) k origin_rect) (with_slot at x s k)) (sym e)
      (subst (IsOutlined (bit_at (bit_or used (1 * 2 ^ at % 4294967296)) at) (get_or (set rects at rect) at origin_rect)) (sym (with_slot-same at x s))
      (bit_at_set_same w32 used at within, ap reach_of (get_or-set_same rects at rect origin_rect long) ∙ reach))
  | inr d ↦
      let a = with_slot-other at x s i d in
      let b = bit_at_set_other w32 used at within i d in
      let c = get_or-set_other rects at i rect origin_rect d in
      rw (a, b, c) (out i l)
]

split-kept : (bit move : ℕ) (rect : Bounds) (o : Option Item) → bit < 2 → move < 2 → IsOutlined bit rect o → IsOutlined (min bit (1 - move)) rect (if move == 1 then None else o)
split-kept bit zero rect None a b z = omega arith
split-kept bit zero rect (Some x) a b h = let k = h.0 in (omega arith, h.1)
split-kept bit (suc zero) rect o a b h = omega arith
split-kept bit (suc (suc m)) rect o a b h = absurd (omega arith)

split-moved : (bit move : ℕ) (rect : Bounds) (o : Option Item) → bit < 2 → move < 2 → IsOutlined bit rect o → IsOutlined (min bit move) rect (if move == 1 then o else None)
split-moved bit zero rect o a b h = omega arith
split-moved bit (suc zero) rect None a b z = omega arith
split-moved bit (suc zero) rect (Some x) a b h = let k = h.0 in (omega arith, h.1)
split-moved bit (suc (suc m)) rect o a b h = absurd (omega arith)

-- the items that stay
pub outlined-kept : (used moves : ℕ) (rects : List Bounds) (s : Slots) → moves < 2 ^ 32 → AreOutlined used rects s → AreOutlined (bit_and used (bit_not w32 moves)) rects (kept_of moves s)
outlined-kept used moves rects s small out i l =
    let e : bit_at (bit_and used (bit_not w32 moves)) i ≡ min (bit_at used i) (1 - bit_at moves i) = bit_at_and used (bit_not w32 moves) i ∙ ap (min (bit_at used i)) (bit_at_not w32 moves i small l) in
    rw e (split-kept (bit_at used i) (bit_at moves i) (get_or rects i origin_rect) (s i) (bit_at-lt used i) (bit_at-lt moves i) (out i l))

-- the items that move
pub outlined-moved : (used moves : ℕ) (rects : List Bounds) (s : Slots) → AreOutlined used rects s → AreOutlined (bit_and used moves) rects (moved_of moves s)
outlined-moved used moves rects s out i l =
    let e : bit_at (bit_and used moves) i ≡ min (bit_at used i) (bit_at moves i) = bit_at_and used moves i in
    rw e (split-moved (bit_at used i) (bit_at moves i) (get_or rects i origin_rect) (s i) (bit_at-lt used i) (bit_at-lt moves i) (out i l))
