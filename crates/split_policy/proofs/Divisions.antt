-- Splits part way.
use Rattle.std.proofs.Common.{◌≡◌, ℕ, ◌+◌, ◌-◌, ◌<◌, ◌≤◌, ◌^◌, arith, ap, ◌⊎◌, inl, inr, true, false, bit_or, List, lit<}
use Rattle.std.specs.Prelude.{bit_xor}
use Rattle.std.specs.Int.{bit_at}
use Rattle.std.proofs.lemmas.Nat.{xor_lt, or_lt, pow_below}
use Rattle.std.proofs.lemmas.Nat.Bits.{bit_at-lt, bit_at_or, bit_at_xor, bit_at-pow_same, bit_at-pow_other, bit_at_ones}
use Rattle.spatial_base.specs.Rect.{Bounds}
use Rattle.split_policy.specs.declared.group.Group.{Group}
use Rattle.split_policy.specs.declared.division.Division.{Division}
use Rattle.split_policy.specs.Areas.{rect_at}
use Rattle.split_policy.specs.Masks.{marked, IsAmong, IsMask}
use Rattle.split_policy.specs.Quadratic.{remaining, is_preferred, with_entry, placed, IsOpen, NeedsAll, EndsWith, none_left, rest_stays}
use Rattle.split_policy.specs.Divided.{IsDivided}
use Rattle.split_policy.proofs.Sums.{same_or_not}
use Rattle.split_policy.proofs.Bits.{marked-zero, marked-or, marked-xor, marked-one, marked-both, marked-all}

-- as a split begins, all entries but the two seeds are left
pub begun-divided : (i j : ℕ) (staying moving : Group) → i < j → j < 33 → staying.count ≡ 1 → moving.count ≡ 1
    → IsDivided record { left = bit_xor (bit_xor (2 ^ 33 - 1) (2 ^ i)) (2 ^ j); moved = 2 ^ j; staying = staying; moving = moving }
begun-divided i j staying moving order within stays moves =
    let all = 2 ^ 33 - 1 in
    let rest = bit_xor all (2 ^ i) in
    let first : bit_at all i ≡ 1 = bit_at_ones 33 i (omega arith) in
    let second : bit_at rest j ≡ 1 =
    let a = bit_at_xor all (2 ^ i) j in
    let b = bit_at_ones 33 j within in
    let c = bit_at-pow_other i j (λ e. omega arith) in
    omega arith in
    let one = marked-xor 33 i all (omega arith) first in
    let two = marked-xor 33 j rest within second in
    let whole = marked-all in
    record {
      left = xor_lt 33 rest (2 ^ j) (xor_lt 33 all (2 ^ i) (lit< tt) (pow_below i 33 (omega arith))) (pow_below j 33 within);
      moved = pow_below j 33 within;
      apart = λ k. let a = bit_at_xor rest (2 ^ j) k in elim (same_or_not k j) [
        | inl e ↦
            let b = ap (λ (x : ℕ). bit_at (bit_xor rest (2 ^ j)) x) e in
            let c = ap (λ (x : ℕ). bit_at (2 ^ j) x) e in
            let d = bit_at_xor rest (2 ^ j) j in
            let f = bit_at-pow_same j in
            omega arith
        | inr e ↦
            let b = bit_at-pow_other j k e in
            let c = bit_at-lt (bit_xor rest (2 ^ j)) k in
            omega arith
      ];
      all = omega arith;
      counted = let a = marked-one 33 j within in omega arith;
      enough_staying = omega arith;
      enough_moving = omega arith;
    }

-- equal parts, equal splits
pub division-same : (d e : Division) → d.left ≡ e.left → d.moved ≡ e.moved → d.staying ≡ e.staying → d.moving ≡ e.moving → d ≡ e
division-same d e left moved staying moving = λ i. record { left = left i; moved = moved i; staying = staying i; moving = moving i }

-- the entry joins the group that moves
pub placed-moving : (rects : List Bounds) (at : ℕ) (d e : Division) → is_preferred (rect_at rects at) d.moving d.staying ≡ true
    → e.left ≡ bit_xor d.left (2 ^ at) → e.moved ≡ bit_or d.moved (2 ^ at) → e.staying ≡ d.staying → e.moving ≡ with_entry (rect_at rects at) d.moving
    → e ≡ placed rects at d
unfolding placed
placed-moving rects at d e preferred left moved staying moving = rw preferred (division-same e _ left moved staying moving)

-- the entry joins the group that stays
pub placed-staying : (rects : List Bounds) (at : ℕ) (d e : Division) → is_preferred (rect_at rects at) d.moving d.staying ≡ false
    → e.left ≡ bit_xor d.left (2 ^ at) → e.moved ≡ d.moved → e.staying ≡ with_entry (rect_at rects at) d.staying → e.moving ≡ d.moving
    → e ≡ placed rects at d
unfolding placed
placed-staying rects at d e preferred left moved staying moving = rw preferred (division-same e _ left moved staying moving)

-- one entry fewer is left
pub fewer-left : (left at : ℕ) → IsAmong left at → marked 33 left ≡ marked 33 (bit_xor left (2 ^ at)) + 1
fewer-left left at is_left = marked-xor 33 at left is_left.0 is_left.1

-- the bits of an entry that isn't left any more
cleared : (d : Division) (at : ℕ) → IsDivided d → IsAmong d.left at → (k : ℕ) → bit_at (bit_xor d.left (2 ^ at)) k + bit_at (bit_or d.moved (2 ^ at)) k ≤ 1
cleared d at divided is_left k =
    let a = bit_at_xor d.left (2 ^ at) k in
    let b = bit_at_or d.moved (2 ^ at) k in
    elim (same_or_not k at) [
      | inl e ↦
          let f = ap (λ (x : ℕ). bit_at (2 ^ at) x) e in
          let g = ap (λ (x : ℕ). bit_at d.left x) e in
          let h = ap (λ (x : ℕ). bit_at d.moved x) e in
          let i = is_left.1 in
          let m = divided.apart at in
          let s = bit_at-pow_same at in
          omega arith
      | inr e ↦
          let f = bit_at-pow_other at k e in
          let g = divided.apart k in
          omega arith
    ]

-- an entry that is left doesn't move yet
not-moved : (d : Division) (at : ℕ) → IsDivided d → IsAmong d.left at → bit_at d.moved at ≡ 0
not-moved d at divided is_left = let a = divided.apart at in let b = is_left.1 in omega arith

-- an entry joins the group that moves
pub moved-divided : (d : Division) (at : ℕ) (group : Group) → IsDivided d → IsOpen d → IsAmong d.left at → group.count ≡ d.moving.count + 1
    → IsDivided record { left = bit_xor d.left (2 ^ at); moved = bit_or d.moved (2 ^ at); staying = d.staying; moving = group }
moved-divided d at group divided is_open is_left one =
    let a = fewer-left d.left at is_left in
    let b = marked-or 33 at d.moved is_left.0 (not-moved d at divided is_left) in
    record {
      left = xor_lt 33 d.left (2 ^ at) divided.left (pow_below at 33 is_left.0);
      moved = or_lt 33 d.moved (2 ^ at) divided.moved (pow_below at 33 is_left.0);
      apart = cleared d at divided is_left;
      all = omega arith;
      counted = omega arith;
      enough_staying = omega arith;
      enough_moving = omega arith;
    }

-- an entry joins the group that stays
pub stayed-divided : (d : Division) (at : ℕ) (group : Group) → IsDivided d → IsOpen d → IsAmong d.left at → group.count ≡ d.staying.count + 1
    → IsDivided record { left = bit_xor d.left (2 ^ at); moved = d.moved; staying = group; moving = d.moving }
stayed-divided d at group divided is_open is_left one =
    let a = fewer-left d.left at is_left in
    record {
      left = xor_lt 33 d.left (2 ^ at) divided.left (pow_below at 33 is_left.0);
      moved = divided.moved;
      apart = λ k.
          let b = cleared d at divided is_left k in
          let c = bit_at_or d.moved (2 ^ at) k in
          omega arith;
      all = omega arith;
      counted = divided.counted;
      enough_staying = omega arith;
      enough_moving = omega arith;
    }

-- the group that moves takes all that are left
pub all-moved : (d : Division) → IsDivided d → NeedsAll d.moving d → IsMask (bit_or d.moved d.left)
all-moved d divided needs =
    let a = marked-both 33 d.moved d.left divided.apart in
    record { within = or_lt 33 d.moved d.left divided.moved divided.left; enough = omega arith; few = omega arith }

-- the group that stays needs all that are left, or has more
needs-or : (d : Division) → NeedsAll d.staying d ⊎ (12 < d.staying.count + remaining d)
needs-or d = grind arith

-- why a split that isn't open ends, if the group that moves doesn't need all that are left
stopped : (d : Division) → (IsOpen d → ⊥) → 12 < d.moving.count + remaining d → (d.left ≡ 0) ⊎ NeedsAll d.staying d
stopped d closed moving = elim (same_or_not d.left 0) [
  | inl e ↦ inl e
  | inr some ↦ elim (needs-or d) [ inl k ↦ inr k | inr k ↦ absurd (closed record { some = some; staying = k; moving = moving }) ]
]

-- the group that stays takes what is left, if anything
pub stopped-mask : (d : Division) → IsDivided d → (IsOpen d → ⊥) → 12 < d.moving.count + remaining d → IsMask d.moved
stopped-mask d divided closed moving =
    let sizes : (12 ≤ marked 33 d.moved) × (marked 33 d.moved ≤ 21) = elim (stopped d closed moving) [
      | inl e ↦
          let a = ap (marked 33) e in
          let b = marked-zero 33 in
          let c = divided.counted in
          (omega arith, omega arith)
      | inr k ↦ let c = divided.counted in (omega arith, omega arith)
    ] in
    record { within = divided.moved; enough = sizes.0; few = sizes.1 }

-- and so it ends
pub stopped-ends : (rects : List Bounds) (d : Division) → (IsOpen d → ⊥) → 12 < d.moving.count + remaining d → EndsWith rects d d.moved
stopped-ends rects d closed moving = elim (stopped d closed moving) [ inl e ↦ none_left d e | inr k ↦ rest_stays d k ]
