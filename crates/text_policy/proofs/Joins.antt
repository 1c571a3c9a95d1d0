-- An entry joins its group.
use Rattle.std.proofs.Common.{◌≡◌, ℕ, ◌<◌, ◌≤◌, ◌^◌, arith, true, false, List, subst, refl, ◌⊎◌, inl, inr, bit_or}
use Rattle.std.specs.Prelude.{bit_xor}
use Rattle.spatial_base.specs.Rect.{Bounds}
use Rattle.split_policy.specs.Areas.{rect_at}
use Rattle.split_policy.specs.Masks.{IsAmong}
use Rattle.split_policy.specs.Quadratic.{with_entry, IsOpen}
use Rattle.split_policy.specs.Divided.{IsDivided}
use Rattle.split_policy.specs.declared.division.Division.{Division}
use Rattle.split_policy.proofs.Divisions.{division-same, moved-divided, stayed-divided}
use Rattle.split_policy.proofs.Once.{true-or}
use Rattle.text_policy.specs.Words.{like_at}
use Rattle.text_policy.specs.Splits.{IsFirstLeft, is_drawn, joined}

-- the entry joins the group that moves
pub joined-moving : (rects : List Bounds) (like : List (List ℕ)) (i j at : ℕ) (d e : Division)
    → is_drawn d (rect_at rects at) (like_at like i at) (like_at like j at) ≡ true
    → e.left ≡ bit_xor d.left (2 ^ at) → e.moved ≡ bit_or d.moved (2 ^ at) → e.staying ≡ d.staying → e.moving ≡ with_entry (rect_at rects at) d.moving
    → e ≡ joined rects like i j at d
unfolding joined
joined-moving rects like i j at d e drawn left moved staying moving = rw drawn (division-same e _ left moved staying moving)

-- the entry joins the group that stays
pub joined-staying : (rects : List Bounds) (like : List (List ℕ)) (i j at : ℕ) (d e : Division)
    → is_drawn d (rect_at rects at) (like_at like i at) (like_at like j at) ≡ false
    → e.left ≡ bit_xor d.left (2 ^ at) → e.moved ≡ d.moved → e.staying ≡ with_entry (rect_at rects at) d.staying → e.moving ≡ d.moving
    → e ≡ joined rects like i j at d
unfolding joined
joined-staying rects like i j at d e drawn left moved staying moving = rw drawn (division-same e _ left moved staying moving)

-- a split stays one of 33 entries
pub joined-divided : (rects : List Bounds) (like : List (List ℕ)) (i j at : ℕ) (d : Division) → IsDivided d → IsOpen d → IsAmong d.left at
    → IsDivided (joined rects like i j at d)
joined-divided rects like i j at d divided is_open is_left = elim (true-or (is_drawn d (rect_at rects at) (like_at like i at) (like_at like j at))) [
  | inl e ↦ subst IsDivided (joined-moving rects like i j at d _ e refl refl refl refl) (moved-divided d at _ divided is_open is_left refl)
  | inr e ↦ subst IsDivided (joined-staying rects like i j at d _ e refl refl refl refl) (stayed-divided d at _ divided is_open is_left refl)
]

-- a test of equal values
pub drawn-same : (d : Division) (r s : Bounds) (a b x y : ℕ) → r ≡ s → a ≡ x → b ≡ y → is_drawn d r a b ≡ is_drawn d s x y
drawn-same d r s a b x y e f g = λ i. is_drawn d (e i) (f i) (g i)

-- a number comes before another or not
before_or_not : (i at : ℕ) → (i < at) ⊎ (at ≤ i)
before_or_not i at = grind arith

-- an entry that is left is the first if none before it is left
pub first-is : (left at : ℕ) → IsAmong left at × ((i : ℕ) → i < at → IsAmong left i → ⊥) → IsFirstLeft left at
first-is left at first = record {
  is_left = first.0;
  number = λ i is_left. elim (before_or_not i at) [ inl l ↦ absurd (first.1 i l is_left) | inr k ↦ k ];
}
