-- The definitions of the choice and of the split fit one slot and one mask alone.
use Rattle.std.proofs.Common.{◌≡◌, ℕ, ◌<◌, arith, sym, ap, ◌∙◌, subst, ◌⊎◌, inl, inr, refl, List}
use Rattle.spatial_base.specs.Rect.{Bounds}
use Rattle.split_policy.specs.Areas.{rect_at, rect_area, growth_of}
use Rattle.split_policy.specs.Masks.{IsUsed}
use Rattle.split_policy.specs.Quadratic.{begun, IsOpen, EndsWith}
use Rattle.split_policy.specs.Divided.{IsDivided}
use Rattle.split_policy.specs.declared.division.Division.{Division}
use Rattle.split_policy.proofs.Divisions.{begun-divided}
use Rattle.split_policy.proofs.Once.{ends-once}
use Rattle.text_policy.specs.Words.{like_at}
use Rattle.text_policy.specs.Choices.{IsWordChoice}
use Rattle.text_policy.specs.Splits.{AreBeginners, IsFirstLeft, EndsByWords, rest_goes, next_joins, joined, IsWordSplit}
use Rattle.text_policy.proofs.Joins.{joined-divided}

-- one slot is chosen
pub choice-once : (used : ℕ) (rects : List Bounds) (add : Bounds) (shared : List ℕ) (at other : ℕ) → IsWordChoice used rects add shared at
    → IsWordChoice used rects add shared other → at ≡ other
choice-once used rects add shared at other a b =
    let here : IsUsed b.among at = (b.each at).1 ((a.each at).0 a.growth.is_used) in
    let there : IsUsed a.among other = (a.each other).1 ((b.each other).0 b.growth.is_used) in
    let growth_here = a.growth.growth other there in
    let growth_there = b.growth.growth at here in
    let growth : growth_of (rect_at rects other) add ≡ growth_of (rect_at rects at) add = omega arith in
    let area_here = a.growth.area other there growth in
    let area_there = b.growth.area at here (sym growth) in
    let area : rect_area (rect_at rects other) ≡ rect_area (rect_at rects at) = omega arith in
    let low = a.growth.number other there growth area in
    let high = b.growth.number at here (sym growth) (sym area) in
    omega arith

-- one pair is that of the beginners
beginners-once : (like : List (List ℕ)) (i j k l : ℕ) → AreBeginners like i j → AreBeginners like k l → (i ≡ k) × (j ≡ l)
beginners-once like i j k l a b =
    let p = a.fewest k l b.partner.order b.partner.within in
    let q = b.fewest i j a.partner.order a.partner.within in
    let e : like_at like k l ≡ like_at like i j = omega arith in
    let f = a.number k l b.partner.order b.partner.within e in
    let g = b.number i j a.partner.order a.partner.within (sym e) in
    let first : i ≡ k = omega arith in
    let above : i < l = let o = b.partner.order in omega arith in
    let below : k < j = let o = a.partner.order in omega arith in
    let h = a.partner.number l above b.partner.within (ap (λ (x : ℕ). like_at like x l) first ∙ e) in
    let m = b.partner.number j below a.partner.within (ap (λ (x : ℕ). like_at like x j) (sym first) ∙ sym e) in
    let second : j ≡ l = omega arith in
    (first, second)

-- one entry is the first that is left
first-once : (left at other : ℕ) → IsFirstLeft left at → IsFirstLeft left other → at ≡ other
first-once left at other a b = let p = a.number other b.is_left in let q = b.number at a.is_left in omega arith

-- how a split that isn't open ends
record Ended (rects : List Bounds) (d : Division) (mask : ℕ) : Type 0 where
  closed : IsOpen d → ⊥
  ends : EndsWith rects d mask

-- how one that is open goes on
record GoesOn (rects : List Bounds) (like : List (List ℕ)) (i j : ℕ) (d : Division) (mask : ℕ) : Type 0 where
  at : ℕ
  is_open : IsOpen d
  is_first : IsFirstLeft d.left at
  ends : EndsByWords rects like i j (joined rects like i j at d) mask

-- what a split's end says
inverted : (rects : List Bounds) (like : List (List ℕ)) (i j : ℕ) (d : Division) (mask : ℕ) → EndsByWords rects like i j d mask
    → Ended rects d mask ⊎ GoesOn rects like i j d mask
inverted rects like i j d mask (rest_goes _ _ closed ends) = inl record { closed = closed; ends = ends }
inverted rects like i j d mask (next_joins _ at _ is_open is_first ends) = inr record { at = at; is_open = is_open; is_first = is_first; ends = ends }

-- one end is that of a split that isn't open
ended-once : (rects : List Bounds) (like : List (List ℕ)) (i j : ℕ) (d : Division) (mask other : ℕ) → IsDivided d → (IsOpen d → ⊥)
    → EndsWith rects d mask → EndsByWords rects like i j d other → mask ≡ other
ended-once rects like i j d mask other divided closed ends also = elim (inverted rects like i j d other also) [
  | inl b ↦ ends-once rects d mask other divided ends b.ends
  | inr b ↦ absurd (closed b.is_open)
]

-- what an open split ends with, if a split with the next entry joined has one end
open-once : (rects : List Bounds) (like : List (List ℕ)) (i j : ℕ) (d : Division) (at mask other : ℕ) → IsOpen d → IsFirstLeft d.left at
    → (EndsByWords rects like i j (joined rects like i j at d) other → mask ≡ other) → EndsByWords rects like i j d other → mask ≡ other
open-once rects like i j d at mask other is_open is_first once ends = elim (inverted rects like i j d other ends) [
  | inl b ↦ absurd (b.closed is_open)
  | inr b ↦
      let P : ℕ → Type 0 = λ x. EndsByWords rects like i j (joined rects like i j x d) other in
      once (subst P (sym (first-once d.left at b.at is_first b.is_first)) b.ends)
]

-- a split part way has one end
words-once : (rects : List Bounds) (like : List (List ℕ)) (i j : ℕ) (d : Division) (mask other : ℕ) → IsDivided d → EndsByWords rects like i j d mask
    → EndsByWords rects like i j d other → mask ≡ other
words-once rects like i j d mask other divided (rest_goes _ _ closed rest) ends = ended-once rects like i j d mask other divided closed rest ends
words-once rects like i j d mask other divided (next_joins _ at _ is_open is_first rest) ends =
    open-once rects like i j d at mask other is_open is_first
    (words-once rects like i j (joined rects like i j at d) mask other (joined-divided rects like i j at d divided is_open is_first.is_left) rest) ends

-- one mask is that of a split by words
pub split-once : (rects : List Bounds) (like : List (List ℕ)) (mask other : ℕ) → IsWordSplit rects like mask → IsWordSplit rects like other → mask ≡ other
split-once rects like mask other a b =
    let same = beginners-once like a.i a.j b.i b.j a.beginners b.beginners in
    let P : ℕ → Type 0 = λ x. EndsByWords rects like x b.j (begun rects x b.j) other in
    let Q : ℕ → Type 0 = λ x. EndsByWords rects like a.i x (begun rects a.i x) other in
    let divided = begun-divided a.i a.j _ _ a.beginners.partner.order a.beginners.partner.within refl refl in
    words-once rects like a.i a.j (begun rects a.i a.j) mask other divided a.ends (subst Q (sym same.1) (subst P (sym same.0) b.ends))
