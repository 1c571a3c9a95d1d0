-- The definition of the quadratic split fits one mask alone.
use Rattle.std.proofs.Common.{◌≡◌, ℕ, ◌+◌, ◌-◌, ◌<◌, arith, refl, sym, ap, ◌∙◌, subst, Bool, true, false, ◌⊎◌, inl, inr, bit_or, List}
use Rattle.std.specs.Int.{bit_at}
use Rattle.std.proofs.lemmas.Int.{ints}
use Rattle.std.proofs.lemmas.Nat.Bits.{same_from_bits, bit_at_or, bit_at-zero}
use Rattle.spatial_base.specs.Rect.{Bounds}
use Rattle.split_policy.specs.declared.division.Division.{Division}
use Rattle.split_policy.specs.Areas.{rect_at}
use Rattle.split_policy.specs.Masks.{IsAmong}
use Rattle.split_policy.specs.Quadratic.{remaining, is_preferred, placed, begun, preference_of, IsSeeds, IsNext, IsOpen, NeedsAll, EndsWith, none_left, rest_stays, rest_moves, next_joins, IsQuadraticSplit}
use Rattle.split_policy.specs.Divided.{IsDivided}
use Rattle.split_policy.proofs.Divisions.{begun-divided, moved-divided, stayed-divided, placed-moving, placed-staying}
use Rattle.split_policy.proofs.Partners.{pair_waste}

-- one pair is that of the seeds
seeds-once : (rects : List Bounds) (i j k l : ℕ) → IsSeeds rects i j → IsSeeds rects k l → (i ≡ k) × (j ≡ l)
seeds-once rects i j k l a b =
    let p = a.waste k l b.partner.order b.partner.within in
    let q = b.waste i j a.partner.order a.partner.within in
    let e : pair_waste rects k l ≡ pair_waste rects i j = omega (arith, ints) in
    let f = a.number k l b.partner.order b.partner.within e in
    let g = b.number i j a.partner.order a.partner.within (sym e) in
    let first : i ≡ k = omega arith in
    let above : i < l = let o = b.partner.order in omega arith in
    let below : k < j = let o = a.partner.order in omega arith in
    let h = a.partner.number l above b.partner.within (ap (λ (x : ℕ). pair_waste rects x l) first ∙ e) in
    let m = b.partner.number j below a.partner.within (ap (λ (x : ℕ). pair_waste rects x j) (sym first) ∙ sym e) in
    let second : j ≡ l = omega arith in
    (first, second)

-- one entry is next
next-once : (rects : List Bounds) (d : Division) (at other : ℕ) → IsNext rects d at → IsNext rects d other → at ≡ other
next-once rects d at other a b =
    let p = a.preference other b.is_left in
    let q = b.preference at a.is_left in
    let e : preference_of d (rect_at rects other) ≡ preference_of d (rect_at rects at) = omega arith in
    let f = a.number other b.is_left e in
    let g = b.number at a.is_left (sym e) in
    omega arith

-- nothing more moves if none are left
none-more : (moved left : ℕ) → left ≡ 0 → bit_or moved left ≡ moved
none-more moved left none = same_from_bits _ _ (λ i.
    let a = bit_at_or moved left i in
    let b = ap (λ (x : ℕ). bit_at x i) none in
    let c = bit_at-zero i in
    omega arith)

-- a test succeeds or fails
pub true-or : (b : Bool) → (b ≡ true) ⊎ (b ≡ false)
true-or true = inl refl
true-or false = inr refl

-- a split stays one of 33 entries
placed-divided : (rects : List Bounds) (at : ℕ) (d : Division) → IsDivided d → IsOpen d → IsAmong d.left at → IsDivided (placed rects at d)
placed-divided rects at d divided is_open is_left = elim (true-or (is_preferred (rect_at rects at) d.moving d.staying)) [
  | inl e ↦ subst IsDivided (placed-moving rects at d _ e refl refl refl refl) (moved-divided d at _ divided is_open is_left refl)
  | inr e ↦ subst IsDivided (placed-staying rects at d _ e refl refl refl refl) (stayed-divided d at _ divided is_open is_left refl)
]

-- how a split that isn't open ends
record Ended (d : Division) (mask : ℕ) : Type 0 where
  closed : IsOpen d → ⊥
  all : NeedsAll d.moving d → mask ≡ bit_or d.moved d.left
  none : 12 < d.moving.count + remaining d → mask ≡ d.moved

-- how one that is open goes on
record GoesOn (rects : List Bounds) (d : Division) (mask : ℕ) : Type 0 where
  at : ℕ
  is_open : IsOpen d
  is_next : IsNext rects d at
  ends : EndsWith rects (placed rects at d) mask

-- none are left
none-ended : (d : Division) → d.left ≡ 0 → Ended d d.moved
none-ended d none = record {
  closed = λ o. o.some none;
  all = λ needs. sym (none-more d.moved d.left none);
  none = λ more. refl;
}

-- the group that stays takes the rest
stays-ended : (d : Division) → IsDivided d → NeedsAll d.staying d → Ended d d.moved
stays-ended d divided needs = record {
  closed = λ o. let a = o.staying in omega arith;
  all = λ k. absurd (let a = divided.all in omega arith);
  none = λ more. refl;
}

-- the group that moves takes the rest
moves-ended : (d : Division) → NeedsAll d.moving d → Ended d (bit_or d.moved d.left)
moves-ended d needs = record {
  closed = λ o. let a = o.moving in omega arith;
  all = λ k. refl;
  none = λ more. absurd (omega arith);
}

-- what a split's end says
inverted : (rects : List Bounds) (d : Division) (mask : ℕ) → IsDivided d → EndsWith rects d mask → Ended d mask ⊎ GoesOn rects d mask
inverted rects d mask divided (none_left _ none) = inl (none-ended d none)
inverted rects d mask divided (rest_stays _ needs) = inl (stays-ended d divided needs)
inverted rects d mask divided (rest_moves _ needs) = inl (moves-ended d needs)
inverted rects d mask divided (next_joins _ at _ is_open is_next ends) = inr record { at = at; is_open = is_open; is_next = is_next; ends = ends }

-- whether a group needs the rest
needs-or : (d : Division) → NeedsAll d.moving d ⊎ (12 < d.moving.count + remaining d)
needs-or d = grind arith

-- one end is that of a split that isn't open
ended-once : (rects : List Bounds) (d : Division) (mask other : ℕ) → IsDivided d → Ended d mask → EndsWith rects d other → mask ≡ other
ended-once rects d mask other divided a ends = elim (inverted rects d other divided ends) [
  | inl b ↦ elim (needs-or d) [ inl k ↦ a.all k ∙ sym (b.all k) | inr k ↦ a.none k ∙ sym (b.none k) ]
  | inr b ↦ absurd (a.closed b.is_open)
]

-- what an open split ends with, if a split with the next entry placed has one end
open-once : (rects : List Bounds) (d : Division) (at mask other : ℕ) → IsDivided d → IsOpen d → IsNext rects d at
    → (EndsWith rects (placed rects at d) other → mask ≡ other) → EndsWith rects d other → mask ≡ other
open-once rects d at mask other divided is_open is_next once ends = elim (inverted rects d other divided ends) [
  | inl b ↦ absurd (b.closed is_open)
  | inr b ↦ let P : ℕ → Type 0 = λ x. EndsWith rects (placed rects x d) other in once (subst P (sym (next-once rects d at b.at is_next b.is_next)) b.ends)
]

-- a split part way has one end
pub ends-once : (rects : List Bounds) (d : Division) (mask other : ℕ) → IsDivided d → EndsWith rects d mask → EndsWith rects d other → mask ≡ other
ends-once rects d mask other divided (none_left _ none) ends = ended-once rects d _ other divided (none-ended d none) ends
ends-once rects d mask other divided (rest_stays _ needs) ends = ended-once rects d _ other divided (stays-ended d divided needs) ends
ends-once rects d mask other divided (rest_moves _ needs) ends = ended-once rects d _ other divided (moves-ended d needs) ends
ends-once rects d mask other divided (next_joins _ at _ is_open is_next rest) ends =
    open-once rects d at mask other divided is_open is_next
    (ends-once rects (placed rects at d) mask other (placed-divided rects at d divided is_open is_next.is_left) rest) ends

-- one mask is that of Guttman's split
pub quadratic-once : (rects : List Bounds) (mask other : ℕ) → IsQuadraticSplit rects mask → IsQuadraticSplit rects other → mask ≡ other
quadratic-once rects mask other a b =
    let same = seeds-once rects a.i a.j b.i b.j a.seeds b.seeds in
    let P : ℕ → Type 0 = λ x. EndsWith rects (begun rects x b.j) other in
    let Q : ℕ → Type 0 = λ x. EndsWith rects (begun rects a.i x) other in
    let divided = begun-divided a.i a.j _ _ a.seeds.partner.order a.seeds.partner.within refl refl in
    ends-once rects (begun rects a.i a.j) mask other divided a.ends (subst Q (sym same.1) (subst P (sym same.0) b.ends))
