-- The pair of entries that would waste most.
use Rattle.std.proofs.Common.{◌≡◌, ℕ, ℤ, ◌+◌, ◌<◌, ◌≤◌, arith, ap, sym, subst, inl, inr, List}
use Rattle.std.specs.Prelude.{◌≤ℤ◌, ◌<ℤ◌}
use Rattle.std.proofs.lemmas.Int.{ints}
use Rattle.spatial_base.specs.Rect.{Bounds}
use Rattle.split_policy.specs.Areas.{rect_at, waste_of}
use Rattle.split_policy.specs.declared.seeds.Seeds.{Seeds}
use Rattle.split_policy.specs.Quadratic.{IsPartner}
use Rattle.split_policy.proofs.Sums.{at_end}

-- what two entries would waste
abbrev pub pair_waste : List Bounds → ℕ → ℕ → ℤ
pair_waste rects i j = waste_of (rect_at rects i) (rect_at rects j)

-- the partner of entry i among the entries below n
pub record PartnerBelow (n : ℕ) (rects : List Bounds) (i j : ℕ) : Type 0 where
  pub order : i < j
  pub before : j < n
  pub waste : (l : ℕ) → i < l → l < n → pair_waste rects i l ≤ℤ pair_waste rects i j
  pub number : (l : ℕ) → i < l → l < n → pair_waste rects i l ≡ pair_waste rects i j → j ≤ l

-- the seeds among the pairs whose first entry is below n
pub record SeedsBelow (n : ℕ) (rects : List Bounds) (i j : ℕ) : Type 0 where
  pub partner : IsPartner rects i j
  pub before : i < n
  pub waste : (k l : ℕ) → k < n → k < l → l < 33 → pair_waste rects k l ≤ℤ pair_waste rects i j
  pub number : (k l : ℕ) → k < n → k < l → l < 33 → pair_waste rects k l ≡ pair_waste rects i j → i ≤ k

-- the pairs of the next entry would waste no more
pub seeds-kept : (n : ℕ) (rects : List Bounds) (i j m : ℕ) → SeedsBelow n rects i j → IsPartner rects n m
    → pair_waste rects n m ≤ℤ pair_waste rects i j → SeedsBelow (n + 1) rects i j
seeds-kept n rects i j m best pair no_more = record {
  partner = best.partner;
  before = let b = best.before in omega arith;
  waste = λ k l h o w. elim (at_end n k h) [
    | inl e ↦
        let a = ap (λ (x : ℕ). pair_waste rects x l) e in
        let b = pair.waste l (omega arith) w in
        omega (arith, ints)
    | inr g ↦ best.waste k l g o w
  ];
  number = λ k l h o w q. elim (at_end n k h) [
    | inl e ↦ let b = best.before in omega arith
    | inr g ↦ best.number k l g o w q
  ];
}

-- a pair of the next entry would waste more
pub seeds-next : (n : ℕ) (rects : List Bounds) (i j m : ℕ) → SeedsBelow n rects i j → IsPartner rects n m
    → pair_waste rects i j <ℤ pair_waste rects n m → SeedsBelow (n + 1) rects n m
seeds-next n rects i j m best pair more = record {
  partner = pair;
  before = omega arith;
  waste = λ k l h o w. elim (at_end n k h) [
    | inl e ↦
        let a = ap (λ (x : ℕ). pair_waste rects x l) e in
        let b = pair.waste l (omega arith) w in
        omega (arith, ints)
    | inr g ↦ let a = best.waste k l g o w in omega (arith, ints)
  ];
  number = λ k l h o w q. elim (at_end n k h) [
    | inl e ↦ omega arith
    | inr g ↦ let a = best.waste k l g o w in absurd (omega (arith, ints))
  ];
}

-- the best pair so far, and what it would waste
pub record IsBest (n : ℕ) (rects : List Bounds) (best : Seeds) : Type 0 where
  pub waste : best.waste ≡ pair_waste rects best.first best.second
  pub seeds : SeedsBelow n rects best.first best.second

-- the first entry's pairs
pub best-first : (rects : List Bounds) (best : Seeds) → best.first ≡ 0 → best.waste ≡ pair_waste rects 0 best.second
    → IsPartner rects 0 best.second → IsBest 1 rects best
best-first rects best first waste partner =
    let P : ℕ → Type 0 = λ i. (best.waste ≡ pair_waste rects i best.second) × SeedsBelow 1 rects i best.second in
    let both = subst P (sym first) (
      waste,
      record {
        partner = partner;
        before = omega arith;
        waste = λ k l h o w.
            let e : k ≡ 0 = omega arith in
            let a = ap (λ (x : ℕ). pair_waste rects x l) e in
            let b = partner.waste l (omega arith) w in
            omega (arith, ints);
        number = λ k l h o w q. omega arith;
      },
    ) in
    record { waste = both.0; seeds = both.1 }

-- the next entry's pairs would waste no more
pub best-kept : (n : ℕ) (rects : List Bounds) (best pair : Seeds) → IsBest n rects best → pair.waste ≡ pair_waste rects n pair.second
    → IsPartner rects n pair.second → pair.waste ≤ℤ best.waste → IsBest (n + 1) rects best
best-kept n rects best pair is waste partner no_more = record {
  waste = is.waste;
  seeds = seeds-kept n rects best.first best.second pair.second is.seeds partner (let a = is.waste in omega (arith, ints));
}

-- a pair of the next entry would waste more
pub best-next : (n : ℕ) (rects : List Bounds) (best pair : Seeds) → IsBest n rects best → pair.first ≡ n → pair.waste ≡ pair_waste rects n pair.second
    → IsPartner rects n pair.second → best.waste <ℤ pair.waste → IsBest (n + 1) rects pair
best-next n rects best pair is first waste partner more =
    let P : ℕ → Type 0 = λ i. (pair.waste ≡ pair_waste rects i pair.second) × SeedsBelow (n + 1) rects i pair.second in
    let both = subst P (sym first)
    (waste, seeds-next n rects best.first best.second pair.second is.seeds partner (let a = is.waste in omega (arith, ints))) in
    record { waste = both.0; seeds = both.1 }
