-- The pair of entries that share the fewest words.
use Rattle.std.proofs.Common.{◌≡◌, ℕ, ◌+◌, ◌<◌, ◌≤◌, arith, ap, sym, subst, inl, inr, List}
use Rattle.split_policy.proofs.Sums.{at_end}
use Rattle.text_policy.specs.Words.{like_at}
use Rattle.text_policy.specs.declared.beginners.Pair.{Pair}
use Rattle.text_policy.specs.Splits.{IsPartner}

-- the partner of entry i among the entries below n
pub record PartnerBelow (n : ℕ) (like : List (List ℕ)) (i j : ℕ) : Type 0 where
  pub order : i < j
  pub before : j < n
  pub fewest : (l : ℕ) → i < l → l < n → like_at like i j ≤ like_at like i l
  pub number : (l : ℕ) → i < l → l < n → like_at like i l ≡ like_at like i j → j ≤ l

-- the beginners among the pairs whose first entry is below n
pub record BeginnersBelow (n : ℕ) (like : List (List ℕ)) (i j : ℕ) : Type 0 where
  pub partner : IsPartner like i j
  pub before : i < n
  pub fewest : (k l : ℕ) → k < n → k < l → l < 33 → like_at like i j ≤ like_at like k l
  pub number : (k l : ℕ) → k < n → k < l → l < 33 → like_at like k l ≡ like_at like i j → i ≤ k

-- the pairs of the next entry share no fewer
pub beginners-kept : (n : ℕ) (like : List (List ℕ)) (i j m : ℕ) → BeginnersBelow n like i j → IsPartner like n m
    → like_at like i j ≤ like_at like n m → BeginnersBelow (n + 1) like i j
beginners-kept n like i j m best pair no_fewer = record {
  partner = best.partner;
  before = let b = best.before in omega arith;
  fewest = λ k l h o w. elim (at_end n k h) [
    | inl e ↦
        let a = ap (λ (x : ℕ). like_at like x l) e in
        let b = pair.fewest l (omega arith) w in
        omega arith
    | inr g ↦ best.fewest k l g o w
  ];
  number = λ k l h o w q. elim (at_end n k h) [
    | inl e ↦ let b = best.before in omega arith
    | inr g ↦ best.number k l g o w q
  ];
}

-- a pair of the next entry shares fewer
pub beginners-next : (n : ℕ) (like : List (List ℕ)) (i j m : ℕ) → BeginnersBelow n like i j → IsPartner like n m
    → like_at like n m < like_at like i j → BeginnersBelow (n + 1) like n m
beginners-next n like i j m best pair fewer = record {
  partner = pair;
  before = omega arith;
  fewest = λ k l h o w. elim (at_end n k h) [
    | inl e ↦
        let a = ap (λ (x : ℕ). like_at like x l) e in
        let b = pair.fewest l (omega arith) w in
        omega arith
    | inr g ↦ let a = best.fewest k l g o w in omega arith
  ];
  number = λ k l h o w q. elim (at_end n k h) [
    | inl e ↦ omega arith
    | inr g ↦ let a = best.fewest k l g o w in absurd (omega arith)
  ];
}

-- the best pair so far, and how many words it shares
pub record IsBest (n : ℕ) (like : List (List ℕ)) (best : Pair) : Type 0 where
  pub shared : best.shared ≡ like_at like best.first best.second
  pub beginners : BeginnersBelow n like best.first best.second

-- the first entry's pairs
pub best-first : (like : List (List ℕ)) (best : Pair) → best.first ≡ 0 → best.shared ≡ like_at like 0 best.second
    → IsPartner like 0 best.second → IsBest 1 like best
best-first like best first shared partner =
    let P : ℕ → Type 0 = λ i. (best.shared ≡ like_at like i best.second) × BeginnersBelow 1 like i best.second in
    let both = subst P (sym first) (
      shared,
      record {
        partner = partner;
        before = omega arith;
        fewest = λ k l h o w.
            let e : k ≡ 0 = omega arith in
            let a = ap (λ (x : ℕ). like_at like x l) e in
            let b = partner.fewest l (omega arith) w in
            omega arith;
        number = λ k l h o w q. omega arith;
      },
    ) in
    record { shared = both.0; beginners = both.1 }

-- the next entry's pairs share no fewer
pub best-kept : (n : ℕ) (like : List (List ℕ)) (best pair : Pair) → IsBest n like best → pair.shared ≡ like_at like n pair.second
    → IsPartner like n pair.second → best.shared ≤ pair.shared → IsBest (n + 1) like best
best-kept n like best pair is shared partner no_fewer = record {
  shared = is.shared;
  beginners = beginners-kept n like best.first best.second pair.second is.beginners partner (let a = is.shared in omega arith);
}

-- a pair of the next entry shares fewer
pub best-next : (n : ℕ) (like : List (List ℕ)) (best pair : Pair) → IsBest n like best → pair.first ≡ n → pair.shared ≡ like_at like n pair.second
    → IsPartner like n pair.second → pair.shared < best.shared → IsBest (n + 1) like pair
best-next n like best pair is first shared partner fewer =
    let P : ℕ → Type 0 = λ i. (pair.shared ≡ like_at like i pair.second) × BeginnersBelow (n + 1) like i pair.second in
    let both = subst P (sym first)
    (shared, beginners-next n like best.first best.second pair.second is.beginners partner (let a = is.shared in omega arith)) in
    record { shared = both.0; beginners = both.1 }
