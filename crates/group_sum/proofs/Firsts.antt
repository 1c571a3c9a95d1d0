-- The splits of a set, one after another.
use Rattle.std.proofs.Common.{◌≡◌, ℕ, ◌+◌, ◌*◌, ◌/◌, ◌^◌, ◌<◌, ◌≤◌, Bool, true, false, cond, ◌||◌, List, [], ◌∷◌, length, get_or, Option, Some, None, bit_and, bit_xor, refl, sym, ap, subst, ◌∙◌, arith, ◌⊎◌, inl, inr, ⊎_elim}
use Rattle.std.specs.List.{Contains}
use Rattle.std.proofs.lemmas.Bool.{cases_Bool, cases_eq, cond_both}
use Rattle.place_values.specs.declared.query.Pick.{Pick}
use Rattle.place_values.specs.declared.query.Chosen.{Chosen}
use Rattle.group_sum.specs.Splits.{sides_of, joined, is_one_place, joined_of, split_at, IsPart, comes_first, IsFirstSplit, IsLeastSplit, first_of}
use Rattle.group_sum.specs.Tables.{cost_in, AreLow}
use Rattle.group_sum.proofs.Masks.{rest-sum}
use Rattle.group_sum.proofs.Steps.{chosen-linear}

-- what the splits below a part join to, of which none comes before it
pub record IsFirstBelow (count : ℕ) (kept : List (Option Chosen)) (set below : ℕ) (best : Chosen) : Type 0 where
  pub among : (part : ℕ) × IsPart set part × (split_at count kept set part ≡ Some best)
  pub first : (part : ℕ) (other : Chosen) → IsPart set part → part < below → split_at count kept set part ≡ Some other → comes_first other best ≡ false

-- the least of them, if any does
abbrev pub IsLeastBelow : ℕ → List (Option Chosen) → ℕ → ℕ → Option Chosen → Type 0
IsLeastBelow count kept set below None = (part : ℕ) → IsPart set part → part < below → split_at count kept set part ≡ None
IsLeastBelow count kept set below (Some best) = IsFirstBelow count kept set below best

not-itself : (best : Chosen) → comes_first best best ≡ false
not-itself best = ⊎_elim (λ (t : comes_first best best ≡ true). chosen-linear.one_way best best t) (λ f. f) (cases_Bool (comes_first best best))

module _ (count : ℕ) (kept : List (Option Chosen)) (set : ℕ) where
  -- none yet
  pub below-one : IsLeastBelow count kept set 1 None
  below-one part is lt = let some = is.some in absurd (omega arith)

  -- all
  pub below-all : (best : Option Chosen) → IsLeastBelow count kept set (set / 2 + 1) best → IsLeastSplit count kept set best
  below-all None h = λ part is. h part is (let half = is.half in omega arith)
  below-all (Some best) h = record { among = h.among; first = λ part other is found. h.first part other is (let half = is.half in omega arith) found }

  -- a number that isn't a part of the set
  pub below-other : (part : ℕ) (best : Option Chosen) → (bit_and part set ≡ part → ⊥) → IsLeastBelow count kept set part best → IsLeastBelow count kept set (part + 1) best
  below-other part None not h = λ other is lt. ⊎_elim
      (λ (e : other ≡ part). absurd (not (subst (λ n. bit_and n set ≡ n) e is.within)))
      (λ ne. h other is (omega arith))
      (cases_eq other part)
  below-other part (Some best) not h = record {
    among = h.among;
    first = λ other chosen is lt found. ⊎_elim
        (λ (e : other ≡ part). absurd (not (subst (λ n. bit_and n set ≡ n) e is.within)))
        (λ ne. h.first other chosen is (omega arith) found)
        (cases_eq other part);
  }

  -- a part
  pub below-part : (part : ℕ) (best : Option Chosen) → IsPart set part → IsLeastBelow count kept set part best → IsLeastBelow count kept set (part + 1) (first_of best (split_at count kept set part))
  below-part part best here h = go best (split_at count kept set part) refl h
    where
      go : (best found : Option Chosen) → split_at count kept set part ≡ found → IsLeastBelow count kept set part best → IsLeastBelow count kept set (part + 1) (first_of best found)
      go None None e h = λ other is lt. ⊎_elim (λ (i : other ≡ part). ap (split_at count kept set) i ∙ e) (λ ne. h other is (omega arith)) (cases_eq other part)
      go (Some best) None e h = record {
        among = h.among;
        first = λ other chosen is lt found. ⊎_elim
            (λ (i : other ≡ part). let none : split_at count kept set other ≡ None = ap (split_at count kept set) i ∙ e in absurd (cc))
            (λ ne. h.first other chosen is (omega arith) found)
            (cases_eq other part);
      }
      go None (Some new) e h = record {
        among = (part, here, e);
        first = λ other chosen is lt found. ⊎_elim
            (λ (i : other ≡ part). let one : split_at count kept set other ≡ Some new = ap (split_at count kept set) i ∙ e in let same : chosen ≡ new = cc in subst (λ c. comes_first c new ≡ false) (sym same) (not-itself new))
            (λ ne. let none = h other is (omega arith) in absurd (cc))
            (cases_eq other part);
      }
      go (Some best) (Some new) e h = cond_both (comes_first new best) (Some new) (Some best) (IsLeastBelow count kept set (part + 1))
          (λ t. record {
            among = (part, here, e);
            first = λ other chosen is lt found. ⊎_elim
                (λ (i : other ≡ part). let one : split_at count kept set other ≡ Some new = ap (split_at count kept set) i ∙ e in let same : chosen ≡ new = cc in subst (λ c. comes_first c new ≡ false) (sym same) (not-itself new))
                (λ ne. chosen-linear.chain new best chosen (chosen-linear.one_way new best t) (h.first other chosen is (omega arith) found))
                (cases_eq other part);
          })
          (λ f. record {
            among = h.among;
            first = λ other chosen is lt found. ⊎_elim
                (λ (i : other ≡ part). let one : split_at count kept set other ≡ Some new = ap (split_at count kept set) i ∙ e in let same : chosen ≡ new = cc in subst (λ c. comes_first c best ≡ false) (sym same) f)
                (λ ne. h.first other chosen is (omega arith) found)
                (cases_eq other part);
          })
