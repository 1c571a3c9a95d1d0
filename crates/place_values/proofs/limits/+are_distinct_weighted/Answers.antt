use Rattle.std.proofs.Common.{ℕ, List, map, refl, sym, ap, ◌∙◌}
use Rattle.std.proofs.lemmas.Bool.{false≢true}
use Rattle.std.proofs.lemmas.List.{nil_from_length}
use Rattle.place_values.proofs.Distinct.{distinct_more, distinct_parts, distinct_none}
use Rattle.place_values.proofs.limits.+are_distinct_weighted.Goals as goal

pub returns-then-is_new_weighted : goal.returns-then-is_new_weighted
returns-then-is_new_weighted t c =
    let is = ap (map (λ (term : List ℕ × ℕ). term.0)) c.in-Some.ensures.cases.0 in (
      λ h. distinct_more _ _ _ is (c.is_new_weighted.ensures.0 c.if-is_new_weighted.true) (c.are_distinct_weighted.ensures.0 h),
      λ h. c.are_distinct_weighted.ensures.1 (distinct_parts _ _ _ is h).1,
    )

pub returns-else-is_new_weighted : goal.returns-else-is_new_weighted
returns-else-is_new_weighted t c =
    let is = ap (map (λ (term : List ℕ × ℕ). term.0)) c.in-Some.ensures.cases.0 in (
      λ h. absurd (false≢true (sym c.if-is_new_weighted.false ∙ h)),
      λ h. c.is_new_weighted.ensures.1 (distinct_parts _ _ _ is h).0,
    )

pub returns-in-None : goal.returns-in-None
returns-in-None t c = (λ h. distinct_none _ (ap (map (λ (term : List ℕ × ℕ). term.0)) (nil_from_length _ c.in-None.ensures.cases)), λ h. refl)
