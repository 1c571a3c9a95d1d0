use Rattle.std.proofs.Common.{refl, sym, ◌∙◌}
use Rattle.std.proofs.lemmas.Bool.{false≢true}
use Rattle.std.proofs.lemmas.List.{nil_from_length}
use Rattle.place_values.proofs.Distinct.{distinct_more, distinct_parts, distinct_none}
use Rattle.place_values.proofs.limits.+are_distinct.Goals as goal

pub returns-then-is_new : goal.returns-then-is_new
returns-then-is_new t c =
    let is = c.in-Some.ensures.cases.0 in (
      λ h. distinct_more _ _ _ is (c.is_new.ensures.0 c.if-is_new.true) (c.are_distinct.ensures.0 h),
      λ h. c.are_distinct.ensures.1 (distinct_parts _ _ _ is h).1,
    )

pub returns-else-is_new : goal.returns-else-is_new
returns-else-is_new t c = (
  λ h. absurd (false≢true (sym c.if-is_new.false ∙ h)),
  λ h. c.is_new.ensures.1 (distinct_parts _ _ _ c.in-Some.ensures.cases.0 h).0,
)

pub returns-in-None : goal.returns-in-None
returns-in-None t c = (λ h. distinct_none _ (nil_from_length _ c.in-None.ensures.cases), λ h. refl)
