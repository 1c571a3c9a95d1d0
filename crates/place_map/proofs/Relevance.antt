-- A place is relevant exactly where it holds one of the words, since each weighs something.
use Rattle.std.proofs.Common.{◌≡◌, ℕ, zero, suc, ◌+◌, ◌*◌, ◌≤◌, true, false, ◌||◌, nat_lt, [], ◌∷◌, All, refl, sym, ap, ◌∙◌, arith}
use Rattle.std.proofs.lemmas.Bool.{lt-ltb}
use Rattle.std.proofs.lemmas.List.Elements.{All-head, All-tail}
use Rattle.std.proofs.lemmas.List.Sums.{sum_by-cons}
use Rattle.spatial_base.specs.Key.{Name}
use Rattle.spatial_base.specs.Point.{Viewpoint, distance}
use Rattle.term_impacts.specs.Pairs.{impact_in}
use Rattle.place_values.specs.declared.place.Place.{Place}
use Rattle.place_values.specs.Filter.{has_word}
use Rattle.place_values.specs.Query.{IsWeight}
use Rattle.place_values.specs.Top.{Weighted, weight_sum, relevance, holds_some, top_cost}
use Rattle.place_values.specs.Answer.{top_hits}

-- a weighted impact and a rest are above 0 exactly where the impact or the rest is
weighs : (weight impact rest : ℕ) → 1 ≤ weight → nat_lt 0 (weight * impact + rest) ≡ (nat_lt 0 impact || nat_lt 0 rest)
weighs zero impact rest some = absurd (omega (arith, some))
weighs (suc weight) zero rest some =
    let none : suc weight * 0 + rest ≡ rest = omega arith in
    ap (nat_lt 0) none
weighs (suc weight) (suc impact) rest some =
    let more : suc weight * suc impact + rest ≡ suc (weight * suc impact + impact + rest) = omega arith in
    ap (nat_lt 0) more
    ∙ lt-ltb 0 (suc (weight * suc impact + impact + rest)) (omega arith)
    ∙ sym (ap (λ here. here || nat_lt 0 rest) (lt-ltb 0 (suc impact) (omega arith)))

-- the relevance of a place is above 0 exactly where it holds one of the words
pub relevant : (words : Weighted) (place : Place) → All IsWeight words → nat_lt 0 (relevance words place) ≡ holds_some words place
relevant [] place weights = refl
relevant (term ∷ words) place weights =
    ap (nat_lt 0) (sum_by-cons (λ t. t.1 * impact_in place.words t.0) term words)
    ∙ weighs term.1 (impact_in place.words term.0) (relevance words place) (All-head IsWeight term words weights).some
    ∙ ap (λ rest. has_word place term.0 || rest) (relevant words place (All-tail IsWeight term words weights))

-- a number that is not 0 is above it
above_none : (n : ℕ) → (n ≡ 0 → ⊥) → nat_lt 0 n ≡ true
above_none zero some = absurd (some refl)
above_none (suc n) some = lt-ltb 0 (suc n) (omega arith)

module _ (at : Viewpoint) (alpha reach : ℕ) (words : Weighted) (entry : Name × Place) (weights : All IsWeight words) where
  -- a place of no relevance gives nothing to a top query
  pub irrelevant : relevance words entry.1 ≡ 0 → top_hits at alpha reach words entry ≡ []
  irrelevant none =
      let holds : holds_some words entry.1 ≡ false = sym (relevant words entry.1 weights) ∙ ap (nat_lt 0) none in
      rw holds refl

  -- and a place of some its hit
  pub gives_top : (cost weight dist text : ℕ) → (text ≡ 0 → ⊥) → cost ≡ top_cost alpha reach weight dist text → weight ≡ weight_sum words
      → dist ≡ distance at entry.1.point → text ≡ relevance words entry.1
      → top_hits at alpha reach words entry ≡ record { cost = cost; key = entry.0; dist = dist; text = text; point = entry.1.point } ∷ []
  gives_top cost weight dist text some priced weighs far is =
      let holds : holds_some words entry.1 ≡ true = sym (relevant words entry.1 weights) ∙ ap (nat_lt 0) (sym is) ∙ above_none text some in
      rw (priced, weighs, far, is, holds) refl
