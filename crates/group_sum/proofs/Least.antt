-- The least choice of some lists, by what it is compared with.
use Rattle.std.proofs.Common.{◌≡◌, ℕ, Bool, true, false, List, [], ◌∷◌, take, Option, Some, None, refl, sym, ap, subst, ◌∙◌, ⊎_elim}
use Rattle.std.proofs.lemmas.Bool.{cases_Bool}
use Rattle.std.specs.List.{AllByRecursion, Contains}
use Rattle.place_values.specs.declared.query.Pick.{Pick}
use Rattle.place_values.specs.declared.query.Chosen.{Chosen}
use Rattle.place_values.specs.First.{ranked, IsRanked}
use Rattle.place_values.specs.Laws.{ranked_is}
use Rattle.place_values.specs.Group.{product, is_less, head_by, least_by}
use Rattle.place_values.specs.GroupLaws.{choices_linear}
use Rattle.place_values.specs.Sum.{sum_cost}
use Rattle.best_first.specs.Lists.{all_in}
use Rattle.boolean_queries.proofs.Histories.{all-contained}
use Rattle.group_search.specs.Choices.{IsChoice}
use Rattle.group_search.proofs.Members.{all-ranked, ranked-all, among-ranked, contains-none}
use Rattle.group_search.proofs.Products.{choice-among, all-choices}

-- a choice with what it costs
abbrev pub costed : List Pick → Chosen
costed picks = record { cost = sum_cost picks; picks = picks }

-- none comes before itself
pub not-itself : (picks : List Pick) → is_less sum_cost picks picks ≡ false
not-itself picks = ⊎_elim (λ (t : is_less sum_cost picks picks ≡ true). (choices_linear sum_cost).one_way picks picks t) (λ f. f) (cases_Bool (is_less sum_cost picks picks))

-- a choice of some lists before which none comes
pub record IsLeast (lists : List (List Pick)) (best : List Pick) : Type 0 where
  pub choice : IsChoice lists best
  pub first : (choice : List Pick) → IsChoice lists choice → is_less sum_cost choice best ≡ false

-- the first in an order, with what it costs
head-costed : (best : Chosen) (in_order : List (List Pick)) → head_by sum_cost (take 1 in_order) ≡ Some best → best ≡ costed best.picks
head-costed best [] is = absurd (cc)
head-costed best (picks ∷ rest) is = let same : costed picks ≡ best = cc in subst (λ (c : Chosen). c ≡ costed c.picks) same refl

head-holds : (P : List Pick → Type 0) (best : Chosen) (in_order : List (List Pick)) → AllByRecursion P in_order → head_by sum_cost (take 1 in_order) ≡ Some best → P best.picks
head-holds P best [] all is = absurd (cc)
head-holds P best (picks ∷ rest) all is = let same : costed picks ≡ best = cc in subst (λ (c : Chosen). P c.picks) same all.0

head-first : (best : Chosen) (in_order : List (List Pick)) → IsRanked (is_less sum_cost) in_order → head_by sum_cost (take 1 in_order) ≡ Some best → AllByRecursion (λ picks. is_less sum_cost picks best.picks ≡ false) in_order
head-first best [] in_order is = tt
head-first best (picks ∷ rest) in_order is =
    let same : costed picks ≡ best = cc in
    subst (λ (c : Chosen). AllByRecursion (λ other. is_less sum_cost other c.picks ≡ false) (picks ∷ rest)) same (not-itself picks, in_order.0)

module _ (lists : List (List Pick)) where
  -- the kept choice has its own cost
  pub kept-costed : (best : Chosen) → least_by sum_cost (product lists) ≡ Some best → best ≡ costed best.picks
  kept-costed best is = head-costed best (ranked (is_less sum_cost) (product lists)) is

  -- it is the least
  pub kept-least : (best : Chosen) → least_by sum_cost (product lists) ≡ Some best → IsLeast lists best.picks
  kept-least best is =
      let l = choices_linear sum_cost in
      let before : AllByRecursion (λ picks. is_less sum_cost picks best.picks ≡ false) (product lists) =
      ranked-all l (λ picks. is_less sum_cost picks best.picks ≡ false) (product lists) (head-first best (ranked (is_less sum_cost) (product lists)) (ranked_is l (product lists)) is) in
      record {
        choice = head-holds (IsChoice lists) best (ranked (is_less sum_cost) (product lists)) (all-ranked l (IsChoice lists) (product lists) (all-choices lists)) is;
        first = λ choice among. all-contained (λ picks. is_less sum_cost picks best.picks ≡ false) (product lists) choice before (choice-among lists choice among);
      }

  -- where there is a choice, one is kept
  pub one-kept : (choice : List Pick) → IsChoice lists choice → (best : Chosen) × (least_by sum_cost (product lists) ≡ Some best)
  one-kept choice is = some (ranked (is_less sum_cost) (product lists)) (among-ranked (choices_linear sum_cost) (product lists) choice (choice-among lists choice is))
    where
      some : (in_order : List (List Pick)) → Contains in_order choice → (best : Chosen) × (head_by sum_cost (take 1 in_order) ≡ Some best)
      some [] c = absurd (contains-none choice c)
      some (first ∷ rest) c = (costed first, refl)

  -- the least is kept
  pub least-kept : (choice : List Pick) → IsLeast lists choice → least_by sum_cost (product lists) ≡ Some (costed choice)
  least-kept choice least =
      let kept = one-kept choice least.choice in
      let other : IsLeast lists kept.0.picks = kept-least kept.0 kept.1 in
      let same : kept.0.picks ≡ choice = (choices_linear sum_cost).same kept.0.picks choice (least.first kept.0.picks other.choice) (other.first choice least.choice) in
      kept.1 ∙ ap (λ (c : Chosen). Some c) (kept-costed kept.0 kept.1 ∙ ap costed same)
