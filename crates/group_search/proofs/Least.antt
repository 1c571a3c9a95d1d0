-- The least of some choices, by what it is compared with.
use Rattle.std.proofs.Common.{◌≡◌, ◌<◌, sym, true, false, List, [], ◌∷◌, take, Some, refl, subst, ap, ⊎_elim}
use Rattle.std.proofs.lemmas.Bool.{cases_Bool}
use Rattle.std.specs.Cmp.{nat_cmp_is}
use Rattle.std.specs.Cmp.Lexicographic.{slice_cmp}
use Rattle.std.specs.List.{AllByRecursion, Contains}
use Rattle.std.specs.Ordering.{ordering_then}
use Rattle.std.specs.declared.cmp.Ordering.TheVariants.{Greater}
use Rattle.place_values.specs.First.{ranked, IsRanked}
use Rattle.place_values.specs.Laws.{ranked_is}
use Rattle.place_values.specs.Members.{SameMembers, ranked_same}
use Rattle.best_first.specs.Lists.{all_in}
use Rattle.spatial_base.specs.Point.{Viewpoint}
use Rattle.place_values.specs.declared.query.Pick.{Pick}
use Rattle.place_values.specs.declared.query.Chosen.{Chosen}
use Rattle.place_values.specs.Group.{choice_cost, choice_cmp, pick_cmp, is_cheaper, head_of, least_of}
use Rattle.place_values.specs.GroupLaws.{choices_linear}
use Rattle.group_search.proofs.Members.{all-ranked, ranked-all, among-ranked, contains-none}
use Rattle.boolean_queries.proofs.Histories.{all-contained}

-- a choice with its cost
abbrev pub costed : Viewpoint → List Pick → Chosen
costed at picks = record { cost = choice_cost at picks; picks = picks }

-- none comes before itself
pub itself : (at : Viewpoint) (picks : List Pick) → is_cheaper at picks picks ≡ false
itself at picks = ⊎_elim (λ (t : is_cheaper at picks picks ≡ true). (choices_linear (choice_cost at)).one_way picks picks t) (λ f. f) (cases_Bool (is_cheaper at picks picks))

module _ (at : Viewpoint) (choices : List (List Pick)) where
  head-holds : (P : List Pick → Type 0) (best : Chosen) (in_order : List (List Pick)) → AllByRecursion P in_order → head_of at (take 1 in_order) ≡ Some best → P best.picks
  head-holds P best [] all is = absurd (cc)
  head-holds P best (picks ∷ rest) all is = let same : costed at picks ≡ best = cc in subst (λ (c : Chosen). P c.picks) same all.0

  -- the least is one of them
  pub least-among : (best : Chosen) → least_of at choices ≡ Some best → Contains choices best.picks
  least-among best is = head-holds (Contains choices) best (ranked (is_cheaper at) choices) (all-ranked (choices_linear (choice_cost at)) (Contains choices) choices (all_in choices)) is

  head-first : (best : Chosen) (in_order : List (List Pick)) → IsRanked (is_cheaper at) in_order → head_of at (take 1 in_order) ≡ Some best → AllByRecursion (λ picks. is_cheaper at picks best.picks ≡ false) in_order
  head-first best [] in_order is = tt
  head-first best (picks ∷ rest) in_order is =
      let same : costed at picks ≡ best = cc in
      subst (λ (c : Chosen). AllByRecursion (λ other. is_cheaper at other c.picks ≡ false) (picks ∷ rest)) same (itself at picks, in_order.0)

  -- and none comes before it
  pub least-first : (best : Chosen) → least_of at choices ≡ Some best → AllByRecursion (λ picks. is_cheaper at picks best.picks ≡ false) choices
  least-first best is =
      ranked-all (choices_linear (choice_cost at)) (λ picks. is_cheaper at picks best.picks ≡ false) choices (head-first best (ranked (is_cheaper at) choices) (ranked_is (choices_linear (choice_cost at)) choices) is)

  -- where there is a choice, there is a least one
  pub least-some : (picks : List Pick) → Contains choices picks → (best : Chosen) × (least_of at choices ≡ Some best)
  least-some picks among = some (ranked (is_cheaper at) choices) (among-ranked (choices_linear (choice_cost at)) choices picks among)
    where
      some : (in_order : List (List Pick)) → Contains in_order picks → (best : Chosen) × (head_of at (take 1 in_order) ≡ Some best)
      some [] c = absurd (contains-none picks c)
      some (first ∷ rest) c = (costed at first, refl)

  -- one of them that none comes before is the least
  pub least-is : (picks : List Pick) → Contains choices picks → AllByRecursion (λ other. is_cheaper at other picks ≡ false) choices → least_of at choices ≡ Some (costed at picks)
  least-is picks among all =
      let l = choices_linear (choice_cost at) in
      first-is (ranked (is_cheaper at) choices) (ranked_is l choices) (all-ranked l (λ other. is_cheaper at other picks ≡ false) choices all) (among-ranked l choices picks among)
    where
      first-is : (in_order : List (List Pick)) → IsRanked (is_cheaper at) in_order → AllByRecursion (λ other. is_cheaper at other picks ≡ false) in_order → Contains in_order picks → head_of at (take 1 in_order) ≡ Some (costed at picks)
      first-is [] ranks all c = absurd (contains-none picks c)
      first-is (first ∷ rest) ranks all c =
          let not_before = all-contained (λ other. is_cheaper at other first ≡ false) (first ∷ rest) picks (itself at first, ranks.0) c in
          let same : first ≡ picks = (choices_linear (choice_cost at)).same first picks all.0 not_before in
          ap (λ p. Some (costed at p)) same

-- a choice of a greater cost comes after
pub dearer-after : (at : Viewpoint) (picks best : List Pick) → choice_cost at best < choice_cost at picks → choice_cmp at picks best ≡ Greater
dearer-after at picks best less = ap (λ o. ordering_then o (slice_cmp pick_cmp picks best)) (sym (nat_cmp_is (choice_cost at picks) (choice_cost at best) Greater less))

-- the same choices have the same least one
pub least-same : (at : Viewpoint) (choices others : List (List Pick)) → SameMembers choices others → least_of at others ≡ least_of at choices
least-same at choices others same = ap (λ in_order. head_of at (take 1 in_order)) (ranked_same (choices_linear (choice_cost at)) choices others same)
