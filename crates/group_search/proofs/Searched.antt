-- What the search through some lists finds: the least cost of their choices, and then the least keys within it.
use Rattle.std.proofs.Common.{◌≡◌, ℕ, ◌<◌, ◌≤◌, false, List, [], ◌∷◌, ◌++◌, Some, Vec, append-nil, refl, sym, ap, subst, ◌∙◌, arith, ⊎_elim}
use Rattle.std.proofs.lemmas.Bool.{cases_lt}
use Rattle.std.proofs.lemmas.List.Elements.{Contains-append_cases}
use Rattle.std.specs.Cmp.{nat_cmp_is}
use Rattle.std.specs.Cmp.Lexicographic.{slice_cmp}
use Rattle.std.specs.List.{AllByRecursion, Contains}
use Rattle.std.specs.Ordering.{is_lt, ordering_then}
use Rattle.std.specs.declared.alloc.Global.{Global}
use Rattle.std.specs.declared.cmp.Ordering.TheVariants.{Equal}
use Rattle.best_first.specs.Lists.{all_in, all_weaker}
use Rattle.spatial_base.specs.Point.{Viewpoint}
use Rattle.place_values.specs.declared.query.Pick.{Pick}
use Rattle.place_values.specs.declared.query.Chosen.{Chosen}
use Rattle.place_values.specs.Group.{product, choice_cost, is_cheaper, least_of, pick_cmp}
use Rattle.place_values.specs.GroupLaws.{cost_front, least_cost}
use Rattle.place_values.specs.Search.{lists_in}
use Rattle.group_search.specs.Choices.{IsChoice}
use Rattle.group_search.specs.Fronts.{Completes, HasLeastKeys}
use Rattle.group_search.specs.Picks.{AreMeasured}
use Rattle.group_search.proofs.Cuts.{covered-least}
use Rattle.group_search.proofs.Fronts.{fewer-cost, met-choice}
use Rattle.group_search.proofs.Least.{dearer-after}
use Rattle.group_search.proofs.Members.{all-map, map-all, contains-later, contains-cases, contains-none}
use Rattle.best_first.proofs.Histories.{contains_head as contains-here}
use Rattle.group_search.proofs.Products.{choice-among, all-choices}
use Rattle.boolean_queries.proofs.Histories.{all-contained}

-- the picks of each list are as far as they say
abbrev pub Each : Viewpoint → List (Vec Pick Global) → Type 0
Each at lists = AllByRecursion (λ (list : Vec Pick Global). AreMeasured at list.items) lists

-- lists that are among others are measured as these are
pub each-among : (at : Viewpoint) (lists others : List (Vec Pick Global)) → ((list : List Pick) → Contains (lists_in lists) list → Contains (lists_in others) list) → Each at others → Each at lists
each-among at lists others own all =
    all-map (AreMeasured at) (λ (list : Vec Pick Global). list.items) lists
    (all_weaker (Contains (lists_in lists)) (AreMeasured at) (λ list c. all-contained (AreMeasured at) (lists_in others) list (map-all (AreMeasured at) (λ (list : Vec Pick Global). list.items) others all) (own list c)) (lists_in lists) (all_in (lists_in lists)))

-- a choice that costs more doesn't come before
dearer : (at : Viewpoint) (choice best : List Pick) → choice_cost at best < choice_cost at choice → is_cheaper at choice best ≡ false
dearer at choice best more = ap is_lt (dearer-after at choice best more)

-- nor does one of the same cost and no lesser keys
tied : (at : Viewpoint) (choice best : List Pick) → choice_cost at choice ≡ choice_cost at best → is_lt (slice_cmp pick_cmp choice best) ≡ false → is_cheaper at choice best ≡ false
tied at choice best same after =
    ap (λ o. is_lt (ordering_then o (slice_cmp pick_cmp choice best))) (sym (nat_cmp_is (choice_cost at choice) (choice_cost at best) Equal same)) ∙ after

module _ (at : Viewpoint) (lists kept sorted tried : List (List Pick)) (best : Chosen) (least : ℕ)
    (own : (choice : List Pick) → IsChoice kept choice → IsChoice lists choice)
    (all : (choice : List Pick) → IsChoice lists choice → choice_cost at choice ≤ best.cost → IsChoice kept choice)
    (among : (list : List Pick) → Contains sorted list → Contains kept list)
    (lowest : 0 < least → (choice : List Pick) → IsChoice sorted choice → least ≤ choice_cost at choice)
    (was : Some best ≡ least_of at tried)
  where
    -- a choice of the lists that are kept goes through them in any order
    sorted-choice : (choice : List Pick) → IsChoice kept choice → (other : List Pick) × IsChoice sorted other × ((pick : Pick) → Contains other pick → Contains choice pick)
    sorted-choice choice one = met-choice kept sorted choice one among

    costs-least : (choice : List Pick) → IsChoice kept choice → least ≤ choice_cost at choice
    costs-least choice one =
        let other = sorted-choice choice one in
        let fewer = fewer-cost at other.0 choice other.2 in
        ⊎_elim
        (λ (some : 0 < least). let low = lowest some other.0 other.1 in omega arith)
        (λ (none : least ≤ 0). omega arith)
        (cases_lt 0 least)

    completed : (choice : List Pick) → IsChoice kept choice → choice_cost at choice ≤ least → Completes at sorted least choice
    completed choice one cheap =
        let other = sorted-choice choice one in (
          other.0,
          other.1,
          (let fewer = fewer-cost at (choice ++ other.0) choice (λ pick c. ⊎_elim
              (λ (early : Contains choice pick). early)
              (λ (late : Contains other.0 pick). other.2 pick late)
              (Contains-append_cases choice other.0 pick c)) in
              omega arith),
        )

    begun : (choice : List Pick) → IsChoice kept choice → choice_cost at choice ≤ least → Completes at sorted least []
    begun choice one cheap =
        let other = sorted-choice choice one in
        (other.0, other.1, (let fewer = fewer-cost at other.0 choice other.2 in omega arith))

    costs : best.cost ≡ choice_cost at best.picks
    costs = least_cost (choice_cost at) tried best (sym was)

    is-choice : (choice : List Pick) → Contains (product lists) choice → IsChoice lists choice
    is-choice choice c = all-contained (IsChoice lists) (product lists) choice (all-choices lists) c

    -- where each choice costs more, the best one stays
    pub none-cheaper : best.cost < least → least_of at tried ≡ least_of at (tried ++ product lists)
    none-cheaper more =
        ap (least_of at) (sym (append-nil tried)) ∙ covered-least at tried [] (product lists) best was (λ choice c. absurd (contains-none choice c))
        (λ choice c. (
          best.picks,
          contains-here best.picks [],
          ⊎_elim
              (λ (dear : best.cost < choice_cost at choice). dearer at choice best.picks (omega (arith, costs)))
              (λ (near : choice_cost at choice ≤ best.cost). absurd (let low = costs-least choice (all choice (is-choice choice c) near) in omega arith))
              (cases_lt best.cost (choice_cost at choice)),
        ))

    -- and where none can be completed at the least cost
    pub none-found : (least < best.cost → Completes at sorted least []) → (Completes at sorted least [] → ⊥) → least_of at tried ≡ least_of at (tried ++ product lists)
    none-found found none =
        ap (least_of at) (sym (append-nil tried)) ∙ covered-least at tried [] (product lists) best was (λ choice c. absurd (contains-none choice c))
        (λ choice c. (
          best.picks,
          contains-here best.picks [],
          ⊎_elim
              (λ (dear : best.cost < choice_cost at choice). dearer at choice best.picks (omega (arith, costs)))
              (λ (near : choice_cost at choice ≤ best.cost). ⊎_elim
              (λ (lesser : least < best.cost). absurd (none (found lesser)))
              (λ (same : best.cost ≤ least). absurd (none (begun choice (all choice (is-choice choice c) near) (omega arith))))
              (cases_lt least best.cost))
              (cases_lt best.cost (choice_cost at choice)),
        ))

    module _ (front : List Pick) (has : HasLeastKeys at kept sorted least [] front) where
      front-choice : IsChoice kept front
      front-choice = subst (IsChoice kept) (sym has.is) has.choice

      -- the choice of least keys costs that
      pub front-costs : least ≡ choice_cost at front
      front-costs =
          let low = costs-least front front-choice in
          let done = has.within in
          let cheap = done.2 in
          let more = cost_front at front done.0 in
          omega arith

      covers : (choice : List Pick) → IsChoice lists choice → (other : List Pick) × Contains (best.picks ∷ front ∷ []) other × (is_cheaper at choice other ≡ false)
      covers choice one = ⊎_elim
          (λ (dear : best.cost < choice_cost at choice). (best.picks, contains-here best.picks (front ∷ []), dearer at choice best.picks (omega (arith, costs))))
          (λ (near : choice_cost at choice ≤ best.cost).
          let mine = all choice one near in
          let low = costs-least choice mine in
          let cost = front-costs in (
            front,
            contains-later best.picks (front ∷ []) front (contains-here front []),
            ⊎_elim
                (λ (dear : least < choice_cost at choice). dearer at choice front (omega arith))
                (λ (cheap : choice_cost at choice ≤ least). tied at choice front (omega arith)
                (subst (λ (f : List Pick). is_lt (slice_cmp pick_cmp choice f) ≡ false) (sym has.is) (has.least choice mine (completed choice mine cheap))))
                (cases_lt least (choice_cost at choice)),
          ))
          (cases_lt best.cost (choice_cost at choice))

      -- and with it all of the lists are tried
      pub one-found : least_of at (tried ++ front ∷ []) ≡ least_of at (tried ++ product lists)
      one-found = covered-least at tried (front ∷ []) (product lists) best was
          (λ choice c. ⊎_elim
          (λ (same : front ≡ choice). subst (Contains (product lists)) same (choice-among lists front (own front front-choice)))
          (λ (later : Contains [] choice). absurd (contains-none choice later))
          (contains-cases front [] choice c))
          (λ choice c. covers choice (is-choice choice c))

-- lists that are among none are none
pub no-lists : {X : Type 0} (lists others : List X) → ((list : X) → Contains lists list → Contains others list) → others ≡ [] → lists ≡ []
no-lists [] others own none = refl
no-lists {X} (list ∷ lists) others own none = absurd (contains-none list (subst (λ (l : List X). Contains l list) none (own list (contains-here list lists))))

-- nothing is completed at no cost
pub nothing-completed : (at : Viewpoint) (lists : List (List Pick)) (most : ℕ) → lists ≡ [] → Completes at lists most []
nothing-completed at lists most none = subst (λ (l : List (List Pick)). Completes at l most []) (sym none) ([], tt, omega arith)
