use Rattle.std.proofs.Common.{◌≡◌, ◌∙◌, ◌≤◌, ◌<◌, ◌++◌, ◌∷◌, [], ap, sym, subst, List, Vec, Some, arith}
use Rattle.std.proofs.lemmas.Result.{on_ok_weaker}
use Rattle.std.specs.List.{Contains}
use Rattle.std.specs.declared.alloc.Global.{Global}
use Rattle.place_values.specs.declared.query.Pick.{Pick}
use Rattle.place_values.specs.Group.{product, least_of, farthest, diameter, choice_cost}
use Rattle.place_values.specs.Search.{lists_in}
use Rattle.group_search.specs.Choices.{IsChoice}
use Rattle.group_search.specs.Fronts.{Completes, HasLeastKeys}
use Rattle.group_search.proofs.Searched.{Each, each-among, none-cheaper, none-found, one-found, front-costs, no-lists, nothing-completed}
use Rattle.group_search.proofs.search.least_choice.Goals as goal

pub returns-then-least-best-clause-least : goal.returns-then-least-best-clause-least
returns-then-least-best-clause-least c = λ measured tried was.
    let at = c.args.at.now in
    let lists = c.args.lists.now in
    let kept = c.in_ok-kept.kept.items in
    let sorted = c.in_ok-sorted.sorted.items in
    let least = c.in_ok-least.least in
    let best = c.args.best.now in
    let nothing = c.new-front.ensures.items in
    let among : (list : List Pick) → Contains (lists_in sorted) list → Contains (lists_in kept) list =
    λ list there. subst (λ (l : List (Vec Pick Global)). Contains (lists_in l) list) c.deref.ensures.value (c.in_ok-sorted.ensures.among list there) in
    let all_kept : Each at kept = c.in_ok-kept.ensures.measured measured in
    let all_sorted : Each at sorted = each-among at sorted kept among all_kept in
    let lowest : 0 < least → (choice : List Pick) → IsChoice (lists_in sorted) choice → least ≤ choice_cost at choice =
    λ some choice one. subst (λ (f : List Pick). least ≤ choice_cost at (f ++ choice)) nothing
    (c.in_ok-least.ensures.least some (sym (ap (farthest at) nothing)) (sym (ap (diameter at.scale) nothing)) (subst (Each at) (sym c.deref-2.ensures.value) all_sorted) choice
    (subst (λ (l : List (Vec Pick Global)). IsChoice (lists_in l) choice) (sym c.deref-2.ensures.value) one)) in
    was ∙ none-cheaper at (lists_in lists) (lists_in kept) (lists_in sorted) tried best least c.in_ok-kept.ensures.own (c.in_ok-kept.ensures.all measured) among lowest was c.if-least-best.true

pub returns-then-not-branch-clause-least : goal.returns-then-not-branch-clause-least
returns-then-not-branch-clause-least c = λ measured tried was.
    let at = c.args.at.now in
    let lists = c.args.lists.now in
    let kept = c.in_ok-kept.kept.items in
    let sorted = c.in_ok-sorted.sorted.items in
    let least = c.in_ok-least.least in
    let best = c.args.best.now in
    let nothing = c.new-front.ensures.items in
    let again = c.in_ok-least.ensures.same ∙ nothing in
    let among : (list : List Pick) → Contains (lists_in sorted) list → Contains (lists_in kept) list =
    λ list there. subst (λ (l : List (Vec Pick Global)). Contains (lists_in l) list) c.deref.ensures.value (c.in_ok-sorted.ensures.among list there) in
    let whole : (list : List Pick) → Contains (lists_in c.deref-3.result.now) list → Contains (lists_in c.deref-4.result.now) list =
    λ list there. subst (λ (l : List (Vec Pick Global)). Contains (lists_in l) list) (sym c.deref-4.ensures.value)
    (c.in_ok-sorted.ensures.whole list (subst (λ (l : List (Vec Pick Global)). Contains (lists_in l) list) (c.deref-3.ensures.value ∙ sym c.deref.ensures.value) there)) in
    let all_kept : Each at kept = c.in_ok-kept.ensures.measured measured in
    let all_sorted : Each at sorted = each-among at sorted kept among all_kept in
    let lowest : 0 < least → (choice : List Pick) → IsChoice (lists_in sorted) choice → least ≤ choice_cost at choice =
    λ some choice one. subst (λ (f : List Pick). least ≤ choice_cost at (f ++ choice)) nothing
    (c.in_ok-least.ensures.least some (sym (ap (farthest at) nothing)) (sym (ap (diameter at.scale) nothing)) (subst (Each at) (sym c.deref-2.ensures.value) all_sorted) choice
    (subst (λ (l : List (Vec Pick Global)). IsChoice (lists_in l) choice) (sym c.deref-2.ensures.value) one)) in
    let found : least < best.cost → Completes at (lists_in sorted) least [] =
    λ lesser. subst (λ (l : List (Vec Pick Global)). Completes at (lists_in l) least []) c.deref-2.ensures.value (subst (Completes at (lists_in c.deref-2.result.now) least) nothing
    (c.in_ok-least.ensures.found (omega (arith, c.if-least-best.false)) (sym (ap (farthest at) nothing)) (sym (ap (diameter at.scale) nothing)) (subst (Each at) (sym c.deref-2.ensures.value) all_sorted))) in
    let none : Completes at (lists_in sorted) least [] → ⊥ =
    λ done. c.in_ok-least_keys.ensures.none c.if-not-branch.true (sym (ap (farthest at) again)) (sym (ap (diameter at.scale) again))
    (subst (Each at) (sym c.deref-4.ensures.value) all_sorted) (subst (Each at) (sym c.deref-3.ensures.value) all_kept) whole
    (subst (Completes at (lists_in c.deref-4.result.now) least) (sym again) (subst (λ (l : List (Vec Pick Global)). Completes at (lists_in l) least []) (sym c.deref-4.ensures.value) done)) in
    was ∙ none-found at (lists_in lists) (lists_in kept) (lists_in sorted) tried best least c.in_ok-kept.ensures.own (c.in_ok-kept.ensures.all measured) among lowest was found none

pub returns-clause-least : goal.returns-clause-least
returns-clause-least c =
    let at = c.args.at.now in
    let lists = c.args.lists.now in
    let kept = c.in_ok-kept.kept.items in
    let sorted = c.in_ok-sorted.sorted.items in
    let least = c.in_ok-least.least in
    let best = c.args.best.now in
    let front = c.least_keys.new.front.items in
    let nothing = c.new-front.ensures.items in
    let again = c.in_ok-least.ensures.same ∙ nothing in
    let among : (list : List Pick) → Contains (lists_in sorted) list → Contains (lists_in kept) list =
    λ list there. subst (λ (l : List (Vec Pick Global)). Contains (lists_in l) list) c.deref.ensures.value (c.in_ok-sorted.ensures.among list there) in
    on_ok_weaker {Q = Each at lists → (tried : List (List Pick)) → Some best ≡ least_of at tried → Some c.offer.new.best ≡ least_of at (tried ++ product (lists_in lists))}
    c.offer.result
    (λ h measured tried was.
    let all_kept : Each at kept = c.in_ok-kept.ensures.measured measured in
    let all_sorted : Each at sorted = each-among at sorted kept among all_kept in
    let lowest : 0 < least → (choice : List Pick) → IsChoice (lists_in sorted) choice → least ≤ choice_cost at choice =
    λ some choice one. subst (λ (f : List Pick). least ≤ choice_cost at (f ++ choice)) nothing
    (c.in_ok-least.ensures.least some (sym (ap (farthest at) nothing)) (sym (ap (diameter at.scale) nothing)) (subst (Each at) (sym c.deref-2.ensures.value) all_sorted) choice
    (subst (λ (l : List (Vec Pick Global)). IsChoice (lists_in l) choice) (sym c.deref-2.ensures.value) one)) in
    let begun : c.deref-3.result.now ≡ [] → Completes at (lists_in c.deref-4.result.now) least c.least_cost.new.front.items =
    λ empty. subst (Completes at (lists_in c.deref-4.result.now) least) (sym again)
    (subst (λ (l : List (Vec Pick Global)). Completes at (lists_in l) least []) (sym c.deref-4.ensures.value)
    (nothing-completed at (lists_in sorted) least (no-lists (lists_in sorted) (lists_in kept) among (ap lists_in (sym c.deref-3.ensures.value ∙ empty))))) in
    let keys : HasLeastKeys at (lists_in c.deref-3.result.now) (lists_in c.deref-4.result.now) least c.least_cost.new.front.items front =
    c.in_ok-least_keys.ensures.found c.if-not-branch.false (sym (ap (farthest at) again)) (sym (ap (diameter at.scale) again))
    (subst (Each at) (sym c.deref-4.ensures.value) all_sorted) (subst (Each at) (sym c.deref-3.ensures.value) all_kept) begun in
    let has : HasLeastKeys at (lists_in kept) (lists_in sorted) least [] front =
    subst (λ (old : List Pick). HasLeastKeys at (lists_in kept) (lists_in sorted) least old front) again
    (subst (λ (l : List (Vec Pick Global)). HasLeastKeys at (lists_in l) (lists_in sorted) least c.least_cost.new.front.items front) c.deref-3.ensures.value
    (subst (λ (l : List (Vec Pick Global)). HasLeastKeys at (lists_in c.deref-3.result.now) (lists_in l) least c.least_cost.new.front.items front) c.deref-4.ensures.value keys)) in
    let costs : least ≡ choice_cost at front =
    front-costs at (lists_in lists) (lists_in kept) (lists_in sorted) tried best least c.in_ok-kept.ensures.own (c.in_ok-kept.ensures.all measured) among lowest was front has in
    h at (costs ∙ ap (choice_cost at) (sym c.deref-5.ensures.value)) tried was
    ∙ ap (λ (f : List Pick). least_of at (tried ++ f ∷ [])) c.deref-5.ensures.value
    ∙ one-found at (lists_in lists) (lists_in kept) (lists_in sorted) tried best least c.in_ok-kept.ensures.own (c.in_ok-kept.ensures.all measured) among lowest was front has)
    c.offer.ensures.least
