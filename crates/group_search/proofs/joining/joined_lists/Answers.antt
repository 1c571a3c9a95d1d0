use Rattle.std.proofs.Common.{◌≤◌, ℕ, List, [], ◌∷◌, Vec, Global, map, sym, subst}
use Rattle.std.proofs.lemmas.Result.{IfOk-weaker}
use Rattle.std.specs.List.{AllByRecursion, Contains}
use Rattle.spatial_base.specs.Point.{Viewpoint}
use Rattle.place_values.specs.declared.query.Pick.{Pick}
use Rattle.place_values.specs.Group.{choice_cost}
use Rattle.place_values.specs.Search.{lists_in}
use Rattle.group_search.specs.Choices.{IsChoice}
use Rattle.group_search.specs.Joins.{joined_by}
use Rattle.group_search.specs.Picks.{AreMeasured}
use Rattle.group_search.proofs.Joins.{joined-measured, joined-choice, choice-joined}
use Rattle.group_search.proofs.Members.{all-map, map-all, contains-map}
use Rattle.group_search.proofs.joining.joined_lists.Goals as goal

-- the picks in a list that is kept
abbrev picks_in : Vec Pick Global → List Pick
picks_in list = list.items

pub returns-in-Some-clause-measured : goal.returns-in-Some-clause-measured
returns-in-Some-clause-measured c =
    let at = c.args.at.now in
    let lists = c.args.lists.now in
    let others = c.deref.result.now in
    IfOk-weaker c.joined_each.result _
    (λ (kept : Vec (Vec Pick Global) Global). AllByRecursion (λ (list : Vec Pick Global). AreMeasured at list.items) lists → AllByRecursion (λ (list : Vec Pick Global). AreMeasured at list.items) kept.items)
    (λ kept is sorted. all-map (AreMeasured at) picks_in kept.items (subst (AllByRecursion (AreMeasured at)) (sym is) (each-measured at at.scale c.args.most others lists sorted)))
    c.joined_each.ensures.kept
  where
    each-measured : (at : Viewpoint) (scale most : ℕ) (others : List Pick) (lists : List (Vec Pick Global)) → AllByRecursion (λ (list : Vec Pick Global). AreMeasured at list.items) lists → AllByRecursion (AreMeasured at) (map (joined_by scale most others) (lists_in lists))
    each-measured at scale most others [] sorted = tt
    each-measured at scale most others (list ∷ lists) sorted = (joined-measured at scale most others list.items sorted.0, each-measured at scale most others lists sorted.1)

pub returns-in-Some-clause-own : goal.returns-in-Some-clause-own
returns-in-Some-clause-own c =
    let lists = c.args.lists.now in
    IfOk-weaker c.joined_each.result _
    (λ (kept : Vec (Vec Pick Global) Global). (choice : List Pick) → IsChoice (lists_in kept.items) choice → IsChoice (lists_in lists) choice)
    (λ kept is choice one. joined-choice c.args.at.now.scale c.args.most c.deref.result.now (lists_in lists) choice (subst (λ (l : List (List Pick)). IsChoice l choice) is one))
    c.joined_each.ensures.kept

pub returns-in-Some-clause-all : goal.returns-in-Some-clause-all
returns-in-Some-clause-all c =
    let at = c.args.at.now in
    let lists = c.args.lists.now in
    let others = c.deref.result.now in
    let among : Contains (lists_in lists) others = subst (Contains (lists_in lists)) (sym c.deref.ensures.value) (contains-map picks_in lists c.in-Some.others.now c.in-Some.ensures.among) in
    IfOk-weaker c.joined_each.result _
    (λ (kept : Vec (Vec Pick Global) Global). AllByRecursion (λ (list : Vec Pick Global). AreMeasured at list.items) lists → (choice : List Pick) → IsChoice (lists_in lists) choice → choice_cost at choice ≤ c.args.most → IsChoice (lists_in kept.items) choice)
    (λ kept is sorted choice one cheap. subst (λ (l : List (List Pick)). IsChoice l choice) (sym is) (choice-joined at c.args.most others (lists_in lists) choice among (map-all (AreMeasured at) picks_in lists sorted) one cheap))
    c.joined_each.ensures.kept
