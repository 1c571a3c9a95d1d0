use Rattle.std.proofs.Common.{◌≤◌, List, Vec, Global, sym, subst}
use Rattle.std.proofs.lemmas.Result.{IfOk-weaker}
use Rattle.spatial_base.specs.Point.{Viewpoint}
use Rattle.place_values.specs.declared.query.Pick.{Pick}
use Rattle.place_values.specs.Group.{choice_cost}
use Rattle.place_values.specs.Search.{lists_in}
use Rattle.group_search.specs.Choices.{IsChoice, AreCut}
use Rattle.group_search.proofs.Blocks.{same-choice}
use Rattle.group_search.proofs.Cuts.{cut-choice}
use Rattle.group_search.proofs.Searched.{Each}
use Rattle.group_search.proofs.joining.closest_lists.Goals as goal

pub returns-in-Some-clause-measured : goal.returns-in-Some-clause-measured
returns-in-Some-clause-measured c =
    let at = c.args.at.now in
    let lists = c.args.lists.now in
    IfOk-weaker c.closest_each.result (λ (s : Vec (Vec Pick Global) Global). (from : Viewpoint) → Each from c.deref-in-Some.result.now → Each from s.items) (λ (s : Vec (Vec Pick Global) Global). Each at lists → Each at s.items)
    (λ s h measured. h at (subst (Each at) (sym c.deref-in-Some.ensures.value) (c.in_ok-kept.ensures.measured measured))) c.closest_each.ensures.measured

pub returns-in-Some-clause-own : goal.returns-in-Some-clause-own
returns-in-Some-clause-own c =
    let lists = c.args.lists.now in
    let kept = c.deref-in-Some.result.now in
    let spare : Pick → Type 0 = λ pick. Unit {0} in
    IfOk-weaker c.closest_each.result (λ (s : Vec (Vec Pick Global) Global). AreCut spare (lists_in kept) (lists_in s.items))
    (λ (s : Vec (Vec Pick Global) Global). (choice : List Pick) → IsChoice (lists_in s.items) choice → IsChoice (lists_in lists) choice)
    (λ s same choice one. c.in_ok-kept.ensures.own choice (subst (λ (l : List (Vec Pick Global)). IsChoice (lists_in l) choice) c.deref-in-Some.ensures.value (cut-choice spare (lists_in kept) (lists_in s.items) choice same one))) c.closest_each.ensures.same

pub returns-in-Some-clause-all : goal.returns-in-Some-clause-all
returns-in-Some-clause-all c =
    let at = c.args.at.now in
    let lists = c.args.lists.now in
    let kept = c.deref-in-Some.result.now in
    let spare : Pick → Type 0 = λ pick. Unit {0} in
    IfOk-weaker c.closest_each.result (λ (s : Vec (Vec Pick Global) Global). AreCut spare (lists_in kept) (lists_in s.items))
    (λ (s : Vec (Vec Pick Global) Global). Each at lists → (choice : List Pick) → IsChoice (lists_in lists) choice → choice_cost at choice ≤ c.args.most → IsChoice (lists_in s.items) choice)
    (λ s same measured choice one cheap. same-choice (lists_in kept) (lists_in s.items) choice same
    (subst (λ (l : List (Vec Pick Global)). IsChoice (lists_in l) choice) (sym c.deref-in-Some.ensures.value) (c.in_ok-kept.ensures.all measured choice one cheap))) c.closest_each.ensures.same
