use Rattle.std.proofs.Common.{◌≤◌, ◌<◌, ◌++◌, List, Vec, sym, ap, subst, arith}
use Rattle.std.proofs.lemmas.Bool.{leb-false}
use Rattle.place_values.specs.declared.query.Pick.{Pick}
use Rattle.place_values.specs.Group.{farthest, diameter, choice_cost}
use Rattle.place_values.specs.Search.{lists_in}
use Rattle.group_search.specs.Choices.{IsChoice}
use Rattle.group_search.proofs.Fronts.{fewer-cost, met-lists}
use Rattle.group_search.proofs.Searched.{Each, each-among}
use Rattle.std.specs.declared.alloc.Global.{Global}
use Rattle.group_search.proofs.search.may_cost.Goals as goal

pub returns : goal.returns
returns c = λ f measured picks meets.
    let at = c.args.at.now in
    let sorted = c.in_ok-sorted.sorted.items in
    let nothing = c.new-front.ensures.items in
    let beyond : c.args.most < c.in_ok-least.least = leb-false c.in_ok-least.least c.args.most f in
    let all_sorted : Each at sorted = each-among at sorted c.args.lists.now c.in_ok-sorted.ensures.among measured in
    let met = met-lists (lists_in sorted) picks (λ list there. meets list (c.in_ok-sorted.ensures.among list there)) in
    let low : c.in_ok-least.least ≤ choice_cost at met.0 = subst (λ (front : List Pick). c.in_ok-least.least ≤ choice_cost at (front ++ met.0)) nothing
    (c.in_ok-least.ensures.least beyond (sym (ap (farthest at) nothing)) (sym (ap (diameter at.scale) nothing)) (subst (Each at) (sym c.deref.ensures.value) all_sorted) met.0
    (subst (λ (l : List (Vec Pick Global)). IsChoice (lists_in l) met.0) (sym c.deref.ensures.value) met.1)) in
    let fewer = fewer-cost at met.0 picks met.2 in
    omega arith
