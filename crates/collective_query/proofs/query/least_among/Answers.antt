use Rattle.std.proofs.Common.{◌∷◌, [], ◌∙◌, List, Some, ap, subst}
use Rattle.place_values.specs.declared.query.Pick.{Pick}
use Rattle.place_values.specs.declared.query.Chosen.{Chosen}
use Rattle.place_values.specs.Group.{choice_cost}
use Rattle.place_values.specs.Search.{lists_in}
use Rattle.group_search.specs.Choices.{IsChoice}
use Rattle.group_search.specs.Tried.{IsTaken, IsChosen}
use Rattle.group_search.proofs.Leads.{new-chosen, new-first}
use Rattle.collective_query.proofs.query.least_among.Goals as goal

pub returns-clause-least : goal.returns-clause-least
returns-clause-least c = λ measured.
    let at = c.args.at.now in
    let lists : List (List Pick) = lists_in c.args.lists.now in
    let picks : List Pick = c.in-Some.picks.items in
    let taken : IsChoice lists picks = subst (IsTaken lists) c.in-Some.is c.in_ok-picks.ensures in
    let cost = c.cost_of_choice.ensures.value ∙ ap (choice_cost at) c.deref.ensures.value in
    let begun : Chosen = record { cost = choice_cost at picks; picks = picks } in
    let was : IsChosen at lists begun = record { choice = taken; cost = λ i. choice_cost at picks } in
    let is = c.in_ok-least_choice.ensures.least measured (picks ∷ []) (λ i. Some record { cost = cost i; picks = c.from_vec.ensures i }) in
    (new-chosen at lists lists begun c.least_choice.new.best was (λ choice one. one) is, new-first at lists lists begun c.least_choice.new.best was (λ choice one. one) is)
