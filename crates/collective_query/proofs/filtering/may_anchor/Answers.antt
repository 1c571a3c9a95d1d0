use Rattle.std.proofs.Common.{◌++◌, ◌<◌, ◌≤◌, List, Vec, Global, sym, subst, ⊎_elim}
use Rattle.std.proofs.lemmas.Bool.{cases_lt}
use Rattle.std.proofs.lemmas.List.Elements.{Contains-append_left}
use Rattle.std.specs.List.{Contains}
use Rattle.place_values.specs.declared.query.Pick.{Pick}
use Rattle.place_values.specs.Group.{choice_cost}
use Rattle.place_values.specs.Search.{lists_in}
use Rattle.group_search.specs.Picks.{picks_of}
use Rattle.collective_query.proofs.Opened.{finds-fewer}
use Rattle.group_search.proofs.Searched.{Each}
use Rattle.collective_query.proofs.filtering.may_anchor.Goals as goal

pub returns-in-Ok-may_cost-clause-refused : goal.returns-in-Ok-may_cost-clause-refused
returns-in-Ok-may_cost-clause-refused g c = λ fits same inside f choice one. ⊎_elim
    (λ (dear : c.args.most < choice_cost c.args.at.now choice). dear)
    (λ (cheap : choice_cost c.args.at.now choice ≤ c.args.most).
    let at = c.args.at.now in
    let back = c.deref.ensures.value in
    c.in-Ok-may_cost.ensures f (subst (Each at) (sym back) c.in-Ok.ensures.measured) choice
    (λ list there. c.in-Ok.ensures.met fits same inside choice one cheap list (subst (λ (l : List (Vec Pick Global)). Contains (lists_in l) list) back there)))
    (cases_lt c.args.most (choice_cost c.args.at.now choice))

pub returns-in-Ok-may_cost-clause-opened : goal.returns-in-Ok-may_cost-clause-opened
returns-in-Ok-may_cost-clause-opened g c = λ fits before found has takes start.
    let P = g.P.Pages in
    let lists = c.in-Ok.lists.items in
    finds-fewer (P.pages c.args.pages.now) c.args.tree.now c.args.ids.now c.args.at.now c.args.words.now before (P.asked c.rare_companions.new.pages) (found ++ picks_of lists) found
    (λ pick one. Contains-append_left found (picks_of lists) pick one)
    (c.in-Ok.ensures.opened fits before found has takes start)
