use Rattle.std.proofs.Common.{◌≡◌, ◌<◌, List, Vec, Global, get_or, length, rules, subst}
use Rattle.std.specs.List.{Contains}
use Rattle.place_values.specs.declared.query.Pick.{Pick}
use Rattle.group_search.proofs.Members.{contains-flat}
use Rattle.group_search.proofs.lists.list_at.Goals as goal

pub returns-in-Some-clause-among : goal.returns-in-Some-clause-among
returns-in-Some-clause-among c = λ pick one.
    let lists : List (Vec Pick Global) = c.args.lists.now in
    let list : Vec Pick Global = c.in-Some.list.now in
    let inside : c.args.at < length lists = search rules in
    let is : get_or lists c.args.at list ≡ list = search rules in
    contains-flat (λ (l : Vec Pick Global). l.items) lists list pick (c.args.at, inside, is) (subst (λ (picks : List Pick). Contains picks pick) c.deref.ensures.value one)
