use Rattle.std.proofs.Common.{◌+◌, ◌≤◌, max, List, Vec, Global, sym, subst}
use Rattle.std.proofs.lemmas.List.Elements.{Contains-get_or}
use Rattle.std.specs.List.{AllByRecursion, Contains}
use Rattle.spatial_base.specs.Point.{seen_from}
use Rattle.place_values.specs.declared.query.Pick.{Pick}
use Rattle.place_values.specs.Group.{farthest}
use Rattle.place_values.specs.Search.{lists_in}
use Rattle.group_search.specs.Picks.{AreMeasured}
use Rattle.group_search.proofs.Fronts.{missed}
use Rattle.group_search.proofs.Members.{contains-map}
use Rattle.group_search.proofs.costing.each_goes_on.Goals as goal
use Rattle.boolean_queries.proofs.Histories.{all-contained}

pub returns-then-not-one_goes_on : goal.returns-then-not-one_goes_on
returns-then-not-one_goes_on c = λ _ far wide sorted choice one.
    let at = c.args.at.now in
    let lists = c.args.lists.now in
    let list : Vec Pick Global = c.list-item.result in
    let front : List Pick = c.args.front.now in
    let among : Contains lists list = subst (Contains lists) (sym c.list-item.is) (Contains-get_or lists c.loop-list.list-index list c.loop-list-test.true) in
    let misses : AllByRecursion (λ (pick : Pick). c.args.bound ≤ max c.args.far pick.dist + max c.args.wide (farthest (seen_from pick.point at.scale) front)) list.items =
    subst (AllByRecursion (λ (pick : Pick). c.args.bound ≤ max c.args.far pick.dist + max c.args.wide (farthest (seen_from pick.point at.scale) front))) c.deref.ensures.value (c.one_goes_on.ensures c.if-not-one_goes_on.true) in
    missed at front c.args.far c.args.wide c.args.bound (lists_in lists) list.items choice far wide
    (all-contained (λ (l : Vec Pick Global). AreMeasured at l.items) lists list sorted among) misses
    (contains-map (λ (l : Vec Pick Global). l.items) lists list among) one
