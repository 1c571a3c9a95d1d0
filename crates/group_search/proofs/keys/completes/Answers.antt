use Rattle.std.proofs.Common.{◌++◌, ◌<◌, ◌≤◌, List, sym, subst, arith}
use Rattle.std.proofs.lemmas.Bool.{leb-true, leb-false}
use Rattle.place_values.specs.declared.query.Pick.{Pick}
use Rattle.place_values.specs.Search.{lists_in}
use Rattle.place_values.specs.Group.{choice_cost}
use Rattle.group_search.specs.Fronts.{Completes}
use Rattle.group_search.proofs.Costs.{far-pushed, wide-pushed}
use Rattle.group_search.proofs.Fronts.{completes-more}
use Rattle.group_search.proofs.keys.completes.Goals as goal

pub returns-clause-completed : goal.returns-clause-completed
returns-clause-completed c = λ t far wide sorted dist.
    let at = c.args.at.now in
    let front = c.args.front.now.items in
    let pick = c.args.pick.now in
    let longer = c.in_ok-push.ensures.items in
    let further = far-pushed at c.push.new.self.items front pick c.args.far c.max-further.result longer far dist c.max-further.ensures in
    let wider = wide-pushed at.scale c.push.new.self.items c.deref.result.now front pick c.args.wide c.farthest_from.result c.max-wider.result longer c.deref.ensures.value wide c.farthest_from.ensures.value c.max-wider.ensures in
    let within : c.in_ok-least.least ≤ c.args.most = leb-true c.in_ok-least.least c.args.most t in
    subst (Completes at (lists_in c.args.lists.now) c.args.most) longer
    (completes-more at (lists_in c.args.lists.now) c.in_ok-least.least c.args.most c.push.new.self.items within
    (c.in_ok-least.ensures.found (omega arith) further wider sorted))

pub returns-clause-refused : goal.returns-clause-refused
returns-clause-refused c = λ f far wide sorted dist done.
    let at = c.args.at.now in
    let front = c.args.front.now.items in
    let pick = c.args.pick.now in
    let longer = c.in_ok-push.ensures.items in
    let further = far-pushed at c.push.new.self.items front pick c.args.far c.max-further.result longer far dist c.max-further.ensures in
    let wider = wide-pushed at.scale c.push.new.self.items c.deref.result.now front pick c.args.wide c.farthest_from.result c.max-wider.result longer c.deref.ensures.value wide c.farthest_from.ensures.value c.max-wider.ensures in
    let beyond : c.args.most < c.in_ok-least.least = leb-false c.in_ok-least.least c.args.most f in
    let least = c.in_ok-least.ensures.least beyond further wider sorted done.0 done.1 in
    let cheap : choice_cost at (c.push.new.self.items ++ done.0) ≤ c.args.most = subst (λ (l : List Pick). choice_cost at (l ++ done.0) ≤ c.args.most) (sym longer) done.2 in
    omega arith
