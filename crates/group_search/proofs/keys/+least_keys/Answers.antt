use Rattle.std.proofs.Common.{◌≡◌, ◌++◌, ◌∷◌, [], List, Vec, Some, sym, ◌∙◌, ap, subst}
use Rattle.std.specs.List.{AllByRecursion, Contains}
use Rattle.std.specs.declared.alloc.Global.{Global}
use Rattle.spatial_base.specs.Point.{Viewpoint, distance}
use Rattle.place_values.specs.declared.query.Pick.{Pick}
use Rattle.place_values.specs.Search.{lists_in}
use Rattle.group_search.specs.Fronts.{Completes, IsNext, HasLeastKeys}
use Rattle.group_search.specs.Picks.{AreMeasured}
use Rattle.group_search.proofs.Costs.{far-pushed, wide-pushed}
use Rattle.group_search.proofs.Fronts.{completes-met}
use Rattle.group_search.proofs.Members.{contains-later}
use Rattle.best_first.proofs.Histories.{contains_head as contains-here}
use Rattle.group_search.proofs.Nexts.{has-least}
use Rattle.group_search.proofs.keys.+least_keys.Goals as goal
use Rattle.boolean_queries.proofs.Histories.{all-contained}

abbrev Each : Viewpoint → List (Vec Pick Global) → Type 0
Each at lists = AllByRecursion (λ (list : Vec Pick Global). AreMeasured at list.items) lists

abbrev Own : List (Vec Pick Global) → List (Vec Pick Global) → Type 0
Own lists firsts = (list : List Pick) → Contains (lists_in firsts) list → Contains (lists_in lists) list

pub returns-in-None-clause-none : goal.returns-in-None-clause-none
returns-in-None-clause-none t c = λ _ far wide sorted firsts own done.
    let at = c.args.at.now in
    let lists = c.args.lists.now in
    let list : List Pick = c.deref.result.now in
    let front = c.args.front.now.items in
    let split = subst (Each at) c.in-Some.ensures.cases.0 firsts in
    let mine = subst (Own lists) c.in-Some.ensures.cases.0 own in
    let measured : AreMeasured at list = subst (AreMeasured at) (sym c.deref.ensures.value) split.0 in
    let among : Contains (lists_in lists) list = subst (Contains (lists_in lists)) (sym c.deref.ensures.value) (mine c.in-Some.list.now.items (contains-here c.in-Some.list.now.items (lists_in c.in-Some.others.now))) in
    let met = completes-met at (lists_in lists) c.args.most front list among done in
    let none = subst (IsNext at (lists_in lists) c.args.most front list) c.in-None.is (c.in_ok-pick.ensures.next far wide sorted measured) in
    all-contained (λ pick. Completes at (lists_in lists) c.args.most (front ++ pick ∷ []) → ⊥) list met.0 none met.1 met.2

pub returns-clause-found : goal.returns-clause-found
returns-clause-found t c = λ found far wide sorted firsts done.
    let at = c.args.at.now in
    let lists = c.args.lists.now in
    let list : List Pick = c.deref.result.now in
    let front = c.args.front.now.items in
    let pick : Pick = c.in-Some-2.pick in
    let others = c.in-Some.others.now in
    let split = subst (Each at) c.in-Some.ensures.cases.0 firsts in
    let measured : AreMeasured at list = subst (AreMeasured at) (sym c.deref.ensures.value) split.0 in
    let next : IsNext at (lists_in lists) c.args.most front list (Some pick) = subst (IsNext at (lists_in lists) c.args.most front list) c.in-Some-2.is (c.in_ok-pick.ensures.next far wide sorted measured) in
    let dist = all-contained (λ (p : Pick). p.dist ≡ distance at p.point) list pick measured next.0 in
    let longer = c.in_ok-push.ensures.items ∙ ap (λ l. l ++ pick ∷ []) c.in_ok-pick.ensures.same in
    let further = far-pushed at c.push.new.self.items front pick c.args.far c.max-further.result longer far dist c.max-further.ensures in
    let wider = wide-pushed at.scale c.push.new.self.items c.deref-2.result.now front pick c.args.wide c.farthest_from.result c.max-wider.result longer (c.deref-2.ensures.value ∙ c.in_ok-pick.ensures.same) wide c.farthest_from.ensures.value c.max-wider.ensures in
    let rest = c.in_ok-found.ensures.found found further wider sorted split.1 (λ _. subst (Completes at (lists_in lists) c.args.most) (sym longer) next.1) in
    subst (λ (f : List (Vec Pick Global)). HasLeastKeys at (lists_in f) (lists_in lists) c.args.most front c.least_keys.new.front.items) (sym c.in-Some.ensures.cases.0)
    (has-least at (lists_in others) (lists_in lists) c.args.most c.in-Some.list.now.items front c.push.new.self.items c.least_keys.new.front.items pick longer
    (subst (λ (l : List Pick). IsNext at (lists_in lists) c.args.most front l (Some pick)) c.deref.ensures.value next) rest)

pub returns-clause-none : goal.returns-clause-none
returns-clause-none t c = λ found far wide sorted firsts own done.
    let at = c.args.at.now in
    let lists = c.args.lists.now in
    let list : List Pick = c.deref.result.now in
    let front = c.args.front.now.items in
    let pick : Pick = c.in-Some-2.pick in
    let split = subst (Each at) c.in-Some.ensures.cases.0 firsts in
    let mine = subst (Own lists) c.in-Some.ensures.cases.0 own in
    let measured : AreMeasured at list = subst (AreMeasured at) (sym c.deref.ensures.value) split.0 in
    let next : IsNext at (lists_in lists) c.args.most front list (Some pick) = subst (IsNext at (lists_in lists) c.args.most front list) c.in-Some-2.is (c.in_ok-pick.ensures.next far wide sorted measured) in
    let dist = all-contained (λ (p : Pick). p.dist ≡ distance at p.point) list pick measured next.0 in
    let longer = c.in_ok-push.ensures.items ∙ ap (λ l. l ++ pick ∷ []) c.in_ok-pick.ensures.same in
    let further = far-pushed at c.push.new.self.items front pick c.args.far c.max-further.result longer far dist c.max-further.ensures in
    let wider = wide-pushed at.scale c.push.new.self.items c.deref-2.result.now front pick c.args.wide c.farthest_from.result c.max-wider.result longer (c.deref-2.ensures.value ∙ c.in_ok-pick.ensures.same) wide c.farthest_from.ensures.value c.max-wider.ensures in
    c.in_ok-found.ensures.none found further wider sorted split.1
    (λ l one. mine l (contains-later c.in-Some.list.now.items (lists_in c.in-Some.others.now) l one))
    (subst (Completes at (lists_in lists) c.args.most) (sym longer) next.1)
