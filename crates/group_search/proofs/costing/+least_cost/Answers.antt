use Rattle.std.proofs.Common.{◌≡◌, ◌++◌, ◌∷◌, [], ◌<◌, ◌≤◌, ℕ, List, Vec, sym, ◌∙◌, ap, subst, arith, length, vec_len, ⊎_elim}
use Rattle.std.proofs.lemmas.Bool.{cases_lt}
use Rattle.std.proofs.lemmas.List.Elements.{All-from_recursion, All-get_or, Contains-get_or}
use Rattle.std.specs.List.{AllByRecursion, Contains}
use Rattle.std.specs.declared.alloc.Global.{Global}
use Rattle.spatial_base.specs.Point.{distance}
use Rattle.place_values.specs.declared.query.Pick.{Pick}
use Rattle.place_values.specs.Group.{farthest, diameter, choice_cost}
use Rattle.place_values.specs.GroupLaws.{popped, cost_front}
use Rattle.place_values.specs.Search.{lists_in}
use Rattle.group_search.specs.Fronts.{Completes}
use Rattle.group_search.specs.Picks.{AreMeasured}
use Rattle.group_search.proofs.Costs.{far-pushed, wide-pushed, front-cost}
use Rattle.group_search.proofs.Fronts.{completes-longer, more-least}
use Rattle.group_search.proofs.costing.+least_cost.Goals as goal

pub returns-then-cost-bound-clause-least : goal.returns-then-cost-bound-clause-least
returns-then-cost-bound-clause-least t c = λ _ far wide sorted choice one.
    let at = c.args.at.now in
    let own = front-cost at c.args.front.now.items c.args.far c.args.wide far wide in
    let more = cost_front at c.args.front.now.items choice in
    omega (arith, c.if-cost-bound.true)

pub returns-then-not-each_goes_on-clause-least : goal.returns-then-not-each_goes_on-clause-least
returns-then-not-each_goes_on-clause-least t c = λ _ far wide sorted choice one.
    let at = c.args.at.now in
    let same = c.deref.ensures.value in
    subst (λ (front : List Pick). c.args.bound ≤ choice_cost at (front ++ choice)) same
    (c.each_goes_on.ensures c.if-not-each_goes_on.true (far ∙ ap (farthest at) (sym same)) (wide ∙ ap (diameter at.scale) (sym same)) sorted choice one)

pub returns-then-least-enough-clause-least : goal.returns-then-least-enough-clause-least
returns-then-least-enough-clause-least t c = λ less far wide sorted choice one.
    let at = c.args.at.now in
    let own = front-cost at c.args.front.now.items c.args.far c.args.wide far wide in
    let more = cost_front at c.args.front.now.items choice in
    omega (arith, c.if-least-enough.true, c.max-enough.ensures)

pub loop-pick-preserved : goal.loop-pick-preserved
loop-pick-preserved t c =
    let at = c.args.at.now in
    let n : vec_len c.least_cost.new.front ≡ length c.least_cost.new.front.items = omega arith in
    let h = c.loop-pick.invariant in
    let front = c.args.front.now.items in
    let pick = c.pick-item.result in
    let picks = c.deref-pick-items.result.now in
    let others = c.in-Some.others.now in
    let longer = c.in_ok-push.ensures.items ∙ ap (λ l. l ++ pick ∷ []) h.same in
    let Sorted : Type 0 = AllByRecursion (λ (list : Vec Pick Global). AreMeasured at list.items) c.args.lists.now in
    let split : Sorted → AllByRecursion (λ (list : Vec Pick Global). AreMeasured at list.items) (c.in-Some.list.now ∷ others) =
    λ sorted. subst (AllByRecursion (λ (list : Vec Pick Global). AreMeasured at list.items)) c.in-Some.ensures.cases.0 sorted in
    let measured : Sorted → pick.dist ≡ distance at pick.point = λ sorted.
    let dists = subst (AllByRecursion (λ (p : Pick). p.dist ≡ distance at p.point)) (sym c.deref-pick-items.ensures.value) (split sorted).0 in
    subst (λ (p : Pick). p.dist ≡ distance at p.point) (sym c.pick-item.is) (All-get_or (λ (p : Pick). p.dist ≡ distance at p.point) picks c.loop-pick.pick-index pick c.loop-pick-test.true (All-from_recursion (λ (p : Pick). p.dist ≡ distance at p.point) picks dists)) in
    let further : c.args.far ≡ farthest at front → Sorted → c.max-further.result ≡ farthest at c.push.new.self.items = λ far sorted. far-pushed at c.push.new.self.items front pick c.args.far c.max-further.result longer far (measured sorted) c.max-further.ensures in
    let wider : c.args.wide ≡ diameter at.scale front → c.max-wider.result ≡ diameter at.scale c.push.new.self.items = λ wide. wide-pushed at.scale c.push.new.self.items c.deref-in-loop-pick.result.now front pick c.args.wide c.farthest_from.result c.max-wider.result longer (c.deref-in-loop-pick.ensures.value ∙ h.same) wide c.farthest_from.ensures.value c.max-wider.ensures in
    let among : Contains picks pick = subst (Contains picks) (sym c.pick-item.is) (Contains-get_or picks c.loop-pick.pick-index pick c.loop-pick-test.true) in
    record {
      same = popped _ _ _ _ _ n c.pop.ensures.rest (c.in_ok-least.ensures.same ∙ longer);
      most = omega (arith, c.in_ok-least.ensures.most, h.most);
      least = λ less far wide sorted.
          let fewer = c.in_ok-least.ensures.most in
          more-least at front c.push.new.self.items picks (lists_in others) c.loop-pick.pick-index pick c.loop-pick.least c.in_ok-least.least c.loop-pick-test.true c.pick-item.is longer fewer
          (h.least (omega arith) far wide sorted)
          (c.in_ok-least.ensures.least less (further far sorted) (wider wide) (split sorted).1);
      found = λ less far wide sorted. ⊎_elim
          (λ (lesser : c.in_ok-least.least < c.loop-pick.least).
          subst (λ (l : List (Vec Pick Global)). Completes at (lists_in l) c.in_ok-least.least front) (sym c.in-Some.ensures.cases.0)
          (completes-longer at front c.push.new.self.items c.in-Some.list.now.items (lists_in others) c.in_ok-least.least pick longer (subst (λ (l : List Pick). Contains l pick) c.deref-pick-items.ensures.value among)
          (c.in_ok-least.ensures.found lesser (further far sorted) (wider wide) (split sorted).1)))
          (λ (not_lesser : c.loop-pick.least ≤ c.in_ok-least.least).
          let fewer = c.in_ok-least.ensures.most in
          let same : c.loop-pick.least ≡ c.in_ok-least.least = omega arith in
          subst (λ (cost : ℕ). Completes at (lists_in c.args.lists.now) cost front) same (h.found (omega arith) far wide sorted))
          (cases_lt c.in_ok-least.least c.loop-pick.least);
    }
