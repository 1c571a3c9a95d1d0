use Rattle.std.proofs.Common.{◌≡◌, refl, sym, ◌++◌, ◌∷◌, [], ◌∙◌, ap, arith, length, vec_len}
use Rattle.place_values.specs.Group.{product, least_by}
use Rattle.place_values.specs.Search.{lists_in, fronted}
use Rattle.place_values.specs.GroupLaws.{gone_on, tried_more, all_tried, popped}
use Rattle.place_map.specs.Prices.{price_of}
use Rattle.place_map.proofs.Rising.{price_rises}
use Rattle.place_map.proofs.group.+extend.Goals as goal

pub loop-pick-preserved : goal.loop-pick-preserved
loop-pick-preserved t c =
    let n : vec_len c.extend.new.front ≡ length c.extend.new.front.items = omega arith in
    let longer = c.in_ok-push.ensures.items ∙ ap (λ l. l ++ c.pick-item.result ∷ []) c.loop-pick.invariant.same in
    record {
      same = popped _ _ _ _ _ n c.pop.ensures.rest (c.in_ok-extend.ensures.same ∙ longer);
      least = λ tried was.
          tried_more (price_of c.args.price) tried c.args.front.now.items c.push.new.self.items (lists_in c.in-Some.others.now) c.deref-pick-items.result.now c.loop-pick.pick-index c.pick-item.result c.extend.new.best c.loop-pick-test.true (longer ∙ ap (λ pick. c.args.front.now.items ++ pick ∷ []) c.pick-item.is)
          (c.in_ok-extend.ensures.least (tried ++ gone_on c.args.front.now.items (lists_in c.in-Some.others.now) _) (c.loop-pick.invariant.least tried was));
    }

pub returns-clause-least : goal.returns-clause-least
returns-clause-least t c = λ tried was.
    all_tried (price_of c.args.price) tried c.args.front.now.items c.args.lists.now c.in-Some.list.now c.in-Some.others.now c.deref-pick-items.result.now c.loop-pick.pick-index c.loop-pick.best c.in-Some.ensures.cases.0 c.deref-pick-items.ensures.value c.loop-pick-test.false (c.loop-pick.invariant.least tried was)

pub returns-then-is_hopeless-clause-least : goal.returns-then-is_hopeless-clause-least
returns-then-is_hopeless-clause-least t c = λ tried was.
    let price = price_of c.args.price in
    let rest = product (lists_in c.args.lists.now) in
    c.if-is_hopeless.ensures refl price (price_rises c.args.price) (c.cost-cost.ensures ∙ ap price (c.deref.ensures.value ∙ sym c.deref-2.ensures.value)) tried rest was
    ∙ ap (λ front. least_by price (tried ++ fronted front rest)) c.deref-2.ensures.value
