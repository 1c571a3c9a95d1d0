use Rattle.std.proofs.Common.{Some, refl, sym, ◌∙◌, ap, cond}
use Rattle.place_values.specs.Group.{choice_cost}
use Rattle.place_values.specs.GroupLaws.{pushed_next, with_cost}
use Rattle.group_search.proofs.search.offer.Goals as goal

pub returns-in_ok-from_slice-clause-least : goal.returns-in_ok-from_slice-clause-least
returns-in_ok-from_slice-clause-least c = λ at costs tried was.
    ap (with_cost c.args.cost) (c.from_vec-picks.ensures ∙ c.in_ok-from_slice.ensures.items)
    ∙ sym (pushed_next (choice_cost at) c.args.picks.now c.args.cost (Some c.args.best.now) c.args.best.now c.choice_order.result tried refl c.choice_order.ensures costs was
    ∙ ap (λ t. cond t (with_cost c.args.cost c.args.picks.now) (Some c.args.best.now)) (sym c.is_lt.ensures ∙ c.if-is_lt.true))

pub returns-else-is_lt-clause-least : goal.returns-else-is_lt-clause-least
returns-else-is_lt-clause-least c = λ at costs tried was.
    sym (pushed_next (choice_cost at) c.args.picks.now c.args.cost (Some c.args.best.now) c.args.best.now c.choice_order.result tried refl c.choice_order.ensures costs was
    ∙ ap (λ t. cond t (with_cost c.args.cost c.args.picks.now) (Some c.args.best.now)) (sym c.is_lt.ensures ∙ c.if-is_lt.false))
