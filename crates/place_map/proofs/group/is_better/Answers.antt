use Rattle.std.proofs.Common.{sym, ◌∙◌, ap, cond}
use Rattle.place_values.specs.GroupLaws.{pushed_first, pushed_next, with_cost}
use Rattle.place_map.proofs.group.is_better.Goals as goal

pub returns-in-Some : goal.returns-in-Some
returns-in-Some c = λ price costs tried was.
    pushed_next price c.args.picks.now c.args.cost c.args.best.now c.in-Some.best c.choice_order.result tried c.in-Some.is c.choice_order.ensures costs was
    ∙ ap (λ t. cond t (with_cost c.args.cost c.args.picks.now) c.args.best.now) (sym c.is_lt.ensures)

pub returns-in-None : goal.returns-in-None
returns-in-None c = λ price costs tried was. pushed_first price c.args.picks.now c.args.cost c.args.best.now tried c.in-None.is costs was
