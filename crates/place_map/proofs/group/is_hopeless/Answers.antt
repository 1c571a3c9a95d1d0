use Rattle.std.proofs.Common.{sym, ◌∙◌}
use Rattle.place_values.specs.GroupLaws.{hopeless_kept}
use Rattle.place_map.proofs.group.is_hopeless.Goals as goal

pub returns-in-Some : goal.returns-in-Some
returns-in-Some c =
    λ gt price rises costs tried rest was. hopeless_kept price rises c.args.front.now c.args.cost c.args.best.now c.in-Some.best c.choice_order.result tried rest c.in-Some.is c.choice_order.ensures (sym c.is_gt.ensures ∙ gt) costs was
