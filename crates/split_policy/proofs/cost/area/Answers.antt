use Rattle.split_policy.specs.Areas.{rect_area}
use Rattle.split_policy.proofs.cost.area.Goals as goal

pub returns : goal.returns
unfolding rect_area
returns c = c.area.ensures
