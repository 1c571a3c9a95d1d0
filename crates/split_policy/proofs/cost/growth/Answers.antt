use Rattle.split_policy.specs.Areas.{growth_of}
use Rattle.split_policy.proofs.Areas.{area-join}
use Rattle.split_policy.proofs.cost.growth.Goals as goal

pub overflow_sub-result : goal.overflow_sub-result
overflow_sub-result c =
    let grows = area-join c.args.rect.now c.args.add.now c.west.ensures.valid.2 c.west.ensures.valid.3 in
    rw (c.requires, c.area.ensures, c.join.ensures.value) grows

pub returns : goal.returns
unfolding growth_of
returns c = rw (c.requires, c.area.ensures, c.join.ensures.value)
