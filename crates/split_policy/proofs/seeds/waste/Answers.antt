use Rattle.std.proofs.Common.{arith, ap, ◌∙◌}
use Rattle.std.proofs.lemmas.Int.{ints}
use Rattle.split_policy.specs.Areas.{rect_area, waste_of}
use Rattle.split_policy.proofs.seeds.waste.Goals as goal

pub overflow_sub-result-2 : goal.overflow_sub-result-2
overflow_sub-result-2 c = omega (arith, ints)

pub returns : goal.returns
unfolding waste_of
returns c = let join = c.area.ensures ∙ ap rect_area c.join.ensures.value in omega (arith, ints)
