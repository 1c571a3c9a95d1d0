use Rattle.std.proofs.Common.{◌≡◌, ◌*◌, ◌≤◌, take}
use Rattle.place_values.specs.Top.{weight_sum}
use Rattle.query_replies.proofs.found.most_text.Given as goal

abbrev pub invariant-loop-weight : goal.invariant-loop-weight
invariant-loop-weight l = (l.sum ≡ weight_sum (take l.weight-index l.words)) × (l.sum ≤ 255 * l.weight-index)
