use Rattle.std.proofs.Common.{◌≡◌, ◌-◌, ◌++◌}
use Rattle.group_sum.specs.Sets.{flags_from, flagged}
use Rattle.group_sum.specs.Splits.{sides_of, joined}
use Rattle.group_sum.proofs.splits.joined.Given as goal

abbrev pub invariant-loop-word : goal.invariant-loop-word
invariant-loop-word l =
    l.picks.items ++ joined (flagged (flags_from l.split.set l.word (l.split.count - l.word)) (flags_from l.split.part l.word (l.split.count - l.word))) l.first l.second
    ≡ joined (sides_of l.split.count l.split.set l.split.part) l.left l.right
