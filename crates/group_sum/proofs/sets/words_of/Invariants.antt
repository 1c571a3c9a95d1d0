use Rattle.std.proofs.Common.{◌≡◌, ◌-◌, ◌++◌, drop, length}
use Rattle.group_sum.specs.Sets.{flags_from, flagged, in_set}
use Rattle.group_sum.proofs.sets.words_of.Given as goal

abbrev pub invariant-loop-i : goal.invariant-loop-i
invariant-loop-i l = l.own.items ++ flagged (flags_from l.set l.i (length l.words - l.i)) (drop l.i l.words) ≡ in_set l.set l.words
