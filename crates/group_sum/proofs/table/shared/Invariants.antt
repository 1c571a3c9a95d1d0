use Rattle.std.proofs.Common.{◌≡◌, take}
use Rattle.group_sum.specs.Shared.{shared_picks}
use Rattle.group_sum.proofs.table.shared.Given as goal

abbrev pub invariant-loop-word : goal.invariant-loop-word
invariant-loop-word l = l.picks.items ≡ shared_picks l.at (take l.word-index l.words) l.hit
