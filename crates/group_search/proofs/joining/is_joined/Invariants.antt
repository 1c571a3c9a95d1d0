use Rattle.std.proofs.Common.{◌≡◌, false, take}
use Rattle.std.specs.List.{list_any}
use Rattle.group_search.specs.Joins.{may_join}
use Rattle.group_search.proofs.joining.is_joined.Given as goal

-- none so far may join
abbrev pub invariant-loop-other : goal.invariant-loop-other
invariant-loop-other l = list_any (may_join l.at.scale l.most l.pick) (take l.other-index l.others) ≡ false
