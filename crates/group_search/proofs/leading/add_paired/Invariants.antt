use Rattle.std.proofs.Common.{◌≡◌, ◌++◌, take}
use Rattle.std.specs.List.{filter}
use Rattle.group_search.specs.Joins.{may_join}
use Rattle.group_search.proofs.leading.add_paired.Given as goal

-- those of the picks so far that may join are added
abbrev pub invariant-loop-pick : goal.invariant-loop-pick
invariant-loop-pick l = l.near.items ≡ l.fn.near.items ++ filter (may_join l.at.scale l.most l.anchor) (take l.pick-index l.picks)
