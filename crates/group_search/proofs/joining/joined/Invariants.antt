use Rattle.std.proofs.Common.{◌≡◌, take}
use Rattle.group_search.specs.Joins.{joined_by}
use Rattle.group_search.specs.Picks.{AreNear}
use Rattle.group_search.proofs.joining.joined.Given as goal

-- of the picks so far those that may be joined are kept
abbrev pub invariant-loop-pick : goal.invariant-loop-pick
invariant-loop-pick l = record {
  kept : l.kept.items ≡ joined_by l.at.scale l.most l.others (take l.pick-index l.picks);
  near : AreNear l.kept.items;
}
