use Rattle.std.proofs.Common.{◌≡◌, map, take}
use Rattle.group_search.specs.declared.joining.Paired.{Paired}
use Rattle.group_search.proofs.joining.pairs_with.Given as goal

-- so it is with the picks so far
abbrev pub invariant-loop-pick : goal.invariant-loop-pick
invariant-loop-pick l = map (λ (pair : Paired). pair.pick) l.pairs.items ≡ take l.pick-index l.picks
