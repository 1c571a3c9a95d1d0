use Rattle.std.proofs.Common.{◌≡◌, map, take}
use Rattle.group_search.specs.declared.joining.Paired.{Paired}
use Rattle.group_search.proofs.joining.picks_in.Given as goal

-- the picks of the pairs so far
abbrev pub invariant-loop-pair : goal.invariant-loop-pair
invariant-loop-pair l = l.picks.items ≡ map (λ (pair : Paired). pair.pick) (take l.pair-index l.pairs)
