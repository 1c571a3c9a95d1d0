use Rattle.std.proofs.Common.{◌≡◌, ◌<◌, IfSome, IfNone, length}
use Rattle.collective_query.proofs.anchoring.farthest_list.Given as goal

-- the list is one of those so far
abbrev pub invariant-loop-index : goal.invariant-loop-index
invariant-loop-index l = record {
  some : IfSome l.anchor (λ at. at < length l.lists);
  none : IfNone l.anchor (l.index ≡ 0);
}
