use Rattle.std.proofs.Common.{◌≡◌, ◌≤◌}
use Rattle.rtree_nodes.specs.Masks.{marked}
use Rattle.rtree_nodes.proofs.mask.ones.Given as goal

abbrev pub invariant-loop-i : goal.invariant-loop-i
invariant-loop-i l = record {
  is : l.ones ≡ marked l.i l.mask;
  small : l.ones ≤ l.i;
}
