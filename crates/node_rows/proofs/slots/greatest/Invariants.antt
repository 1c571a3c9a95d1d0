use Rattle.std.proofs.Common.{◌≡◌, slice_index}
use Rattle.rtree_nodes.specs.Slots.{top_to}
use Rattle.node_rows.proofs.slots.greatest.Given as goal

abbrev pub invariant-loop-i : goal.invariant-loop-i
invariant-loop-i l = l.top ≡ top_to l.i (λ i. slice_index l.row i)
