use Rattle.std.proofs.Common.{ℕ, ◌<◌, ◌≤◌, ◌+◌}
use Rattle.page_face.specs.Cells.{key_at}
use Rattle.btree_nodes.proofs.order.ascends_by_bytes.Given as goal

abbrev pub invariant-loop-at : goal.invariant-loop-at
invariant-loop-at l = (i : ℕ) → l.from ≤ i → i < l.at → key_at l.key l.width l.page i < key_at l.key l.width l.page (i + 1)
