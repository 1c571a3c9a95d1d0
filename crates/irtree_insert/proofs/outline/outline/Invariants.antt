use Rattle.rtree_nodes.specs.Slots.{Slots}
use Rattle.irtree_insert.specs.Drafts.{AreOutlined}
use Rattle.irtree_insert.proofs.Outlines.{IsRound}
use Rattle.irtree_insert.proofs.outline.outline.Given as goal

abbrev pub invariant-loop-i : goal.invariant-loop-i
invariant-loop-i l = (s : Slots) → AreOutlined l.used l.rects s → IsRound s l.i l.bounds
