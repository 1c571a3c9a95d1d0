use Rattle.std.proofs.Common.{◌≡◌, true}
use Rattle.std.specs.Prelude.{◌||◌}
use Rattle.page_face.specs.FreeList.{are_zero}
use Rattle.rtree_nodes.specs.Numbers.{all_below}
use Rattle.rtree_nodes.specs.Pages.{is_used, cell_at}
use Rattle.rtree_nodes.proofs.spare.has_clear_slots.Given as goal

abbrev pub invariant-loop-i : goal.invariant-loop-i
invariant-loop-i l = all_below l.i (λ k. is_used l.page k || are_zero (cell_at l.page k)) ≡ true
