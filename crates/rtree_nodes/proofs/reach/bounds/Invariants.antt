use Rattle.std.proofs.Common.{◌≡◌, true, not}
use Rattle.std.specs.Prelude.{◌||◌}
use Rattle.rtree_nodes.specs.Numbers.{all_below}
use Rattle.rtree_nodes.specs.Cells.{has_rect}
use Rattle.rtree_nodes.specs.Pages.{level_in, is_used, cell_at}
use Rattle.rtree_nodes.proofs.Bounding.{IsRound}
use Rattle.rtree_nodes.proofs.reach.bounds.Given as goal

abbrev pub invariant-loop-i : goal.invariant-loop-i
invariant-loop-i l = record {
  have : all_below l.i (λ k. not (is_used l.page k) || has_rect (level_in l.page) (cell_at l.page k)) ≡ true;
  round : IsRound l.page l.i l.bounds;
}
