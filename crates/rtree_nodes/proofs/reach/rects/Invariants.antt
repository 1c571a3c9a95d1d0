use Rattle.std.proofs.Common.{◌≡◌, ℕ, ◌<◌, true, not, length}
use Rattle.std.specs.Prelude.{◌||◌, slice_index_or, if◌then◌else◌}
use Rattle.rtree_nodes.specs.Numbers.{all_below}
use Rattle.rtree_nodes.specs.Reach.{origin_rect}
use Rattle.rtree_nodes.specs.Cells.{has_rect}
use Rattle.rtree_nodes.specs.Pages.{level_in, is_used, cell_at, rect_of_slot}
use Rattle.rtree_nodes.proofs.reach.rects.Given as goal

abbrev pub invariant-loop-i : goal.invariant-loop-i
invariant-loop-i l = record {
  long : length l.rects ≡ 32;
  have : all_below l.i (λ k. not (is_used l.page k) || has_rect (level_in l.page) (cell_at l.page k)) ≡ true;
  done : (k : ℕ) → k < l.i → slice_index_or l.rects k origin_rect ≡ (if is_used l.page k then rect_of_slot l.page k else origin_rect);
}
