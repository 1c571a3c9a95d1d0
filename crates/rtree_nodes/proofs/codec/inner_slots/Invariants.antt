use Rattle.std.proofs.Common.{◌≡◌, ℕ, ◌<◌, true, not, length}
use Rattle.std.specs.Prelude.{◌||◌}
use Rattle.rtree_nodes.specs.declared.held.Slots.TheVariants.{Inner}
use Rattle.rtree_nodes.specs.Numbers.{all_below}
use Rattle.rtree_nodes.specs.Cells.{has_form}
use Rattle.rtree_nodes.specs.Pages.{level_in, is_used, cell_at}
use Rattle.rtree_nodes.specs.Nodes.{HoldsAt}
use Rattle.rtree_nodes.proofs.codec.inner_slots.Given as goal

abbrev pub invariant-loop-i : goal.invariant-loop-i
invariant-loop-i l = record {
  rects : length l.rects ≡ 32;
  children : length l.children ≡ 32;
  have : all_below l.i (λ k. not (is_used l.page k) || has_form (level_in l.page) (cell_at l.page k)) ≡ true;
  holds : (k : ℕ) → k < l.i → HoldsAt l.page (Inner l.rects l.children) k;
}
