use Rattle.std.proofs.Common.{◌≡◌, ◌≤◌, length, slice_index}
use Rattle.std.specs.List.{AllByRecursion}
use Rattle.rtree_nodes.specs.Pages.{stored_in}
use Rattle.best_first.specs.Items.{IsGivenAt}
use Rattle.node_filter.specs.Masks.{has_slot}
use Rattle.best_first.specs.Cuts.{kept_of}
use Rattle.best_first.specs.NodeOpenings.{marked_by, given_at, spread, IsIn}
use Rattle.best_first.proofs.gathering.gather.Given as goal

-- the slots so far have given theirs
abbrev pub invariant-loop-at : goal.invariant-loop-at
invariant-loop-at l = record {
  given : l.items.items ≡ kept_of l.most (spread l.at (λ i. given_at (marked_by l.from l.ask l.level (has_slot l.marks.slots i) (slice_index l.marks.texts i)) (stored_in l.page i)));
  few : length l.items.items ≤ l.at;
  levels : AllByRecursion (IsGivenAt l.level) l.items.items;
  stand : AllByRecursion (IsIn (stored_in l.page)) l.items.items;
}
