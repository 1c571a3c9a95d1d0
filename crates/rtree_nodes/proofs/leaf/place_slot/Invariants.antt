use Rattle.std.proofs.Common.{◌≡◌, ◌<◌, ℕ}
use Rattle.rtree_nodes.specs.Slots.{got}
use Rattle.rtree_nodes.specs.Pages.{level_in, stored_in}
use Rattle.rtree_nodes.specs.Entries.{is_entry}
use Rattle.rtree_nodes.proofs.leaf.place_slot.Given as goal

abbrev pub invariant-loop-at : goal.invariant-loop-at
invariant-loop-at l = level_in l.page ≡ 0 → (i : ℕ) → i < l.at → got (is_entry l.point l.key) (stored_in l.page i) ≡ 0
