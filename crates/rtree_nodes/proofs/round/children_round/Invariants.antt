use Rattle.std.proofs.Common.{◌≡◌, ◌<◌, ℕ, None, slice_index_or, length}
use Rattle.rtree_nodes.specs.Pages.{level_in, stored_in}
use Rattle.rtree_nodes.specs.Entries.{IsRound}
use Rattle.rtree_nodes.proofs.round.children_round.Given as goal

abbrev pub invariant-loop-at : goal.invariant-loop-at
invariant-loop-at l = (length l.children ≡ 32) × (0 < level_in l.page → (i : ℕ) → i < l.at → IsRound (stored_in l.page) l.point i (slice_index_or l.children i None))
