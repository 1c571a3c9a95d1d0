use Rattle.std.proofs.Common.{◌≡◌, ◌<◌, ◌&&◌, ℕ, nat_lt}
use Rattle.rtree_nodes.specs.Pages.{stored_in}
use Rattle.node_filter.specs.Masks.{has_slot}
use Rattle.boolean_queries.specs.Near.{in_order, near_slot, is_near}
use Rattle.boolean_queries.proofs.near.gather.Given as goal

abbrev pub invariant-loop-at : goal.invariant-loop-at
invariant-loop-at l = record {
  near : l.near.items ≡ in_order l.at (near_slot l.region l.level (stored_in l.page));
  slots : (i : ℕ) → i < 32 → has_slot l.mask i ≡ (nat_lt i l.at && is_near l.region l.level (stored_in l.page i));
}
