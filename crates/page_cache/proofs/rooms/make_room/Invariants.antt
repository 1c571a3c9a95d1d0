use Rattle.std.proofs.Common.{◌≡◌, ℕ, IsSome}
use Rattle.std.specs.BTreeMap.{get, IsOrdered}
use Rattle.std.specs.Ordering.{nat_cmp}
use Rattle.page_cache.specs.Rooms.{room_page}
use Rattle.page_cache.proofs.Tables.{HasRoomBut}
use Rattle.page_cache.proofs.rooms.make_room.Given as goal

abbrev pub invariant-loop-number : goal.invariant-loop-number
invariant-loop-number l = record {
  can_next : (goal.iterator-loop-number).can_next l.number-iterator;
  is_finite : (goal.iterator-loop-number).is_finite l.number-iterator;
  ordered : IsOrdered nat_cmp l.rooms;
  kept : (n : ℕ) → room_page l.rooms n ≡ room_page l.initial.rooms n;
  others : (n : ℕ) → IsSome (get nat_cmp l.initial.rooms n) → IsSome (get nat_cmp l.rooms n);
  room : HasRoomBut l.number-iterator l.table l.rooms;
}
