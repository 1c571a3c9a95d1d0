use Rattle.std.proofs.Common.{◌≡◌, ℕ, length}
use Rattle.std.specs.BTreeMap.{IsOrdered}
use Rattle.std.specs.Ordering.{nat_cmp}
use Rattle.page_cache.specs.Pages.{first_page, page_in}
use Rattle.page_cache.specs.Rooms.{HasRoomFor, room_page}
use Rattle.page_cache.proofs.rooms.fill.Given as goal

abbrev pub invariant-loop-number : goal.invariant-loop-number
invariant-loop-number l = record {
  ordered : IsOrdered nat_cmp l.rooms;
  room : HasRoomFor l.table l.rooms;
  filled : (n : ℕ) → first_page (page_in l.table n) (room_page l.rooms n) ≡ first_page (page_in l.initial.table n) (room_page l.initial.rooms n);
}

abbrev pub decreases-loop-number : goal.decreases-loop-number
decreases-loop-number l = length l.table.entries
