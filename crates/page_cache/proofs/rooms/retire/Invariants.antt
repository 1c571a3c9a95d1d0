use Rattle.std.proofs.Common.{◌≡◌, ℕ, List, Some, length}
use Rattle.std.specs.BTreeMap.{IsOrdered}
use Rattle.std.specs.Ordering.{nat_cmp}
use Rattle.page_cache.specs.Pairs.{bytes_at, pairs_of, room_of}
use Rattle.page_cache.specs.Pages.{first_page}
use Rattle.page_cache.specs.Rooms.{room_page}
use Rattle.page_cache.proofs.rooms.retire.Given as goal

abbrev pub invariant-loop-number : goal.invariant-loop-number
invariant-loop-number l = record {
  ordered : IsOrdered nat_cmp l.rooms;
  shrinks : (n : ℕ) (page : List ℕ) → first_page (room_page l.rooms n) (bytes_at n (pairs_of l.cache)) ≡ Some page
      → first_page (room_page l.initial.rooms n) (bytes_at n (pairs_of l.initial.cache)) ≡ Some page;
  room : room_of l.cache ≡ room_of l.initial.cache;
}

abbrev pub decreases-loop-number : goal.decreases-loop-number
decreases-loop-number l = length l.rooms.entries
