use Rattle.std.proofs.Common.{◌≡◌, ℕ, ◌+◌, ◌≤◌, length}
use Rattle.std.specs.BTreeMap.{IsOrdered}
use Rattle.std.specs.Ordering.{nat_cmp}
use Rattle.indexmap.specs.IndexMap.{spare}
use Rattle.page_cache.specs.Pages.{first_page, page_in}
use Rattle.page_cache.specs.Rooms.{ordered_page}
use Rattle.page_cache.proofs.order.put_in_order.Given as goal

abbrev pub invariant-loop-number : goal.invariant-loop-number
invariant-loop-number l = record {
  ordered : IsOrdered nat_cmp l.ordered;
  left : l.left ≡ l.initial.left;
  together : (n : ℕ) → first_page (page_in l.table n) (first_page (ordered_page l.ordered n) (page_in l.left n))
      ≡ first_page (page_in l.initial.table n) (first_page (ordered_page l.initial.ordered n) (page_in l.initial.left n));
  room : length l.table.entries + length l.ordered.entries ≤ spare l.left;
  len : length l.table.entries + length l.ordered.entries ≤ length l.initial.table.entries + length l.initial.ordered.entries;
}

abbrev pub decreases-loop-number : goal.decreases-loop-number
decreases-loop-number l = length l.table.entries
