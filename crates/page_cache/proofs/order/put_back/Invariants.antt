use Rattle.std.proofs.Common.{◌≡◌, ℕ, ◌+◌, ◌≤◌, length}
use Rattle.indexmap.specs.IndexMap.{spare}
use Rattle.page_cache.specs.Pages.{first_page, page_in}
use Rattle.page_cache.specs.Rooms.{ordered_page}
use Rattle.page_cache.proofs.order.put_back.Given as goal

abbrev pub invariant-loop-number : goal.invariant-loop-number
invariant-loop-number l = record {
  moved : (n : ℕ) → first_page (ordered_page l.ordered n) (page_in l.table n) ≡ first_page (ordered_page l.initial.ordered n) (page_in l.initial.table n);
  room : length l.ordered.entries ≤ spare l.table;
  used : spare l.initial.table + length l.ordered.entries ≤ spare l.table + length l.initial.ordered.entries;
  len : length l.table.entries + length l.ordered.entries ≤ length l.initial.table.entries + length l.initial.ordered.entries;
}

abbrev pub decreases-loop-number : goal.decreases-loop-number
decreases-loop-number l = length l.ordered.entries
