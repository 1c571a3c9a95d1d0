use Rattle.std.proofs.Common.{◌≡◌, ℕ, ◌+◌, ◌≤◌, length}
use Rattle.indexmap.specs.IndexMap.{spare}
use Rattle.page_cache.specs.Pages.{first_page, page_in}
use Rattle.page_cache.proofs.table.move_all.Given as goal

abbrev pub invariant-loop-number : goal.invariant-loop-number
invariant-loop-number l = record {
  moved : (n : ℕ) → first_page (page_in l.from n) (page_in l.to n) ≡ first_page (page_in l.initial.from n) (page_in l.initial.to n);
  room : length l.from.entries ≤ spare l.to;
  len : length l.to.entries + length l.from.entries ≤ length l.initial.to.entries + length l.initial.from.entries;
}

abbrev pub decreases-loop-number : goal.decreases-loop-number
decreases-loop-number l = length l.from.entries
