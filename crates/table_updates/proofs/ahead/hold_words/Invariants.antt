use Rattle.std.proofs.Common.{◌≡◌, ℕ, ◌+◌, ◌*◌, ◌≤◌, List, [], length, fold}
use Rattle.btree_nodes.specs.Supply.{view}
use Rattle.store_tables.specs.Entries.{Entries}
use Rattle.store_tables.specs.Holding.{Holds, IsApart, IsChanged}
use Rattle.store_model.specs.Ahead.{CanHoldAhead, held_ahead, with_counted}
use Rattle.table_updates.proofs.ahead.hold_words.Given as goal

abbrev pub invariant-loop-word : goal.invariant-loop-word
invariant-loop-word g l = record {
  goes : (goal.iterator-loop-word g).can_next l.word-iterator;
  ends : (goal.iterator-loop-word g).is_finite l.word-iterator;
  rises : l.tables.next_word + length l.word-iterator ≤ l.fn.tables.next_word + length l.fn.counts.entries;
  held : (entries : Entries) (free : List ℕ) → Holds (g.P.Pages.pages l.fn.pages) l.fn.tables entries → IsApart (view (g.P.Pages.pages l.fn.pages) (g.P.Pages.count l.fn.pages) (g.P.Pages.first l.fn.pages) free) l.fn.tables
      → (now : Entries)
      × IsChanged (view (g.P.Pages.pages l.fn.pages) (g.P.Pages.count l.fn.pages) (g.P.Pages.first l.fn.pages) free) l.fn.tables (g.P.Pages.pages l.pages) (g.P.Pages.count l.pages) (g.P.Pages.first l.pages) l.tables now
      × (fold with_counted (record { entries = now; next_word = l.tables.next_word; numbers = l.numbers.entries }) l.word-iterator ≡ held_ahead l.counts.entries l.fn.tables.next_word entries)
      × (CanHoldAhead l.counts.entries (record { entries = entries; next_word = l.fn.tables.next_word; numbers = [] }) → CanHoldAhead l.word-iterator (record { entries = now; next_word = l.tables.next_word; numbers = l.numbers.entries }));
  taken : g.P.Pages.count l.pages + 514 * length l.word-iterator ≤ g.P.Pages.count l.fn.pages + 514 * length l.fn.counts.entries;
  count : g.P.Pages.count l.fn.pages ≤ g.P.Pages.count l.pages;
  room : g.P.Pages.room l.pages ≡ g.P.Pages.room l.fn.pages;
  faults : g.P.Pages.faults l.pages ≡ g.P.Pages.faults l.fn.pages;
  refused : g.P.Pages.refused l.fn.pages ≤ g.P.Pages.refused l.pages;
  goes_on : g.P.Pages.is_stopped l.pages ≡ g.P.Pages.is_stopped l.fn.pages;
  follows : g.P.Pages.follows_from l.fn.pages l.pages;
}
