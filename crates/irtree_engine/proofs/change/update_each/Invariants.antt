use Rattle.std.proofs.Common.{◌≡◌, ◌+◌, ◌≤◌, length, option_map}
use Rattle.std.specs.List.{AllByRecursion}
use Rattle.page_face.specs.Calls.{Changes}
use Rattle.place_values.specs.State.{Contents}
use Rattle.store_model.specs.Stands.{PagesStand}
use Rattle.irtree_engine.specs.Changes.{AreNumbersAhead, block_with}
use Rattle.place_values.specs.Update.{NamesText}
use Rattle.irtree_engine.proofs.Batches.{AreUpdated}
use Rattle.irtree_engine.proofs.change.update_each.Given as goal

abbrev pub invariant-loop-next : goal.invariant-loop-next
invariant-loop-next g l = record {
  keys : AllByRecursion NamesText l.left;
  stand : (state : Contents) → PagesStand (block_with (g.P.Pages.count l.fn.pages) (g.P.Pages.first l.fn.pages) l.fn.head) (g.P.Pages.pages l.fn.pages) state
      → AreUpdated (option_map (λ numbers. numbers.entries) l.held) state l.fn.updates l.left (block_with (g.P.Pages.count l.pages) (g.P.Pages.first l.pages) l.head) (g.P.Pages.pages l.pages);
  ahead : AreNumbersAhead (option_map (λ numbers. numbers.entries) l.held) l.left l.head;
  lives : l.head.live + length l.left ≤ l.fn.head.live + length l.fn.updates;
  numbers : l.head.number + length l.left ≤ l.fn.head.number + length l.fn.updates;
  faults : g.P.Pages.faults l.pages ≡ g.P.Pages.faults l.fn.pages;
  frame : Changes g.P.Pages l.fn.pages l.pages;
}

abbrev pub decreases-loop-next : goal.decreases-loop-next
decreases-loop-next g l = length l.left
