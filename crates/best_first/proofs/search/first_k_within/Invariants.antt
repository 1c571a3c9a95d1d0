use Rattle.std.proofs.Common.{◌≡◌, None, ℕ, List}
use Rattle.std.specs.BinaryHeap.{heap_items}
use Rattle.std.specs.List.{AllByRecursion}
use Rattle.page_face.specs.Calls.{Reads}
use Rattle.page_face.specs.declared.fault.Damage.{Damage}
use Rattle.place_values.specs.First.{IsRanked}
use Rattle.std.proofs.Common.{◌≤◌, length}
use Rattle.place_values.specs.Hit.{comes_before}
use Rattle.best_first.specs.Items.{OfNode}
use Rattle.best_first.specs.Leads.{leads}
use Rattle.best_first.specs.Queue.{waiting}
use Rattle.best_first.proofs.Steps.{Searching, work}
use Rattle.best_first.proofs.Histories.{Underway}
use Rattle.best_first.proofs.Levels.{IsLed}
use Rattle.best_first.proofs.search.first_k_within.Given as goal

abbrev pub invariant-search : goal.invariant-search
invariant-search g l = record {
  opens : g.R.Ranked.opens l.ranked l.pages ≡ g.R.Ranked.opens l.fn.ranked l.fn.pages;
  told : g.R.Ranked.told l.fn.ranked l.fn.pages → g.R.Ranked.told l.ranked l.pages;
  stays : (page level : ℕ) → g.R.Ranked.has_node l.fn.ranked l.fn.pages page level → g.R.Ranked.has_node l.ranked l.pages page level;
  inside : g.R.Ranked.fits l.fn.ranked l.fn.pages → AllByRecursion (OfNode (g.R.Ranked.has_node l.fn.ranked l.fn.pages)) (waiting (heap_items l.queue.heap));
  nodes : (page : ℕ) → g.R.Ranked.is_node l.fn.ranked l.fn.pages page → g.R.Ranked.is_node l.ranked l.pages page;
  held : g.R.Ranked.held l.ranked ≡ None;
  fits : g.R.Ranked.fits l.fn.ranked l.fn.pages → g.R.Ranked.fits l.ranked l.pages;
  harms : (old new : List ℕ) (damage : Damage) → g.R.Ranked.harms l.ranked l.pages old new damage → g.R.Ranked.harms l.fn.ranked l.fn.pages old new damage;
  frame : Reads g.P.Pages l.fn.pages l.pages;
  faults : g.P.Pages.faults l.pages ≡ g.P.Pages.faults l.fn.pages;
  ranked : IsRanked comes_before l.found.items;
  short : length l.found.items ≤ l.k;
  search : g.R.Ranked.fits l.fn.ranked l.fn.pages → Searching (g.R.Ranked.opens l.fn.ranked l.fn.pages) (leads (g.R.Ranked.opens l.fn.ranked l.fn.pages) (g.R.Ranked.starts l.fn.ranked l.fn.pages)) l.limit l.k l.found.items (waiting (heap_items l.queue.heap));
  history : g.R.Ranked.told l.fn.ranked l.fn.pages → Underway g.R.Ranked.stands (g.P.Pages.pages l.fn.pages) (g.R.Ranked.is_node l.fn.ranked l.fn.pages) (g.R.Ranked.fits l.fn.ranked l.fn.pages) (g.R.Ranked.opens l.fn.ranked l.fn.pages) (g.R.Ranked.starts l.fn.ranked l.fn.pages) (g.R.Ranked.root l.fn.ranked) (g.P.Pages.asked l.fn.pages) (g.P.Pages.asked l.pages) l.k l.found.items (waiting (heap_items l.queue.heap));
  led : g.R.Ranked.told l.fn.ranked l.fn.pages → AllByRecursion (IsLed g.R.Ranked.stands g.R.Ranked.has_level (g.P.Pages.pages l.fn.pages) (g.P.Pages.asked l.fn.pages) (g.P.Pages.asked l.pages)) (waiting (heap_items l.queue.heap));
}

abbrev pub decreases-search : goal.decreases-search
decreases-search g l = work (waiting (heap_items l.queue.heap))
