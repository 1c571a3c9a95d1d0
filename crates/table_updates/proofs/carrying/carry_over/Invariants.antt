use Rattle.std.proofs.Common.{◌≡◌, ◌+◌, ◌*◌, ◌≤◌}
use Rattle.page_face.specs.Calls.{Changes}
use Rattle.page_face.specs.declared.head.Version.TheVariants.{Two}
use Rattle.btree_nodes.specs.Damages.{AreReadable, AsksOnly}
use Rattle.place_values.specs.State.{Contents}
use Rattle.table_updates.specs.Carrying.{StandBetween, any_page, block_of}
use Rattle.table_updates.specs.Version1.{PagesStandVersion1}
use Rattle.table_updates.proofs.carrying.carry_over.Given as goal

abbrev pub invariant-loop-left : goal.invariant-loop-left
invariant-loop-left g l = record {
  between : (state : Contents) (stand : PagesStandVersion1 (block_of (g.P.Pages.count l.fn.pages) (g.P.Pages.first l.fn.pages) l.fn.head) (g.P.Pages.pages l.fn.pages) state)
      → StandBetween (block_of (g.P.Pages.count l.pages) (g.P.Pages.first l.pages) l.next) (g.P.Pages.pages l.pages) stand.others stand.entries l.root l.left;
  told : (state : Contents) → PagesStandVersion1 (block_of (g.P.Pages.count l.fn.pages) (g.P.Pages.first l.fn.pages) l.fn.head) (g.P.Pages.pages l.fn.pages) state
      → AreReadable (g.P.Pages.pages l.fn.pages) (g.P.Pages.count l.fn.pages) → AreReadable (g.P.Pages.pages l.pages) (g.P.Pages.count l.pages);
  asks : ((p : _) → AreReadable (g.P.Pages.pages p) (g.P.Pages.count p)) → AsksOnly any_page (g.P.Pages.asked l.fn.pages) (g.P.Pages.asked l.pages);
  head : l.next ≡ record l.fn.head { version = Two; places = l.next.places };
  taken : g.P.Pages.count l.pages + 257 * l.left ≤ g.P.Pages.count l.fn.pages + 257 * l.fn.head.live;
  faults : g.P.Pages.faults l.pages ≡ g.P.Pages.faults l.fn.pages;
  frame : Changes g.P.Pages l.fn.pages l.pages;
}

abbrev pub decreases-loop-left : goal.decreases-loop-left
decreases-loop-left g l = l.left
