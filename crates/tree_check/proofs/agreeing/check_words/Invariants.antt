use Rattle.std.proofs.Common.{◌≡◌, take}
use Rattle.std.specs.List.{AllByRecursion}
use Rattle.page_face.specs.Calls.{Reads}
use Rattle.store_tables.specs.Entries.{Entries}
use Rattle.tree_check.specs.Agreement.{AreRight, AreSound, IsNodePage}
use Rattle.tree_check.proofs.agreeing.check_words.Given as goal

abbrev pub invariant-loop-page : goal.invariant-loop-page
invariant-loop-page g l =
    let p = g.P.Pages in
    record {
      frame : Reads p l.fn.pages l.pages;
      faults : p.faults l.pages ≡ p.faults l.fn.pages;
      right : (entries : Entries) → AreSound (p.pages l.fn.pages) (p.count l.fn.pages) l.tree.rows l.tables entries → AllByRecursion (IsNodePage (p.pages l.fn.pages) (p.count l.fn.pages)) l.list
          → AllByRecursion (AreRight (p.pages l.fn.pages) l.tree.rows entries.places) (take l.page-index l.list);
    }
