use Rattle.std.proofs.Common.{◌≡◌, ℕ, ◌<◌, true}
use Rattle.page_face.specs.Calls.{Reads}
use Rattle.rtree_nodes.specs.Pages.{is_form, level_in, slots_in}
use Rattle.node_rows.specs.Rows.{bytes_in}
use Rattle.store_tables.specs.Entries.{Entries}
use Rattle.tree_check.specs.Agreement.{AreSound, IsRight}
use Rattle.tree_check.proofs.agreeing.check_node.Given as goal

abbrev pub invariant-loop-at : goal.invariant-loop-at
invariant-loop-at g l =
    let p = g.P.Pages in
    record {
      frame : Reads p l.fn.pages l.pages;
      faults : p.faults l.pages ≡ p.faults l.fn.pages;
      right : (entries : Entries) → AreSound (p.pages l.fn.pages) (p.count l.fn.pages) l.tree.rows l.tables entries → is_form l.bytes ≡ true
          → (i : ℕ) → i < l.at → IsRight (bytes_in (p.pages l.fn.pages) l.tree.rows) entries.places (level_in l.bytes) (λ w. bytes_in (p.pages l.fn.pages) l.tree.rows l.page w i) (slots_in l.bytes i);
    }
