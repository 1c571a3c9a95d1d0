use Rattle.std.proofs.Common.{◌≡◌, ℕ}
use Rattle.page_face.specs.Calls.{Reads}
use Rattle.btree_nodes.specs.Tree.{IsMap}
use Rattle.rtree_nodes.specs.Stock.{rows_form}
use Rattle.node_rows.specs.Rows.{bytes_in}
use Rattle.node_rows.specs.Copies.{IsCopy}
use Rattle.node_rows.specs.Ascents.{reached, left_from, until}
use Rattle.node_rows.specs.Words.{no_bytes}
use Rattle.tree_check.specs.Columns.{DoAscend, node_bytes, said_by}
use Rattle.tree_check.proofs.reading.rows_of.Given as goal

-- the rows before the next word are listed
abbrev pub invariant-loop-from : goal.invariant-loop-from
invariant-loop-from g l =
    let p = g.P.Pages in
    record {
      copy : IsMap rows_form (p.pages l.fn.pages) l.tree.rows → IsCopy (bytes_in (p.pages l.fn.pages) l.tree.rows) l.node l.copy;
      listed : IsMap rows_form (p.pages l.fn.pages) l.tree.rows → (n w i : ℕ) → said_by l.rows.items n w i ≡ until (reached l.from) (node_bytes (bytes_in (p.pages l.fn.pages) l.tree.rows) l.node) no_bytes n w i;
      ordered : DoAscend 0 (reached l.from) l.rows.items;
      frame : Reads p l.fn.pages l.pages;
      faults : p.faults l.pages ≡ p.faults l.fn.pages;
    }

-- the words ascend
abbrev pub decreases-loop-from : goal.decreases-loop-from
decreases-loop-from g l = left_from l.from
