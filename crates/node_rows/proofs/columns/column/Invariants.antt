use Rattle.std.proofs.Common.{◌≡◌, ℕ}
use Rattle.page_face.specs.Calls.{Reads}
use Rattle.btree_nodes.specs.Damages.{AreReadable, AsksOnly}
use Rattle.btree_nodes.specs.Tree.{IsMap, map_uses}
use Rattle.rtree_nodes.specs.Stock.{rows_form}
use Rattle.node_rows.specs.Rows.{bytes_in}
use Rattle.node_rows.specs.Copies.{IsCopy}
use Rattle.node_rows.specs.Ascents.{reached, left_from, until}
use Rattle.node_rows.specs.Impacts.{impact_in}
use Rattle.node_rows.specs.Words.{AreWords, slot_of, no_bytes}
use Rattle.node_rows.proofs.columns.column.Given as goal

-- the words before the next one are listed
abbrev pub invariant-loop-from : goal.invariant-loop-from
invariant-loop-from g l =
    let p = g.P.Pages in
    record {
      copy : IsMap rows_form (p.pages l.fn.pages) l.tree.rows → IsCopy (bytes_in (p.pages l.fn.pages) l.tree.rows) l.node l.copy;
      listed : IsMap rows_form (p.pages l.fn.pages) l.tree.rows → (n w i : ℕ) → impact_in l.words.items w ≡ until (reached l.from) (slot_of (bytes_in (p.pages l.fn.pages) l.tree.rows) l.node l.slot) no_bytes n w i;
      ordered : AreWords 0 (reached l.from) l.words.items;
      own : AreReadable (p.pages l.fn.pages) (p.count l.fn.pages) → AsksOnly (map_uses rows_form (p.pages l.fn.pages) l.tree.rows) (p.asked l.fn.pages) (p.asked l.pages);
      frame : Reads p l.fn.pages l.pages;
      faults : p.faults l.pages ≡ p.faults l.fn.pages;
    }

-- the words ascend
abbrev pub decreases-loop-from : goal.decreases-loop-from
decreases-loop-from g l = left_from l.from
