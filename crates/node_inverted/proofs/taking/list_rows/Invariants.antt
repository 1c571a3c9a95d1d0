use Rattle.std.proofs.Common.{◌≡◌, ℕ}
use Rattle.page_face.specs.Calls.{Reads}
use Rattle.btree_nodes.specs.Damages.{AreReadable, AsksOnly}
use Rattle.btree_nodes.specs.Tree.{IsMap, map_uses}
use Rattle.rtree_nodes.specs.Stock.{rows_form}
use Rattle.node_rows.specs.Rows.{bytes_in}
use Rattle.node_rows.specs.Copies.{IsCopy}
use Rattle.node_rows.specs.Ascents.{reached, left_from, until}
use Rattle.node_rows.specs.Words.{no_bytes}
use Rattle.node_inverted.specs.Lifts.{AreOrdered, bytes_at, lifted_at}
use Rattle.node_inverted.proofs.taking.list_rows.Given as goal

-- the rows before the next word are listed
abbrev pub invariant-loop-from : goal.invariant-loop-from
invariant-loop-from g l =
    let p = g.P.Pages in
    record {
      copy : IsMap rows_form (p.pages l.fn.pages) l.tree.rows → IsCopy (bytes_in (p.pages l.fn.pages) l.tree.rows) l.node l.copy;
      listed : IsMap rows_form (p.pages l.fn.pages) l.tree.rows → (n w i : ℕ) → lifted_at l.rows.items w i ≡ until (reached l.from) (bytes_at l.node (bytes_in (p.pages l.fn.pages) l.tree.rows)) no_bytes n w i;
      ordered : AreOrdered 0 (reached l.from) l.rows.items;
      own : AreReadable (p.pages l.fn.pages) (p.count l.fn.pages) → AsksOnly (map_uses rows_form (p.pages l.fn.pages) l.tree.rows) (p.asked l.fn.pages) (p.asked l.pages);
      frame : Reads p l.fn.pages l.pages;
      faults : p.faults l.pages ≡ p.faults l.fn.pages;
    }

-- the words ascend
abbrev pub decreases-loop-from : goal.decreases-loop-from
decreases-loop-from g l = left_from l.from
