use Rattle.std.proofs.Common.{◌≡◌}
use Rattle.page_face.specs.Calls.{Reads}
use Rattle.btree_nodes.specs.Damages.{AreReadable, AsksOnly}
use Rattle.btree_nodes.specs.Tree.{IsMap, map_uses}
use Rattle.rtree_nodes.specs.Stock.{rows_form}
use Rattle.node_rows.specs.Rows.{bytes_in}
use Rattle.node_rows.specs.Copies.{IsCopy}
use Rattle.node_rows.specs.Ascents.{reached, left_from}
use Rattle.node_rows.specs.Counts.{IsCounted}
use Rattle.node_rows.proofs.pairing.like.Given as goal

-- the words before the next one are counted
abbrev pub invariant-loop-from : goal.invariant-loop-from
invariant-loop-from g l =
    let p = g.P.Pages in
    record {
      copy : IsMap rows_form (p.pages l.fn.pages) l.tree.rows → IsCopy (bytes_in (p.pages l.fn.pages) l.tree.rows) l.node l.copy;
      counted : IsMap rows_form (p.pages l.fn.pages) l.tree.rows → IsCounted (bytes_in (p.pages l.fn.pages) l.tree.rows) l.node l.words (reached l.from) l.table;
      own : AreReadable (p.pages l.fn.pages) (p.count l.fn.pages) → AsksOnly (map_uses rows_form (p.pages l.fn.pages) l.tree.rows) (p.asked l.fn.pages) (p.asked l.pages);
      frame : Reads p l.fn.pages l.pages;
      faults : p.faults l.pages ≡ p.faults l.fn.pages;
    }

-- the words ascend
abbrev pub decreases-loop-from : goal.decreases-loop-from
decreases-loop-from g l = left_from l.from
