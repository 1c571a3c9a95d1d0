use Rattle.std.proofs.Common.{◌≡◌, take}
use Rattle.page_face.specs.Calls.{Reads}
use Rattle.btree_nodes.specs.Damages.{AreReadable, AsksOnly}
use Rattle.btree_nodes.specs.Tree.{IsMap, map_uses}
use Rattle.rtree_nodes.specs.Stock.{rows_form}
use Rattle.node_rows.specs.Rows.{bytes_in}
use Rattle.node_rows.specs.Known.{AreRowsAt}
use Rattle.node_rows.proofs.sharing.rows_at.Given as goal

-- the rows of the words so far are there
abbrev pub invariant-loop-pair : goal.invariant-loop-pair
invariant-loop-pair g l =
    let p = g.P.Pages in
    record {
      listed : IsMap rows_form (p.pages l.fn.pages) l.tree.rows → AreRowsAt (bytes_in (p.pages l.fn.pages) l.tree.rows) l.node (take l.pair-index l.words) l.rows.items;
      own : AreReadable (p.pages l.fn.pages) (p.count l.fn.pages) → AsksOnly (map_uses rows_form (p.pages l.fn.pages) l.tree.rows) (p.asked l.fn.pages) (p.asked l.pages);
      frame : Reads p l.fn.pages l.pages;
      faults : p.faults l.pages ≡ p.faults l.fn.pages;
    }
