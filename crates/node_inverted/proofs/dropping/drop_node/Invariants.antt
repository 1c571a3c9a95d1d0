use Rattle.std.proofs.Common.{◌≡◌, ℕ, List}
use Rattle.page_face.specs.Calls.{Changes}
use Rattle.btree_nodes.specs.Damages.{AreReadable, AsksOnly}
use Rattle.btree_nodes.specs.Supply.{view}
use Rattle.node_rows.specs.Rows.{IsRows, bytes_in}
use Rattle.node_rows.specs.Copies.{IsCopy}
use Rattle.node_rows.specs.Ascents.{reached, left_from}
use Rattle.node_inverted.specs.Gathers.{IsDropping}
use Rattle.node_inverted.proofs.dropping.drop_node.Given as goal

-- with the gathered rows set the words before the next one are dropped
abbrev pub invariant-loop-from : goal.invariant-loop-from
invariant-loop-from g l =
    let p = g.P.Pages in
    record {
      root : l.tree.root ≡ l.fn.tree.root;
      dropping : (free : List ℕ) → IsRows (view (p.pages l.fn.pages) (p.count l.fn.pages) (p.first l.fn.pages) free) l.fn.tree.rows
          → IsDropping (view (p.pages l.fn.pages) (p.count l.fn.pages) (p.first l.fn.pages) free) l.fn.tree.rows (p.pages l.pages) (p.count l.pages) (p.first l.pages) l.tree.rows
          l.node (bytes_in (p.pages l.fn.pages) l.fn.tree.rows) (reached l.from) l.rows.items;
      copy : (free : List ℕ) → IsRows (view (p.pages l.fn.pages) (p.count l.fn.pages) (p.first l.fn.pages) free) l.fn.tree.rows → IsCopy (bytes_in (p.pages l.fn.pages) l.fn.tree.rows) l.node l.copy;
      told : AreReadable (p.pages l.fn.pages) (p.count l.fn.pages) → AreReadable (p.pages l.pages) (p.count l.pages);
      more : AreReadable (p.pages l.fn.pages) (p.count l.fn.pages) → AsksOnly (λ _. 1) (p.asked l.fn.pages) (p.asked l.pages);
      frame : Changes p l.fn.pages l.pages;
      faults : p.faults l.pages ≡ p.faults l.fn.pages;
    }

-- the words ascend
abbrev pub decreases-loop-from : goal.decreases-loop-from
decreases-loop-from g l = left_from l.from
