use Rattle.std.proofs.Common.{◌≡◌, ℕ, List}
use Rattle.page_face.specs.Calls.{Changes}
use Rattle.btree_nodes.specs.Damages.{AreReadable, AsksOnly}
use Rattle.btree_nodes.specs.Supply.{view}
use Rattle.node_rows.specs.Rows.{IsRows, bytes_in}
use Rattle.node_inverted.specs.Drafts.{Reaches, edited_by, edits_in}
use Rattle.node_inverted.proofs.drafting.edit_rows.Given as goal

-- what is left leads to what all the changes lead to
abbrev pub invariant-loop-number : goal.invariant-loop-number
invariant-loop-number g l =
    let p = g.P.Pages in
    record {
      root : l.tree.root ≡ l.fn.tree.root;
      turns : (free : List ℕ) → IsRows (view (p.pages l.fn.pages) (p.count l.fn.pages) (p.first l.fn.pages) free) l.fn.tree.rows
          → Reaches (view (p.pages l.fn.pages) (p.count l.fn.pages) (p.first l.fn.pages) free) l.fn.tree.rows (p.pages l.pages) (p.count l.pages) (p.first l.pages) l.tree.rows
          (edited_by l.node l.left) (edited_by l.node l.edits (bytes_in (p.pages l.fn.pages) l.fn.tree.rows));
      told : AreReadable (p.pages l.fn.pages) (p.count l.fn.pages) → AreReadable (p.pages l.pages) (p.count l.pages);
      more : AreReadable (p.pages l.fn.pages) (p.count l.fn.pages) → AsksOnly (λ _. 1) (p.asked l.fn.pages) (p.asked l.pages);
      frame : Changes p l.fn.pages l.pages;
      faults : p.faults l.pages ≡ p.faults l.fn.pages;
    }

abbrev pub decreases-loop-number : goal.decreases-loop-number
decreases-loop-number g l = edits_in l.left
