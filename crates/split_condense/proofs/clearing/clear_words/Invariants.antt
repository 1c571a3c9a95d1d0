use Rattle.std.proofs.Common.{◌≡◌, ℕ, List, take}
use Rattle.page_face.specs.Calls.{Changes}
use Rattle.btree_nodes.specs.Damages.{AreReadable, AsksOnly}
use Rattle.btree_nodes.specs.Supply.{view}
use Rattle.node_rows.specs.Rows.{IsRows, bytes_in}
use Rattle.node_rows.specs.Turns.{Turns}
use Rattle.node_rows.specs.Refreshing.{on_words}
use Rattle.split_condense.specs.Clears.{cleared}
use Rattle.split_condense.proofs.clearing.clear_words.Given as goal

-- the words so far are cleared
abbrev pub invariant-loop-pair : goal.invariant-loop-pair
invariant-loop-pair g l =
    let p = g.P.Pages in
    record {
      root : l.tree.root ≡ l.fn.tree.root;
      turns : (free : List ℕ) → IsRows (view (p.pages l.fn.pages) (p.count l.fn.pages) (p.first l.fn.pages) free) l.fn.tree.rows
          → Turns (view (p.pages l.fn.pages) (p.count l.fn.pages) (p.first l.fn.pages) free) l.fn.tree.rows (p.pages l.pages) (p.count l.pages) (p.first l.pages) l.tree.rows
          (on_words (take l.pair-index l.words) (cleared l.node l.slot (bytes_in (p.pages l.fn.pages) l.fn.tree.rows)) (bytes_in (p.pages l.fn.pages) l.fn.tree.rows));
      told : AreReadable (p.pages l.fn.pages) (p.count l.fn.pages) → AreReadable (p.pages l.pages) (p.count l.pages);
      more : AreReadable (p.pages l.fn.pages) (p.count l.fn.pages) → AsksOnly (λ _. 1) (p.asked l.fn.pages) (p.asked l.pages);
      frame : Changes p l.fn.pages l.pages;
      faults : p.faults l.pages ≡ p.faults l.fn.pages;
    }
