use Rattle.std.proofs.Common.{◌≡◌, ℕ}
use Rattle.page_face.specs.Calls.{Changes}
use Rattle.btree_nodes.specs.Damages.{AreReadable, AsksOnly}
use Rattle.btree_nodes.specs.Supply.{View}
use Rattle.node_rows.specs.Rows.{Bytes}
use Rattle.node_rows.specs.Ascents.{left_from}
use Rattle.node_rows.specs.Copies.{IsCopy}
use Rattle.node_rows.specs.Refreshing.{IsRefreshing, IsBounded, lesser_of, word_of}
use Rattle.node_inverted.proofs.refreshing.refresh.Given as goal

-- the words before those that lie ahead are refreshed
abbrev pub invariant-loop-number : goal.invariant-loop-number
invariant-loop-number g l =
    let p = g.P.Pages in
    record {
      root : l.tree.root ≡ l.initial.tree.root;
      turns : (before : View) (root : ℕ) (b : Bytes) → IsBounded b → (l.node ≡ l.child → ⊥)
          → IsRefreshing before root (p.pages l.initial.pages) (p.count l.initial.pages) (p.first l.initial.pages) l.initial.tree.rows l.node l.slot l.child b l.initial.below l.initial.above
          → IsCopy b l.child l.initial.below_copy → IsCopy b l.node l.initial.above_copy
          → IsRefreshing before root (p.pages l.pages) (p.count l.pages) (p.first l.pages) l.tree.rows l.node l.slot l.child b l.below l.above × IsCopy b l.child l.below_copy × IsCopy b l.node l.above_copy;
      told : AreReadable (p.pages l.fn.pages) (p.count l.fn.pages) → AreReadable (p.pages l.pages) (p.count l.pages);
      more : AreReadable (p.pages l.fn.pages) (p.count l.fn.pages) → AsksOnly (λ _. 1) (p.asked l.fn.pages) (p.asked l.pages);
      frame : Changes p l.initial.pages l.pages;
      faults : p.faults l.pages ≡ p.faults l.initial.pages;
    }

-- the lesser word that lies ahead rises
abbrev pub decreases-loop-number : goal.decreases-loop-number
decreases-loop-number g l = left_from (lesser_of (word_of l.below) (word_of l.above))
