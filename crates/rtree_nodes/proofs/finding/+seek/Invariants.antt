use Rattle.std.proofs.Common.{◌≡◌, ◌<◌, ℕ}
use Rattle.page_face.specs.Calls.{Reads}
use Rattle.btree_nodes.specs.Damages.{AsksOnly, KeepsAsked}
use Rattle.rtree_nodes.specs.Slots.{got}
use Rattle.rtree_nodes.specs.Trees.{below}
use Rattle.rtree_nodes.specs.Made.{nodes_in}
use Rattle.rtree_nodes.specs.Pages.{node_of}
use Rattle.rtree_nodes.specs.Entries.{is_entry}
use Rattle.rtree_nodes.specs.Subtrees.{IsNodeAt}
use Rattle.rtree_nodes.proofs.finding.+seek.Given as goal

-- each step down is to a lower level, so that it ends on any bytes
abbrev pub decreases-seek : goal.decreases-seek
decreases-seek g l = l.level

-- the slots so far have no entry below them
abbrev pub invariant-loop-at : goal.invariant-loop-at
invariant-loop-at g l =
    let p = g.P.Pages in
    record {
      frame : Reads p l.fn.pages l.pages;
      faults : p.faults l.pages ≡ p.faults l.fn.pages;
      keeps : KeepsAsked (p.asked l.fn.pages) (p.asked l.pages);
      more : AsksOnly (λ _. 1) (p.asked l.fn.pages) (p.asked l.pages);
      passed : p.looked l.fn.pages ≡ p.pages l.fn.pages l.page → IsNodeAt (nodes_in node_of (p.pages l.fn.pages)) l.level l.page → (i : ℕ) → i < l.at
          → got (λ y. below (nodes_in node_of (p.pages l.fn.pages)) (is_entry l.point l.key) l.level y) ((nodes_in node_of (p.pages l.fn.pages) l.page).slots i) ≡ 0;
    }
