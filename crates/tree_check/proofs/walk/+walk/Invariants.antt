use Rattle.std.proofs.Common.{◌≡◌, ◌+◌, ◌*◌}
use Rattle.page_face.specs.Calls.{Reads}
use Rattle.btree_nodes.specs.Damages.{AreReadable}
use Rattle.page_walks.specs.Met.{held}
use Rattle.rtree_nodes.specs.Pages.{slots_in}
use Rattle.tree_check.specs.Walks.{AreWalked}
use Rattle.tree_check.proofs.walk.+walk.Given as goal

abbrev pub decreases-walk_node : goal.decreases-walk_node
decreases-walk_node g l = 3 * l.level + 2

abbrev pub decreases-walk_slots : goal.decreases-walk_slots
decreases-walk_slots g l = 3 * l.level + 1

abbrev pub decreases-walk_slot : goal.decreases-walk_slot
decreases-walk_slot g l = 3 * l.level

abbrev pub invariant-walk_slots-loop-at : goal.invariant-walk_slots-loop-at
invariant-walk_slots-loop-at g l =
    let p = g.P.Pages in
    record {
      frame : Reads p l.fn.pages l.pages;
      faults : p.faults l.pages ≡ p.faults l.fn.pages;
      walked : AreReadable (p.pages l.fn.pages) (p.count l.fn.pages)
          → AreWalked (p.pages l.fn.pages) (p.count l.fn.pages) l.level (slots_in l.bytes) (held l.fn.met) (held l.met) l.fn.list.items l.list.items l.at;
    }
