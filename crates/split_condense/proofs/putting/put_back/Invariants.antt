use Rattle.std.proofs.Common.{◌≡◌, ℕ, List, vec_len}
use Rattle.page_face.specs.Calls.{Changes}
use Rattle.btree_nodes.specs.Damages.{AreReadable, AsksOnly}
use Rattle.rtree_nodes.specs.Slots.{Item}
use Rattle.rtree_nodes.specs.Stock.{View, view}
use Rattle.rtree_nodes.specs.Pages.{node_of}
use Rattle.irtree_shape.specs.Stock.{IsSupplied}
use Rattle.irtree_shape.specs.Loose.{IsStanding}
use Rattle.split_condense.specs.Orphans.{loose_in}
use Rattle.irtree_insert.specs.Roots.{Stands}
use Rattle.split_condense.proofs.putting.put_back.Given as goal

abbrev pub invariant-loop-orphan : goal.invariant-loop-orphan
invariant-loop-orphan g l = record {
  frame : Changes g.P.Pages l.initial.pages l.pages;
  faults : g.P.Pages.faults l.pages ≡ g.P.Pages.faults l.initial.pages;
  told : AreReadable (g.P.Pages.pages l.initial.pages) (g.P.Pages.count l.initial.pages) → AreReadable (g.P.Pages.pages l.pages) (g.P.Pages.count l.pages);
  more : AreReadable (g.P.Pages.pages l.initial.pages) (g.P.Pages.count l.initial.pages) → AsksOnly (λ _. 1) (g.P.Pages.asked l.initial.pages) (g.P.Pages.asked l.pages);
  standing : (before : View) (free : List ℕ) (level : ℕ) (mine : ℕ → ℕ) (sums : (Item → ℕ) → ℕ) → IsSupplied before
      → IsStanding node_of before (view (g.P.Pages.pages l.initial.pages) l.initial.tree.rows (g.P.Pages.count l.initial.pages) (g.P.Pages.first l.initial.pages) free) level l.initial.tree.root (loose_in l.initial.orphans.items) mine sums
      → Stands before (g.P.Pages.pages l.pages) l.tree.rows (g.P.Pages.count l.pages) (g.P.Pages.first l.pages) l.tree.root (loose_in l.orphans.items) mine sums;
}

abbrev pub decreases-loop-orphan : goal.decreases-loop-orphan
decreases-loop-orphan g l = vec_len l.orphans
