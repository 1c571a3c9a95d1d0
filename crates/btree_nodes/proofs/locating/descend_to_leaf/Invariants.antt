use Rattle.std.proofs.Common.{◌≡◌, ◌<◌}
use Rattle.page_face.specs.Number.{number}
use Rattle.page_face.specs.Calls.{Reads}
use Rattle.btree_nodes.specs.Steps.{low_of, high_of}
use Rattle.btree_nodes.proofs.Descents.{Descends}
use Rattle.btree_nodes.proofs.locating.descend_to_leaf.Given as goal

-- the levels fall, so that it ends on any bytes
abbrev pub decreases-down : goal.decreases-down
decreases-down g l = l.height

abbrev pub invariant-down : goal.invariant-down
invariant-down g l =
    let p = g.P.Pages in
    record {
      descends : Descends l.form (p.pages l.fn.pages) (p.count l.fn.pages) (number l.key) l.least l.level l.page (low_of l.form l.fn.bounds) (high_of l.form l.fn.bounds)
          (p.looked l.fn.pages) (p.asked l.fn.pages) l.fill l.height l.here (low_of l.form l.bounds) (high_of l.form l.bounds) (p.looked l.pages) (p.asked l.pages);
      top : 0 < l.bounds.top → l.bounds.top ≡ l.form.key;
      frame : Reads p l.fn.pages l.pages;
      faults : p.faults l.pages ≡ p.faults l.fn.pages;
    }
