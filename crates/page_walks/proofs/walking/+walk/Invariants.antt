use Rattle.std.proofs.Common.{◌≡◌, suc, ◌+◌, ◌*◌}
use Rattle.page_face.specs.Number.{number}
use Rattle.page_face.specs.Calls.{Reads}
use Rattle.btree_nodes.specs.Bounds.{upper_of}
use Rattle.btree_nodes.specs.Damages.{AreReadable}
use Rattle.page_walks.specs.Met.{held, Meets}
use Rattle.page_walks.specs.Beneath.{beneath}
use Rattle.page_walks.proofs.Children.{IsWalked}
use Rattle.page_walks.proofs.walking.+walk.Given as goal

-- the levels fall, so that it ends on any bytes
abbrev pub decreases-below : goal.decreases-below
decreases-below g l = 2 * l.level

abbrev pub decreases-children : goal.decreases-children
decreases-children g l = 2 * l.level + 1

abbrev pub invariant-children-loop-at : goal.invariant-children-loop-at
invariant-children-loop-at g l =
    let p = g.P.Pages in
    record {
      walked : AreReadable (p.pages l.fn.pages) (p.count l.fn.pages) → IsWalked g.S.Sink.good (λ rows. g.S.Sink.takes l.fn.sink rows l.sink) l.form (p.pages l.fn.pages) (p.count l.fn.pages) l.level
          (number l.low) (upper_of l.form.key l.high) l.node (held l.fn.met) (held l.met) l.at;
      meets : AreReadable (p.pages l.fn.pages) (p.count l.fn.pages) → Meets (beneath l.form (p.pages l.fn.pages) (suc l.level) l.page) (p.asked l.fn.pages) (p.asked l.pages) (held l.fn.met) (held l.met);
      frame : Reads p l.fn.pages l.pages;
      faults : p.faults l.pages ≡ p.faults l.fn.pages;
    }
