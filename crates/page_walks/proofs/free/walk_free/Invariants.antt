use Rattle.std.proofs.Common.{◌≡◌}
use Rattle.page_face.specs.Calls.{Reads}
use Rattle.btree_nodes.specs.Damages.{AreReadable}
use Rattle.page_walks.specs.Met.{held, Meets, any_page}
use Rattle.page_walks.proofs.Chains.{IsRun, unmet}
use Rattle.page_walks.proofs.free.walk_free.Given as goal

abbrev pub invariant-chain : goal.invariant-chain
invariant-chain g l =
    let p = g.P.Pages in
    record {
      run : AreReadable (p.pages l.fn.pages) (p.count l.fn.pages) → IsRun (p.pages l.fn.pages) (p.count l.fn.pages) (p.first l.fn.pages) l.next (held l.fn.met) (held l.met);
      meets : Meets any_page (p.asked l.fn.pages) (p.asked l.pages) (held l.fn.met) (held l.met);
      frame : Reads p l.fn.pages l.pages;
      faults : p.faults l.pages ≡ p.faults l.fn.pages;
    }

-- each page of the chain is new
abbrev pub decreases-chain : goal.decreases-chain
decreases-chain g l = unmet (g.P.Pages.count l.fn.pages) (held l.met)
