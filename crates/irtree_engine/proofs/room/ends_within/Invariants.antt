use Rattle.std.proofs.Common.{◌≡◌}
use Rattle.page_face.specs.Calls.{Reads}
use Rattle.irtree_engine.proofs.Chains.{IsLeft}
use Rattle.irtree_engine.proofs.room.ends_within.Given as goal

-- fewer may follow
abbrev pub decreases-chain : goal.decreases-chain
decreases-chain g l = l.left

abbrev pub invariant-chain : goal.invariant-chain
invariant-chain g l =
    let p = g.P.Pages in
    record {
      lies : IsLeft (p.pages l.fn.pages) (p.count l.fn.pages) (p.first l.fn.pages) l.next l.most l.left;
      frame : Reads p l.fn.pages l.pages;
      faults : p.faults l.pages ≡ p.faults l.fn.pages;
    }
