use Rattle.std.proofs.Common.{◌≡◌, ◌<◌, length, ap, arith, subst, ◌∙◌}
use Rattle.page_face.specs.FreeList.{PageMap, next_free}
use Rattle.page_face.proofs.Frames.{reads_then}
use Rattle.irtree_engine.proofs.Chains.{left-none, left-step}
use Rattle.irtree_engine.proofs.room.ends_within.Goals as goal

pub chain-preserved : goal.chain-preserved
chain-preserved g c =
    let old : PageMap = g.P.Pages.pages c.args.pages.now in
    let frame = c.chain.invariant.frame in
    let f = c.look.ensures in record {
      lies = left-step old (g.P.Pages.count c.args.pages.now) (g.P.Pages.first c.args.pages.now) c.chain.next c.in-Ok-free_next.after c.args.most c.chain.left c.chain.invariant.lies (omega arith) (omega arith)
          (λ told. c.in-Ok-free_next.ensures.1 ∙ ap next_free (c.looked.ensures ∙ subst (λ (m : PageMap). 0 < length (m c.chain.next) → g.P.Pages.looked c.look.new.self ≡ m c.chain.next) frame.pages c.in-Ok.ensures.gives told));
      frame = reads_then g.P.Pages g.met.P.Pages.goes_further g.met.P.Pages.reads_further _ _ _ frame
          (record { pages = f.pages; count = f.count; first = f.first; room = f.room; faults = f.faults; refused = f.refused; goes_on = f.goes_on; only_reads = f.only_reads; follows = f.follows });
      faults = c.in-Ok.ensures.hides_none ∙ c.chain.invariant.faults;
    }

pub returns-clause-few : goal.returns-clause-few
returns-clause-few g c = λ ends. left-none (g.P.Pages.pages c.args.pages.now) (g.P.Pages.count c.args.pages.now) (g.P.Pages.first c.args.pages.now) c.chain.next c.args.most c.chain.left c.chain.invariant.lies (omega arith)
