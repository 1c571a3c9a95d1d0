use Rattle.std.proofs.Common.{arith, ◌≡◌, ℕ, ◌∙◌, ap, sym, List, subst}
use Rattle.page_face.specs.Causes.{IsUncounted}
use Rattle.page_face.specs.FreeList.{PageMap, IsFreePage, BreaksFree, next_free}
use Rattle.page_face.proofs.Frames.{reads_then}
use Rattle.btree_nodes.specs.Supply.{one_at}
use Rattle.btree_nodes.proofs.Walks.{same-fault}
use Rattle.page_walks.specs.Met.{held}
use Rattle.page_walks.specs.Misuse.{IsMisused}
use Rattle.page_walks.proofs.Misuses.{same-damage}
use Rattle.page_walks.proofs.Meetings.{meets-any}
use Rattle.page_walks.proofs.Chains.{IsRun, run-more, run-all, run-enter, run-form, enter-smaller, readable}
use Rattle.page_walks.proofs.free.walk_free.Goals as goal

pub returns-in-Err-clause-damaged : goal.returns-in-Err-clause-damaged
returns-in-Err-clause-damaged g c = λ told damage e.
    let p = g.P.Pages in
    let count : ℕ = p.count c.args.pages.now in
    run-enter (p.pages c.args.pages.now) count (p.first c.args.pages.now) c.chain.next (held c.args.met.now) (held c.chain.met) (c.chain.invariant.run told) (omega arith) damage
    (subst (λ (k : ℕ). IsMisused k (held c.chain.met) (one_at c.chain.next) damage) c.chain.invariant.frame.count (c.in-Err.ensures.damaged damage e))

pub returns-in-Err-clause-meets : goal.returns-in-Err-clause-meets
returns-in-Err-clause-meets g c =
    meets-any (one_at c.chain.next) (g.P.Pages.asked c.args.pages.now) (g.P.Pages.asked c.chain.pages) (g.P.Pages.asked c.enter.new.pages) c.args.met.now c.chain.met c.enter.new.met c.chain.invariant.meets c.in-Err.ensures.meets

pub chain-smaller : goal.chain-smaller
chain-smaller g c =
    enter-smaller (g.P.Pages.count c.args.pages.now) c.chain.next c.chain.met c.enter.new.met c.in-Ok.ensures.met
    (subst (λ (k : ℕ). IsUncounted k c.chain.next → ⊥) c.chain.invariant.frame.count c.in-Ok.ensures.counted)

pub chain-preserved : goal.chain-preserved
chain-preserved g c =
    let p = g.P.Pages in
    let pages : PageMap = p.pages c.args.pages.now in
    let count : ℕ = p.count c.args.pages.now in
    let known = subst (λ (k : ℕ). IsUncounted k c.chain.next → ⊥) c.chain.invariant.frame.count c.in-Ok.ensures.counted in
    record {
      run = λ told.
          let shows : c.looked.result.now ≡ pages c.chain.next = c.looked.ensures ∙ c.in-Ok.ensures.looked (readable pages (p.pages c.chain.pages) count (p.count c.chain.pages) c.chain.invariant.frame.pages c.chain.invariant.frame.count told) ∙ ap (λ (q : PageMap). q c.chain.next) c.chain.invariant.frame.pages in
          let next : c.in-Ok-free_next.page ≡ next_free (pages c.chain.next) = c.in-Ok-free_next.ensures.1 ∙ ap next_free shows in
          subst (λ (n : ℕ). IsRun pages count (p.first c.args.pages.now) n (held c.args.met.now) (held c.enter.new.met)) (sym next)
          (run-more pages count (p.first c.args.pages.now) c.chain.next (held c.args.met.now) (held c.chain.met) (c.chain.invariant.run told) (held c.enter.new.met) known c.in-Ok.ensures.met (subst IsFreePage shows c.in-Ok-free_next.ensures.0));
      meets = meets-any (one_at c.chain.next) (p.asked c.args.pages.now) (p.asked c.chain.pages) (p.asked c.enter.new.pages) c.args.met.now c.chain.met c.enter.new.met c.chain.invariant.meets c.in-Ok.ensures.meets;
      frame = reads_then p g.met.P.Pages.goes_further g.met.P.Pages.reads_further _ _ _ c.chain.invariant.frame c.in-Ok.ensures.frame;
      faults = c.in-Ok.ensures.fails.hides_none ∙ c.chain.invariant.faults;
    }

pub returns-in-Err-free_next-clause-damaged : goal.returns-in-Err-free_next-clause-damaged
returns-in-Err-free_next-clause-damaged g c = λ told damage e.
    let p = g.P.Pages in
    let pages : PageMap = p.pages c.args.pages.now in
    let count : ℕ = p.count c.args.pages.now in
    let shows : c.looked.result.now ≡ pages c.chain.next = c.looked.ensures ∙ c.in-Ok.ensures.looked (readable pages (p.pages c.chain.pages) count (p.count c.chain.pages) c.chain.invariant.frame.pages c.chain.invariant.frame.count told) ∙ ap (λ (q : PageMap). q c.chain.next) c.chain.invariant.frame.pages in
    run-form pages count (p.first c.args.pages.now) c.chain.next (held c.args.met.now) (held c.chain.met) (c.chain.invariant.run told) (omega arith)
    c.in-Err-free_next.rule (subst (λ (w : List ℕ). BreaksFree c.in-Err-free_next.rule w) shows c.in-Err-free_next.ensures) damage (same-damage _ _ (sym c.damaged.ensures ∙ same-fault _ _ e))

pub returns-in-Err-free_next-clause-meets : goal.returns-in-Err-free_next-clause-meets
returns-in-Err-free_next-clause-meets g c =
    meets-any (one_at c.chain.next) (g.P.Pages.asked c.args.pages.now) (g.P.Pages.asked c.chain.pages) (g.P.Pages.asked c.enter.new.pages) c.args.met.now c.chain.met c.enter.new.met c.chain.invariant.meets c.in-Ok.ensures.meets

pub returns-clause-chain : goal.returns-clause-chain
returns-clause-chain g c = λ told.
    run-all (g.P.Pages.pages c.args.pages.now) (g.P.Pages.count c.args.pages.now) (g.P.Pages.first c.args.pages.now) c.chain.next (held c.args.met.now) (held c.chain.met) (omega arith) (c.chain.invariant.run told)
