use Rattle.std.proofs.Common.{arith, ℕ, ◌∙◌, refl, sym, ap, subst}
use Rattle.page_face.specs.FreeList.{PageMap}
use Rattle.page_face.specs.Causes.{IsUncounted}
use Rattle.page_face.specs.Number.{number}
use Rattle.page_face.proofs.Frames.{reads_then}
use Rattle.btree_nodes.specs.Bounds.{upper_of}
use Rattle.btree_nodes.specs.Nodes.{half_of}
use Rattle.btree_nodes.specs.Supply.{one_at}
use Rattle.paged_map.proofs.Behind.{claim-behind}
use Rattle.page_walks.specs.Met.{held, Meets}
use Rattle.page_walks.specs.Misuse.{IsMisused}
use Rattle.page_walks.proofs.Chains.{readable}
use Rattle.page_walks.specs.Beneath.{beneath}
use Rattle.page_walks.specs.Leaves.{IsBadBelow}
use Rattle.page_walks.specs.Walks.{HasWalked}
use Rattle.page_walks.proofs.Children.{walked-more, walked-all, enter-broken, below-broken, meets-enter, meets-below}
use Rattle.page_walks.proofs.walking.+walk.Goals as goal

pub children-returns-in-Err-clause-damaged : goal.children-returns-in-Err-clause-damaged
children-returns-in-Err-clause-damaged g t c = λ told damage e.
    let p = g.P.Pages in
    let pages : PageMap = p.pages c.args.pages.now in
    let count : ℕ = p.count c.args.pages.now in
    let low : ℕ = number c.args.low.now in
    let high : ℕ = upper_of c.args.form.key c.args.high.now in
    enter-broken c.args.form pages count c.args.level low high c.args.node.now c.loop-at.at c.child_at-child.result _ _ (omega arith) c.child_at-child.ensures refl refl
    g.S.Sink.breaks g.S.Sink.good (λ rows. g.S.Sink.takes c.args.sink.now rows c.loop-at.sink) (held c.args.met.now) (held c.loop-at.met) c.args.page c.args.least low high (c.requires.node told)
    (c.loop-at.invariant.walked told) damage
    (subst (λ (k : ℕ). IsMisused k (held c.loop-at.met) (one_at c.child_at-child.result) damage) c.loop-at.invariant.frame.count (c.in-Err.ensures.damaged damage e))

pub children-returns-in-Err-below-clause-damaged : goal.children-returns-in-Err-below-clause-damaged
children-returns-in-Err-below-clause-damaged g t c = λ told damage e.
    let p = g.P.Pages in
    let pages : PageMap = p.pages c.args.pages.now in
    let count : ℕ = p.count c.args.pages.now in
    let low : ℕ = number c.args.low.now in
    let high : ℕ = upper_of c.args.form.key c.args.high.now in
    let m = reads_then p g.met.P.Pages.goes_further g.met.P.Pages.reads_further _ _ _ c.loop-at.invariant.frame c.in-Ok.ensures.frame in
    below-broken c.args.form pages count c.args.level low high c.args.node.now c.loop-at.at c.child_at-child.result (number c.lower-from.result.now) (upper_of c.args.form.key c.upper-to.result.now) (omega arith) c.child_at-child.ensures c.lower-from.ensures.is c.upper-to.ensures.is
    g.S.Sink.breaks g.S.Sink.good (λ rows. g.S.Sink.takes c.args.sink.now rows c.loop-at.sink) (held c.args.met.now) (held c.loop-at.met) (held c.enter.new.met) c.args.page c.args.least (c.requires.node told)
    (c.loop-at.invariant.walked told) c.in-Ok.ensures.met damage
    (claim-behind (λ (x : PageMap) (k l : ℕ). IsBadBelow g.S.Sink.breaks c.args.form x k (held c.enter.new.met) l c.args.level c.child_at-child.result (number c.lower-from.result.now) (upper_of c.args.form.key c.upper-to.result.now) damage)
    pages (p.pages c.enter.new.pages) count (p.count c.enter.new.pages) (half_of c.args.form c.args.level) c.least_at-half.result m.pages m.count c.least_at-half.ensures.is
    (c.in-Err-below.ensures.damaged (readable pages (p.pages c.enter.new.pages) count (p.count c.enter.new.pages) m.pages m.count told) damage e))

pub children-returns-in-Err-clause-meets : goal.children-returns-in-Err-clause-meets
children-returns-in-Err-clause-meets g t c = λ told.
    let p = g.P.Pages in
    let pages : PageMap = p.pages c.args.pages.now in
    let count : ℕ = p.count c.args.pages.now in
    let low : ℕ = number c.args.low.now in
    let high : ℕ = upper_of c.args.form.key c.args.high.now in
    meets-enter c.args.form pages count c.args.level low high c.args.node.now c.loop-at.at c.child_at-child.result _ _ (omega arith) c.child_at-child.ensures refl refl
    (p.asked c.args.pages.now) (p.asked c.loop-at.pages) (p.asked c.enter.new.pages) (held c.args.met.now) (held c.loop-at.met) (held c.enter.new.met) c.args.page (c.requires.node told)
    (c.loop-at.invariant.walked told).met (c.loop-at.invariant.meets told) c.in-Err.ensures.meets

pub children-below-requires : goal.children-below-requires
children-below-requires g t c = λ κs within. (
  omega arith,
  (
    within.0,
    (
      within.1,
      (
        c.requires.form,
        (
          c.least_at-half.ensures.some,
          (
            c.lower-from.ensures.length,
            (
              c.upper-to.ensures.length,
              λ told.
                  let p = g.P.Pages in
                  let f = c.in-Ok.ensures.frame in
                  c.in-Ok.ensures.looked (readable (p.pages c.enter.new.pages) (p.pages c.loop-at.pages) (p.count c.enter.new.pages) (p.count c.loop-at.pages) (sym f.pages) (sym f.count) told)
                  ∙ ap (λ (q : PageMap). q c.child_at-child.result) (sym f.pages),
            ),
          ),
        ),
      ),
    ),
  ),
)

pub children-returns-in-Err-below-clause-meets : goal.children-returns-in-Err-below-clause-meets
children-returns-in-Err-below-clause-meets g t c = λ told.
    let p = g.P.Pages in
    let pages : PageMap = p.pages c.args.pages.now in
    let count : ℕ = p.count c.args.pages.now in
    let low : ℕ = number c.args.low.now in
    let high : ℕ = upper_of c.args.form.key c.args.high.now in
    let m = reads_then p g.met.P.Pages.goes_further g.met.P.Pages.reads_further _ _ _ c.loop-at.invariant.frame c.in-Ok.ensures.frame in
    meets-below c.args.form pages count c.args.level low high c.args.node.now c.loop-at.at c.child_at-child.result (number c.lower-from.result.now) (upper_of c.args.form.key c.upper-to.result.now) (omega arith) c.child_at-child.ensures c.lower-from.ensures.is c.upper-to.ensures.is
    (p.asked c.args.pages.now) (p.asked c.loop-at.pages) (p.asked c.enter.new.pages) (p.asked c.below.new.pages) (held c.args.met.now) (held c.loop-at.met) (held c.enter.new.met) (held c.below.new.met) c.args.page (c.requires.node told)
    (c.loop-at.invariant.walked told).met (c.loop-at.invariant.meets told) c.in-Ok.ensures.meets
    (subst (λ (x : PageMap). Meets (beneath c.args.form x c.args.level c.child_at-child.result) (p.asked c.enter.new.pages) (p.asked c.below.new.pages) (held c.enter.new.met) (held c.below.new.met)) m.pages
    (c.in-Err-below.ensures.meets (readable pages (p.pages c.enter.new.pages) count (p.count c.enter.new.pages) m.pages m.count told)))

pub children-returns-in-Err-below-clause-frame : goal.children-returns-in-Err-below-clause-frame
children-returns-in-Err-below-clause-frame g t c =
    let further = g.met.P.Pages.goes_further in
    let more = g.met.P.Pages.reads_further in
    reads_then g.P.Pages further more _ _ _ (reads_then g.P.Pages further more _ _ _ c.loop-at.invariant.frame c.in-Ok.ensures.frame) c.in-Err-below.ensures.frame

pub children-loop-at-preserved : goal.children-loop-at-preserved
children-loop-at-preserved g t c =
    let p = g.P.Pages in
    let further = g.met.P.Pages.goes_further in
    let more = g.met.P.Pages.reads_further in
    let pages : PageMap = p.pages c.args.pages.now in
    let count : ℕ = p.count c.args.pages.now in
    let low : ℕ = number c.args.low.now in
    let high : ℕ = upper_of c.args.form.key c.args.high.now in
    let m = reads_then p further more _ _ _ c.loop-at.invariant.frame c.in-Ok.ensures.frame in
    record {
      walked = λ told.
          walked-more c.args.form pages count c.args.level low high c.args.node.now c.loop-at.at c.child_at-child.result (number c.lower-from.result.now) (upper_of c.args.form.key c.upper-to.result.now) (omega arith) c.child_at-child.ensures c.lower-from.ensures.is c.upper-to.ensures.is
          g.S.Sink.good (λ rows. g.S.Sink.takes c.args.sink.now rows c.loop-at.sink) (λ rows. g.S.Sink.takes c.loop-at.sink rows c.below.new.sink) (λ rows. g.S.Sink.takes c.args.sink.now rows c.below.new.sink)
          (held c.args.met.now) (held c.loop-at.met) (held c.enter.new.met) (held c.below.new.met) (λ rows others a b. g.met.S.Sink.takes_more c.args.sink.now c.loop-at.sink c.below.new.sink rows others a b)
          (c.loop-at.invariant.walked told) (subst (λ (k : ℕ). IsUncounted k c.child_at-child.result → ⊥) c.loop-at.invariant.frame.count c.in-Ok.ensures.counted) c.in-Ok.ensures.met
          (claim-behind (λ (x : PageMap) (k l : ℕ). HasWalked g.S.Sink.good (λ rows. g.S.Sink.takes c.loop-at.sink rows c.below.new.sink) c.args.form x k l c.args.level c.child_at-child.result (number c.lower-from.result.now) (upper_of c.args.form.key c.upper-to.result.now) (held c.enter.new.met) (held c.below.new.met))
          pages (p.pages c.enter.new.pages) count (p.count c.enter.new.pages) (half_of c.args.form c.args.level) c.least_at-half.result m.pages m.count c.least_at-half.ensures.is
          (c.in-Ok-below.ensures.walked (readable pages (p.pages c.enter.new.pages) count (p.count c.enter.new.pages) m.pages m.count told)));
      meets = λ told.
          meets-below c.args.form pages count c.args.level low high c.args.node.now c.loop-at.at c.child_at-child.result (number c.lower-from.result.now) (upper_of c.args.form.key c.upper-to.result.now) (omega arith) c.child_at-child.ensures c.lower-from.ensures.is c.upper-to.ensures.is
          (p.asked c.args.pages.now) (p.asked c.loop-at.pages) (p.asked c.enter.new.pages) (p.asked c.below.new.pages) (held c.args.met.now) (held c.loop-at.met) (held c.enter.new.met) (held c.below.new.met) c.args.page (c.requires.node told)
          (c.loop-at.invariant.walked told).met (c.loop-at.invariant.meets told) c.in-Ok.ensures.meets
          (subst (λ (x : PageMap). Meets (beneath c.args.form x c.args.level c.child_at-child.result) (p.asked c.enter.new.pages) (p.asked c.below.new.pages) (held c.enter.new.met) (held c.below.new.met)) m.pages
          (c.in-Ok-below.ensures.meets (readable pages (p.pages c.enter.new.pages) count (p.count c.enter.new.pages) m.pages m.count told)));
      frame = reads_then p further more _ _ _ m c.in-Ok-below.ensures.frame;
      faults = c.in-Ok-below.ensures.fails.hides_none ∙ c.in-Ok.ensures.fails.hides_none ∙ c.loop-at.invariant.faults;
    }

pub children-returns-clause-walked : goal.children-returns-clause-walked
children-returns-clause-walked g t c = λ told.
    let p = g.P.Pages in
    walked-all g.S.Sink.good (λ rows. g.S.Sink.takes c.args.sink.now rows c.loop-at.sink) c.args.form (p.pages c.args.pages.now) (p.count c.args.pages.now) c.args.least c.args.level c.args.page
    (number c.args.low.now) (upper_of c.args.form.key c.args.high.now) c.args.node.now (held c.args.met.now) (held c.loop-at.met) c.loop-at.at (c.requires.node told) (omega arith) c.requires.sound c.requires.order
    (c.loop-at.invariant.walked told)
