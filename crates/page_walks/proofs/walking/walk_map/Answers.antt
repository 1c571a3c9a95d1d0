use Rattle.std.proofs.Common.{arith, ◌≡◌, ℕ, ◌^◌, ◌∙◌, ap, subst}
use Rattle.page_face.specs.FreeList.{PageMap}
use Rattle.page_face.specs.Number.{number}
use Rattle.btree_nodes.specs.Bounds.{upper_of}
use Rattle.btree_nodes.specs.Nodes.{least_of_root}
use Rattle.btree_nodes.specs.Tree.{level_of}
use Rattle.btree_nodes.proofs.Roots.{enter}
use Rattle.page_walks.specs.Met.{held, Meets}
use Rattle.page_walks.proofs.Meetings.{held-le}
use Rattle.page_walks.proofs.Chains.{readable}
use Rattle.page_walks.specs.Beneath.{beneath}
use Rattle.page_walks.specs.Leaves.{IsBadBelow}
use Rattle.page_walks.specs.Walks.{HasWalked}
use Rattle.page_walks.proofs.Roots.{empty-good, walked-good, walked-met, walked-rows, root-misused, root-below, root-meets, root-enters}
use Rattle.page_walks.proofs.walking.walk_map.Goals as goal

pub returns-then-root-eq0-clause-whole : goal.returns-then-root-eq0-clause-whole
returns-then-root-eq0-clause-whole g c = λ told.
    empty-good g.S.Sink.good c.args.form (g.P.Pages.pages c.args.pages.now) (g.P.Pages.count c.args.pages.now) (held c.args.met.now) c.args.root c.if-root-eq0.true (held-le c.args.met.now)

pub returns-in-Err-clause-damaged : goal.returns-in-Err-clause-damaged
returns-in-Err-clause-damaged g c = λ told damage e.
    root-misused g.S.Sink.breaks c.args.form (g.P.Pages.pages c.args.pages.now) (g.P.Pages.count c.args.pages.now) (held c.args.met.now) c.args.root (omega arith) damage (c.in-Err.ensures.damaged damage e)

pub returns-in-Err-clause-meets : goal.returns-in-Err-clause-meets
returns-in-Err-clause-meets g c = λ told.
    root-enters c.args.form (g.P.Pages.pages c.args.pages.now) c.args.root (g.P.Pages.asked c.args.pages.now) (g.P.Pages.asked c.enter.new.pages) (held c.args.met.now) (held c.enter.new.met) (omega arith) c.in-Err.ensures.meets

pub returns-in-Ok-below-clause-whole : goal.returns-in-Ok-below-clause-whole
returns-in-Ok-below-clause-whole g c = λ told.
    let p = g.P.Pages in
    let pages : PageMap = p.pages c.args.pages.now in
    let count : ℕ = p.count c.args.pages.now in
    let frame = c.in-Ok.ensures.frame in
    let form = c.args.form in
    let level : c.level-level.result ≡ level_of (pages c.args.root) = c.level-level.ensures ∙ ap level_of (c.looked.ensures ∙ c.in-Ok.ensures.looked told) in
    walked-good g.S.Sink.good (λ rows. g.S.Sink.takes c.args.sink.now rows c.below.new.sink) form pages count c.args.root (held c.args.met.now) (held c.enter.new.met) (held c.below.new.met) (omega arith) c.in-Ok.ensures.counted c.in-Ok.ensures.met (held-le c.below.new.met)
    (enter (λ (x : PageMap) (k l m a b : ℕ). HasWalked g.S.Sink.good (λ rows. g.S.Sink.takes c.args.sink.now rows c.below.new.sink) form x k m l c.args.root a b (held c.enter.new.met) (held c.below.new.met))
    pages (p.pages c.enter.new.pages) count (p.count c.enter.new.pages) (level_of (pages c.args.root)) c.level-level.result (least_of_root (level_of (pages c.args.root))) c.root_least.result 0 (number c.low-low.result.now) (256 ^ form.key) (upper_of form.key c.high-high.result.now) frame.pages frame.count level (c.root_least.ensures ∙ ap least_of_root level)
    (ap number c.low-low.ensures.is ∙ c.all-bounds.ensures.low form.key) (ap (upper_of form.key) c.high-high.ensures.is ∙ c.all-bounds.ensures.high form.key)
    (c.in-Ok-below.ensures.walked (readable pages (p.pages c.enter.new.pages) count (p.count c.enter.new.pages) frame.pages frame.count told)))

pub returns-in-Ok-below-clause-met : goal.returns-in-Ok-below-clause-met
returns-in-Ok-below-clause-met g c = λ told.
    let p = g.P.Pages in
    let pages : PageMap = p.pages c.args.pages.now in
    let count : ℕ = p.count c.args.pages.now in
    let frame = c.in-Ok.ensures.frame in
    let form = c.args.form in
    let level : c.level-level.result ≡ level_of (pages c.args.root) = c.level-level.ensures ∙ ap level_of (c.looked.ensures ∙ c.in-Ok.ensures.looked told) in
    walked-met g.S.Sink.good (λ rows. g.S.Sink.takes c.args.sink.now rows c.below.new.sink) form pages count c.args.root (held c.args.met.now) (held c.enter.new.met) (held c.below.new.met) (omega arith) c.in-Ok.ensures.met
    (enter (λ (x : PageMap) (k l m a b : ℕ). HasWalked g.S.Sink.good (λ rows. g.S.Sink.takes c.args.sink.now rows c.below.new.sink) form x k m l c.args.root a b (held c.enter.new.met) (held c.below.new.met))
    pages (p.pages c.enter.new.pages) count (p.count c.enter.new.pages) (level_of (pages c.args.root)) c.level-level.result (least_of_root (level_of (pages c.args.root))) c.root_least.result 0 (number c.low-low.result.now) (256 ^ form.key) (upper_of form.key c.high-high.result.now) frame.pages frame.count level (c.root_least.ensures ∙ ap least_of_root level)
    (ap number c.low-low.ensures.is ∙ c.all-bounds.ensures.low form.key) (ap (upper_of form.key) c.high-high.ensures.is ∙ c.all-bounds.ensures.high form.key)
    (c.in-Ok-below.ensures.walked (readable pages (p.pages c.enter.new.pages) count (p.count c.enter.new.pages) frame.pages frame.count told)))

pub returns-in-Ok-below-clause-takes : goal.returns-in-Ok-below-clause-takes
returns-in-Ok-below-clause-takes g c = λ told.
    let p = g.P.Pages in
    let pages : PageMap = p.pages c.args.pages.now in
    let count : ℕ = p.count c.args.pages.now in
    let frame = c.in-Ok.ensures.frame in
    let form = c.args.form in
    let level : c.level-level.result ≡ level_of (pages c.args.root) = c.level-level.ensures ∙ ap level_of (c.looked.ensures ∙ c.in-Ok.ensures.looked told) in
    walked-rows g.S.Sink.good (λ rows. g.S.Sink.takes c.args.sink.now rows c.below.new.sink) form pages count c.args.root (held c.enter.new.met) (held c.below.new.met) (omega arith)
    (enter (λ (x : PageMap) (k l m a b : ℕ). HasWalked g.S.Sink.good (λ rows. g.S.Sink.takes c.args.sink.now rows c.below.new.sink) form x k m l c.args.root a b (held c.enter.new.met) (held c.below.new.met))
    pages (p.pages c.enter.new.pages) count (p.count c.enter.new.pages) (level_of (pages c.args.root)) c.level-level.result (least_of_root (level_of (pages c.args.root))) c.root_least.result 0 (number c.low-low.result.now) (256 ^ form.key) (upper_of form.key c.high-high.result.now) frame.pages frame.count level (c.root_least.ensures ∙ ap least_of_root level)
    (ap number c.low-low.ensures.is ∙ c.all-bounds.ensures.low form.key) (ap (upper_of form.key) c.high-high.ensures.is ∙ c.all-bounds.ensures.high form.key)
    (c.in-Ok-below.ensures.walked (readable pages (p.pages c.enter.new.pages) count (p.count c.enter.new.pages) frame.pages frame.count told)))

pub returns-in-Ok-below-clause-meets : goal.returns-in-Ok-below-clause-meets
returns-in-Ok-below-clause-meets g c = λ told.
    let p = g.P.Pages in
    let pages : PageMap = p.pages c.args.pages.now in
    let count : ℕ = p.count c.args.pages.now in
    let frame = c.in-Ok.ensures.frame in
    let level : c.level-level.result ≡ level_of (pages c.args.root) = c.level-level.ensures ∙ ap level_of (c.looked.ensures ∙ c.in-Ok.ensures.looked told) in
    root-meets c.args.form pages c.args.root (p.asked c.args.pages.now) (p.asked c.enter.new.pages) (p.asked c.below.new.pages) (held c.args.met.now) (held c.enter.new.met) (held c.below.new.met) (omega arith) c.in-Ok.ensures.meets
    (subst (λ (l : ℕ). Meets (beneath c.args.form pages l c.args.root) (p.asked c.enter.new.pages) (p.asked c.below.new.pages) (held c.enter.new.met) (held c.below.new.met)) level
    (subst (λ (x : PageMap). Meets (beneath c.args.form x c.level-level.result c.args.root) (p.asked c.enter.new.pages) (p.asked c.below.new.pages) (held c.enter.new.met) (held c.below.new.met)) frame.pages
    (c.in-Ok-below.ensures.meets (readable pages (p.pages c.enter.new.pages) count (p.count c.enter.new.pages) frame.pages frame.count told))))

pub returns-in-Err-below-clause-damaged : goal.returns-in-Err-below-clause-damaged
returns-in-Err-below-clause-damaged g c = λ told damage e.
    let p = g.P.Pages in
    let pages : PageMap = p.pages c.args.pages.now in
    let count : ℕ = p.count c.args.pages.now in
    let frame = c.in-Ok.ensures.frame in
    let form = c.args.form in
    let level : c.level-level.result ≡ level_of (pages c.args.root) = c.level-level.ensures ∙ ap level_of (c.looked.ensures ∙ c.in-Ok.ensures.looked told) in
    root-below g.S.Sink.breaks form pages count (held c.args.met.now) (held c.enter.new.met) c.args.root (omega arith) c.in-Ok.ensures.met damage
    (enter (λ (x : PageMap) (k l m a b : ℕ). IsBadBelow g.S.Sink.breaks form x k (held c.enter.new.met) m l c.args.root a b damage)
    pages (p.pages c.enter.new.pages) count (p.count c.enter.new.pages) (level_of (pages c.args.root)) c.level-level.result (least_of_root (level_of (pages c.args.root))) c.root_least.result 0 (number c.low-low.result.now) (256 ^ form.key) (upper_of form.key c.high-high.result.now) frame.pages frame.count level (c.root_least.ensures ∙ ap least_of_root level)
    (ap number c.low-low.ensures.is ∙ c.all-bounds.ensures.low form.key) (ap (upper_of form.key) c.high-high.ensures.is ∙ c.all-bounds.ensures.high form.key)
    (c.in-Err-below.ensures.damaged (readable pages (p.pages c.enter.new.pages) count (p.count c.enter.new.pages) frame.pages frame.count told) damage e))

pub returns-in-Err-below-clause-meets : goal.returns-in-Err-below-clause-meets
returns-in-Err-below-clause-meets g c = λ told.
    let p = g.P.Pages in
    let pages : PageMap = p.pages c.args.pages.now in
    let count : ℕ = p.count c.args.pages.now in
    let frame = c.in-Ok.ensures.frame in
    let level : c.level-level.result ≡ level_of (pages c.args.root) = c.level-level.ensures ∙ ap level_of (c.looked.ensures ∙ c.in-Ok.ensures.looked told) in
    root-meets c.args.form pages c.args.root (p.asked c.args.pages.now) (p.asked c.enter.new.pages) (p.asked c.below.new.pages) (held c.args.met.now) (held c.enter.new.met) (held c.below.new.met) (omega arith) c.in-Ok.ensures.meets
    (subst (λ (l : ℕ). Meets (beneath c.args.form pages l c.args.root) (p.asked c.enter.new.pages) (p.asked c.below.new.pages) (held c.enter.new.met) (held c.below.new.met)) level
    (subst (λ (x : PageMap). Meets (beneath c.args.form x c.level-level.result c.args.root) (p.asked c.enter.new.pages) (p.asked c.below.new.pages) (held c.enter.new.met) (held c.below.new.met)) frame.pages
    (c.in-Err-below.ensures.meets (readable pages (p.pages c.enter.new.pages) count (p.count c.enter.new.pages) frame.pages frame.count told))))
