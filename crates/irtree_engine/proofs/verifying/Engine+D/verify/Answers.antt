use Rattle.std.proofs.Common.{◌≡◌, ◌↔◌, Err, ap, sym, subst, ◌∙◌, rules}
use Rattle.std.proofs.lemmas.Result.{err_from_is_err_and}
use Rattle.disk_model.specs.World.{Image}
use Rattle.page_journal.specs.Record.{applied}
use Rattle.page_face.specs.FreeList.{PageMap}
use Rattle.page_face.specs.declared.fault.Rule.{Rule}
use Rattle.page_face.specs.declared.head.Head.{Head}
use Rattle.page_store.specs.Contents as stores
use Rattle.page_store.specs.Contents.{Overlay, counted_pages, shown}
use Rattle.page_store.specs.Superblock.{IsInRange}
use Rattle.store_verify.specs.Breaks.{BreaksRule, IsBroken}
use Rattle.store_verify.specs.Whole.{IsWhole}
use Rattle.store_verify.specs.Verdicts.{block_of}
use Rattle.store_verify.specs.declared.verdict.Verdict.TheVariants.{Whole}
use Rattle.irtree_engine.specs.declared.fault.EngineFault.TheVariants.{Damaged}
use Rattle.irtree_engine.specs.Faults.{fault_of_pages}
use Rattle.irtree_engine.specs.Queries.{contents_held}
use Rattle.irtree_engine.specs.Verified.{HoldsSome}
use Rattle.irtree_engine.proofs.Logs.{logged, logged-none}
use Rattle.irtree_engine.proofs.Standing.{committed-held, damaged-from, store-told}
use Rattle.irtree_engine.proofs.Wholes.{whole-exact}
use Rattle.irtree_engine.proofs.verifying.Engine+D.verify.Goals as goal

pub returns-clause-whole : goal.returns-clause-whole
returns-clause-whole g c = λ t.
    let world = g.D.Disk.world in
    let on = c.clear_log.ensures.stopped ∙ sym c.args.self.now.stops ∙ c.if-self.false in
    let clean = ap (λ (o : Overlay). o.entries) c.clear_log.ensures.overlay ∙ c.args.self.now.clean in
    let settled = c.clear_log.ensures.current ∙ c.args.self.now.settled ∙ sym c.clear_log.ensures.last in
    let store = c.clear_log.new.self in
    let pages : PageMap = counted_pages store.current.counted (shown g.D.Disk.readable (applied (world store.disk.now).seen) store.overlay) in
    let told = store-told g.D.Disk.readable (applied (world store.disk.now).seen) store.overlay store.current.counted t store.sized in
    let verdict = c.in_ok-verify.field-0 in
    let exact : (verdict ≡ Whole) ↔ IsWhole store.current pages =
    subst (λ (h : Head). (verdict ≡ Whole) ↔ IsWhole (block_of store.current.counted store.current.first_free h) pages) c.head-head.ensures (c.in_ok-verify.ensures.whole told) in
    let held = committed-held g.D.Disk.readable (world store.disk.now) store.overlay store.current store.last store.end t clean settled (store.ready t on) in
    subst (λ (image : Image). (verdict ≡ Whole) ↔ HoldsSome image) (λ i. (world (c.clear_log.ensures.disk i).now).seen)
    (whole-exact (world store.disk.now) store.last store.end (store.ready t on) (record { block = store.current; pages = pages }) held exact)

pub returns-clause-broken : goal.returns-clause-broken
returns-clause-broken g c = λ t damage is.
    let world = g.D.Disk.world in
    let on = c.clear_log.ensures.stopped ∙ sym c.args.self.now.stops ∙ c.if-self.false in
    let clean = ap (λ (o : Overlay). o.entries) c.clear_log.ensures.overlay ∙ c.args.self.now.clean in
    let settled = c.clear_log.ensures.current ∙ c.args.self.now.settled ∙ sym c.clear_log.ensures.last in
    let store = c.clear_log.new.self in
    let pages : PageMap = counted_pages store.current.counted (shown g.D.Disk.readable (applied (world store.disk.now).seen) store.overlay) in
    let told = store-told g.D.Disk.readable (applied (world store.disk.now).seen) store.overlay store.current.counted t store.sized in
    let held = contents_held (world c.args.self.now.store.disk.now).seen in
    let same : ◌≡◌ {A = stores.Contents} (record { block = store.current; pages = pages }) held =
    committed-held g.D.Disk.readable (world store.disk.now) store.overlay store.current store.last store.end t clean settled (store.ready t on)
    ∙ (λ i. contents_held (world (c.clear_log.ensures.disk i).now).seen) in
    subst (λ (s : stores.Contents). IsBroken s.block s.pages damage) same
    (subst (λ (h : Head). IsBroken (block_of store.current.counted store.current.first_free h) pages damage) c.head-head.ensures (c.in_ok-verify.ensures.broken told damage is))

pub returns-clause-no_head : goal.returns-clause-no_head
returns-clause-no_head g c = λ t damage is head.
    let world = g.D.Disk.world in
    let store = c.clear_log.new.self in
    let pages : PageMap = counted_pages store.current.counted (shown g.D.Disk.readable (applied (world store.disk.now).seen) store.overlay) in
    let told = store-told g.D.Disk.readable (applied (world store.disk.now).seen) store.overlay store.current.counted t store.sized in
    let broken = subst (λ (h : Head). IsBroken (block_of store.current.counted store.current.first_free h) pages damage) c.head-head.ensures (c.in_ok-verify.ensures.broken told damage is) in
    (subst (λ (rule : Rule). BreaksRule rule store.current pages damage.page) head broken).1 (subst IsInRange (sym c.clear_log.ensures.current) c.args.self.now.in_range)

pub returns-in_err-verify-clause-undamaged : goal.returns-in_err-verify-clause-undamaged
returns-in_err-verify-clause-undamaged g c = λ damage is.
    let passed = err_from_is_err_and c.from_residual.result c.from_residual.ensures.1 in
    let result_is = passed.1 in
    let fault_is = passed.2 in
    let was : fault_of_pages c.in_err-verify.field-0.0 ≡ Damaged damage = cc in
    c.verify.ensures.undamaged damage (c.in_err-verify.was ∙ ap Err (damaged-from _ damage was))

pub returns-then-self-clause-frame : goal.returns-then-self-clause-frame
returns-then-self-clause-frame g c = record {
  same_loan = search rules;
  room = search rules;
  later = search rules;
  sink = search rules;
  rests = search rules;
  refused = search rules;
  goes_on = search rules;
  head = search rules;
  log = logged-none g.D.Disk.readable g.D.Disk.world c.clear_log.ensures.disk c.clear_log.ensures.log c.clear_log.new.self.overlay;
}

pub returns-in_err-verify-clause-frame : goal.returns-in_err-verify-clause-frame
returns-in_err-verify-clause-frame g c = record {
  same_loan = search rules;
  room = search rules;
  later = search rules;
  sink = search rules;
  rests = search rules;
  refused = search rules;
  goes_on = search rules;
  head = search rules;
  log = logged g.D.Disk.readable g.D.Disk.world c.clear_log.ensures.disk c.clear_log.ensures.log c.verify.ensures.frame.only_reads;
}

pub returns-clause-frame : goal.returns-clause-frame
returns-clause-frame g c = record {
  same_loan = search rules;
  room = search rules;
  later = search rules;
  sink = search rules;
  rests = search rules;
  refused = search rules;
  goes_on = search rules;
  head = search rules;
  log = logged g.D.Disk.readable g.D.Disk.world c.clear_log.ensures.disk c.clear_log.ensures.log c.verify.ensures.frame.only_reads;
}
