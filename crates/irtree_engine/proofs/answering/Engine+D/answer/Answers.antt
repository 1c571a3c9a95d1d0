use Rattle.std.proofs.Common.{◌≡◌, ℕ, List, [], ◌∙◌, Err, sym, ap, subst, rules}
use Rattle.std.proofs.lemmas.Result.{err_from_is_err_and}
use Rattle.page_journal.specs.Record.{applied}
use Rattle.page_face.specs.FreeList.{PageMap}
use Rattle.page_face.specs.declared.head.Head.{Head}
use Rattle.page_store.specs.Contents as stores
use Rattle.page_store.specs.Contents.{Overlay, counted_pages, shown}
use Rattle.place_values.specs.declared.query.Answer.{Answer}
use Rattle.store_model.specs.Stands.{PagesStand, tables_in}
use Rattle.irtree_engine.specs.declared.fault.EngineFault.TheVariants.{Damaged}
use Rattle.irtree_engine.specs.Changes.{block_with, tree_in}
use Rattle.irtree_engine.specs.Damages.{IsQueryDamage}
use Rattle.irtree_engine.specs.Holding.{HoldsState}
use Rattle.irtree_engine.specs.Faults.{fault_of_pages}
use Rattle.irtree_engine.specs.Queries.{IsFoundByFew, contents_held}
use Rattle.irtree_engine.proofs.Logs.{logged, logged-none}
use Rattle.irtree_engine.proofs.NoHead.{answer-spares_head}
use Rattle.irtree_engine.proofs.EachRead.{reads-logged}
use Rattle.irtree_engine.proofs.Standing.{committed-held, committed-stand, damaged-from, store-told}
use Rattle.irtree_engine.proofs.answering.Engine+D.answer.Goals as goal

pub returns-clause-answered : goal.returns-clause-answered
returns-clause-answered g c = λ t state holds.
    let on = c.clear_log.ensures.stopped ∙ sym c.args.self.now.stops ∙ c.if-self.false in
    let clean = ap (λ (o : Overlay). o.entries) c.clear_log.ensures.overlay ∙ c.args.self.now.clean in
    let settled = c.clear_log.ensures.current ∙ c.args.self.now.settled ∙ sym c.clear_log.ensures.last in
    let here = subst (λ disk. HoldsState (g.D.Disk.world disk) state) (λ i. (sym c.clear_log.ensures.disk i).now) holds in
    let store = c.clear_log.new.self in
    let held : PageMap = counted_pages store.current.counted (shown g.D.Disk.readable (applied (g.D.Disk.world store.disk.now).seen) store.overlay) in
    let committed = committed-stand g.D.Disk.readable (g.D.Disk.world store.disk.now) store.overlay store.current store.last store.end state t clean settled (store.ready t on) here in
    let stand : PagesStand (block_with store.current.counted store.current.first_free c.head-head.result) held state =
    subst (λ (h : Head). PagesStand (block_with store.current.counted store.current.first_free h) held state) (sym c.head-head.ensures) committed in
    let told = store-told g.D.Disk.readable (applied (g.D.Disk.world store.disk.now).seen) store.overlay store.current.counted t store.sized in
    c.in_ok-answer_in.ensures.answered state stand told

pub returns-clause-opened : goal.returns-clause-opened
returns-clause-opened g c = λ t state holds.
    let on = c.clear_log.ensures.stopped ∙ sym c.args.self.now.stops ∙ c.if-self.false in
    let clean = ap (λ (o : Overlay). o.entries) c.clear_log.ensures.overlay ∙ c.args.self.now.clean in
    let settled = c.clear_log.ensures.current ∙ c.args.self.now.settled ∙ sym c.clear_log.ensures.last in
    let here = subst (λ disk. HoldsState (g.D.Disk.world disk) state) (λ i. (sym c.clear_log.ensures.disk i).now) holds in
    let store = c.clear_log.new.self in
    let held : PageMap = counted_pages store.current.counted (shown g.D.Disk.readable (applied (g.D.Disk.world store.disk.now).seen) store.overlay) in
    let committed = committed-stand g.D.Disk.readable (g.D.Disk.world store.disk.now) store.overlay store.current store.last store.end state t clean settled (store.ready t on) here in
    let stand : PagesStand (block_with store.current.counted store.current.first_free c.head-head.result) held state =
    subst (λ (h : Head). PagesStand (block_with store.current.counted store.current.first_free h) held state) (sym c.head-head.ensures) committed in
    let told = store-told g.D.Disk.readable (applied (g.D.Disk.world store.disk.now).seen) store.overlay store.current.counted t store.sized in
    let query = c.args.query.now in
    let log = c.answer_in.new.pages.asked.items in
    let found = c.in_ok-answer_in.ensures.opened state stand told in
    let same : ◌≡◌ {A = stores.Contents} (record { block = store.current; pages = held }) (record { block = c.args.self.now.store.current; pages = counted_pages c.args.self.now.store.current.counted (shown g.D.Disk.readable (applied (g.D.Disk.world c.args.self.now.store.disk.now).seen) c.args.self.now.store.overlay) }) =
    λ i. record { block = c.clear_log.ensures.current i; pages = counted_pages (c.clear_log.ensures.current i).counted (shown g.D.Disk.readable (applied (g.D.Disk.world (c.clear_log.ensures.disk i).now).seen) (c.clear_log.ensures.overlay i)) } in
    subst (λ (s : stores.Contents). IsFoundByFew s.pages s.block state query [] log c.in_ok-answer_in.field-0) same
    (subst (λ (before : List ℕ). IsFoundByFew held store.current state query before log c.in_ok-answer_in.field-0) c.clear_log.ensures.log
    (subst (λ (h : Head). IsFoundByFew held (block_with store.current.counted store.current.first_free h) state query store.asked.items log c.in_ok-answer_in.field-0) c.head-head.ensures found))

pub returns-clause-opens_few : goal.returns-clause-opens_few
returns-clause-opens_few g c = λ t state holds.
    let world = g.D.Disk.world in
    let on = c.clear_log.ensures.stopped ∙ sym c.args.self.now.stops ∙ c.if-self.false in
    let clean = ap (λ (o : Overlay). o.entries) c.clear_log.ensures.overlay ∙ c.args.self.now.clean in
    let settled = c.clear_log.ensures.current ∙ c.args.self.now.settled ∙ sym c.clear_log.ensures.last in
    let here = subst (λ disk. HoldsState (world disk) state) (λ i. (sym c.clear_log.ensures.disk i).now) holds in
    let store = c.clear_log.new.self in
    let pages : PageMap = counted_pages store.current.counted (shown g.D.Disk.readable (applied (world store.disk.now).seen) store.overlay) in
    let committed = committed-stand g.D.Disk.readable (world store.disk.now) store.overlay store.current store.last store.end state t clean settled (store.ready t on) here in
    let stand : PagesStand (block_with store.current.counted store.current.first_free c.head-head.result) pages state =
    subst (λ (h : Head). PagesStand (block_with store.current.counted store.current.first_free h) pages state) (sym c.head-head.ensures) committed in
    let told = store-told g.D.Disk.readable (applied (world store.disk.now).seen) store.overlay store.current.counted t store.sized in
    let query = c.args.query.now in
    let log = c.answer_in.new.pages.asked.items in
    let answer = c.in_ok-answer_in.field-0 in
    let held = contents_held (world c.args.self.now.store.disk.now).seen in
    let same : ◌≡◌ {A = stores.Contents} (record { block = store.current; pages = pages }) held =
    committed-held g.D.Disk.readable (world store.disk.now) store.overlay store.current store.last store.end t clean settled (store.ready t on)
    ∙ (λ i. contents_held (world (c.clear_log.ensures.disk i).now).seen) in
    let few : IsFoundByFew held.pages held.block state query [] log answer =
    subst (λ (s : stores.Contents). IsFoundByFew s.pages s.block state query [] log answer) same
    (subst (λ (before : List ℕ). IsFoundByFew pages store.current state query before log answer) c.clear_log.ensures.log
    (subst (λ (h : Head). IsFoundByFew pages (block_with store.current.counted store.current.first_free h) state query store.asked.items log answer) c.head-head.ensures (c.in_ok-answer_in.ensures.opened state stand told))) in
    reads-logged held state query log (world c.args.self.now.store.disk.now) (world c.answer_in.new.pages.disk.now)
    (subst (λ (a : Answer). IsFoundByFew held.pages held.block state query [] log a) (c.in_ok-answer_in.ensures.answered state stand told) few)
    (logged g.D.Disk.readable world c.clear_log.ensures.disk c.clear_log.ensures.log c.answer_in.ensures.frame.only_reads t)

pub returns-in_err-answer_in-clause-no_false_damage : goal.returns-in_err-answer_in-clause-no_false_damage
returns-in_err-answer_in-clause-no_false_damage g c = λ t state holds damage is.
    let on = c.clear_log.ensures.stopped ∙ sym c.args.self.now.stops ∙ c.if-self.false in
    let clean = ap (λ (o : Overlay). o.entries) c.clear_log.ensures.overlay ∙ c.args.self.now.clean in
    let settled = c.clear_log.ensures.current ∙ c.args.self.now.settled ∙ sym c.clear_log.ensures.last in
    let here = subst (λ disk. HoldsState (g.D.Disk.world disk) state) (λ i. (sym c.clear_log.ensures.disk i).now) holds in
    let store = c.clear_log.new.self in
    let held : PageMap = counted_pages store.current.counted (shown g.D.Disk.readable (applied (g.D.Disk.world store.disk.now).seen) store.overlay) in
    let committed = committed-stand g.D.Disk.readable (g.D.Disk.world store.disk.now) store.overlay store.current store.last store.end state t clean settled (store.ready t on) here in
    let stand : PagesStand (block_with store.current.counted store.current.first_free c.head-head.result) held state =
    subst (λ (h : Head). PagesStand (block_with store.current.counted store.current.first_free h) held state) (sym c.head-head.ensures) committed in
    let told = store-told g.D.Disk.readable (applied (g.D.Disk.world store.disk.now).seen) store.overlay store.current.counted t store.sized in
    let passed = err_from_is_err_and c.from_residual.result c.from_residual.ensures.1 in
    let result_is = passed.1 in
    let fault_is = passed.2 in
    let was : fault_of_pages c.in_err-answer_in.field-0.0 ≡ Damaged damage = cc in
    c.answer_in.ensures.no_false_damage state stand told damage (c.in_err-answer_in.was ∙ ap Err (damaged-from _ damage was))

pub returns-in_err-answer_in-clause-damaged : goal.returns-in_err-answer_in-clause-damaged
returns-in_err-answer_in-clause-damaged g c = λ t damage is.
    let store = c.clear_log.new.self in
    let passed = err_from_is_err_and c.from_residual.result c.from_residual.ensures.1 in
    let result_is = passed.1 in
    let fault_is = passed.2 in
    let was : fault_of_pages c.in_err-answer_in.field-0.0 ≡ Damaged damage = cc in
    let told = store-told g.D.Disk.readable (applied (g.D.Disk.world store.disk.now).seen) store.overlay store.current.counted t store.sized in
    let held : PageMap = counted_pages store.current.counted (shown g.D.Disk.readable (applied (g.D.Disk.world store.disk.now).seen) store.overlay) in
    let query = c.args.query.now in
    let log = c.answer_in.new.pages.asked.items in
    let found = c.answer_in.ensures.damaged told damage (c.in_err-answer_in.was ∙ ap Err (damaged-from _ damage was)) in
    let same : ◌≡◌ {A = stores.Contents} (record { block = store.current; pages = held }) (record { block = c.args.self.now.store.current; pages = counted_pages c.args.self.now.store.current.counted (shown g.D.Disk.readable (applied (g.D.Disk.world c.args.self.now.store.disk.now).seen) c.args.self.now.store.overlay) }) =
    λ i. record { block = c.clear_log.ensures.current i; pages = counted_pages (c.clear_log.ensures.current i).counted (shown g.D.Disk.readable (applied (g.D.Disk.world (c.clear_log.ensures.disk i).now).seen) (c.clear_log.ensures.overlay i)) } in
    subst (λ (s : stores.Contents). IsQueryDamage s.pages s.block c.args.query.now [] log damage) same
    (subst (λ (before : List ℕ). IsQueryDamage held store.current c.args.query.now before log damage) c.clear_log.ensures.log
    (subst (λ (h : Head). IsQueryDamage held (block_with store.current.counted store.current.first_free h) c.args.query.now store.asked.items log damage) c.head-head.ensures found))

pub returns-in_err-answer_in-clause-broken : goal.returns-in_err-answer_in-clause-broken
returns-in_err-answer_in-clause-broken g c = λ t damage is.
    let world = g.D.Disk.world in
    let on = c.clear_log.ensures.stopped ∙ sym c.args.self.now.stops ∙ c.if-self.false in
    let clean = ap (λ (o : Overlay). o.entries) c.clear_log.ensures.overlay ∙ c.args.self.now.clean in
    let settled = c.clear_log.ensures.current ∙ c.args.self.now.settled ∙ sym c.clear_log.ensures.last in
    let store = c.clear_log.new.self in
    let passed = err_from_is_err_and c.from_residual.result c.from_residual.ensures.1 in
    let result_is = passed.1 in
    let fault_is = passed.2 in
    let was : fault_of_pages c.in_err-answer_in.field-0.0 ≡ Damaged damage = cc in
    let told = store-told g.D.Disk.readable (applied (world store.disk.now).seen) store.overlay store.current.counted t store.sized in
    let pages : PageMap = counted_pages store.current.counted (shown g.D.Disk.readable (applied (world store.disk.now).seen) store.overlay) in
    let log = c.answer_in.new.pages.asked.items in
    let found = c.answer_in.ensures.damaged told damage (c.in_err-answer_in.was ∙ ap Err (damaged-from _ damage was)) in
    let held = contents_held (world c.args.self.now.store.disk.now).seen in
    let same : ◌≡◌ {A = stores.Contents} (record { block = store.current; pages = pages }) held =
    committed-held g.D.Disk.readable (world store.disk.now) store.overlay store.current store.last store.end t clean settled (store.ready t on)
    ∙ (λ i. contents_held (world (c.clear_log.ensures.disk i).now).seen) in
    record {
      asked = log;
      is = subst (λ (s : stores.Contents). IsQueryDamage s.pages s.block c.args.query.now [] log damage) same
          (subst (λ (before : List ℕ). IsQueryDamage pages store.current c.args.query.now before log damage) c.clear_log.ensures.log
          (subst (λ (h : Head). IsQueryDamage pages (block_with store.current.counted store.current.first_free h) c.args.query.now store.asked.items log damage) c.head-head.ensures found));
    }

pub returns-in_err-answer_in-clause-fails : goal.returns-in_err-answer_in-clause-fails
returns-in_err-answer_in-clause-fails g c = record {
  causes = search rules;
  stopped = search rules;
  emptied = search rules;
  disk = search rules;
  stays = search rules;
  no_head = λ t damage is.
      let store = c.clear_log.new.self in
      let passed = err_from_is_err_and c.from_residual.result c.from_residual.ensures.1 in
      let result_is = passed.1 in
      let fault_is = passed.2 in
      let was : fault_of_pages c.in_err-answer_in.field-0.0 ≡ Damaged damage = cc in
      let told = store-told g.D.Disk.readable (applied (g.D.Disk.world store.disk.now).seen) store.overlay store.current.counted t store.sized in
      answer-spares_head _ _ c.head-head.result.live (tables_in c.head-head.result) (tree_in c.head-head.result) c.args.query.now _ _ damage (c.answer_in.ensures.damaged told damage (c.in_err-answer_in.was ∙ ap Err (damaged-from _ damage was)));
}

pub returns-then-self-clause-frame : goal.returns-then-self-clause-frame
returns-then-self-clause-frame g c = record {
  same_loan = search rules;
  room = search rules;
  later = search rules;
  sink = search rules;
  rests = search rules;
  refused = search rules;
  goes_on = search rules;
  head = search rules;
  log = logged-none g.D.Disk.readable g.D.Disk.world c.clear_log.ensures.disk c.clear_log.ensures.log c.clear_log.new.self.overlay;
}

pub returns-in_err-answer_in-clause-frame : goal.returns-in_err-answer_in-clause-frame
returns-in_err-answer_in-clause-frame g c = record {
  same_loan = search rules;
  room = search rules;
  later = search rules;
  sink = search rules;
  rests = search rules;
  refused = search rules;
  goes_on = search rules;
  head = search rules;
  log = logged g.D.Disk.readable g.D.Disk.world c.clear_log.ensures.disk c.clear_log.ensures.log c.answer_in.ensures.frame.only_reads;
}

pub returns-clause-frame : goal.returns-clause-frame
returns-clause-frame g c = record {
  same_loan = search rules;
  room = search rules;
  later = search rules;
  sink = search rules;
  rests = search rules;
  refused = search rules;
  goes_on = search rules;
  head = search rules;
  log = logged g.D.Disk.readable g.D.Disk.world c.clear_log.ensures.disk c.clear_log.ensures.log c.answer_in.ensures.frame.only_reads;
}
