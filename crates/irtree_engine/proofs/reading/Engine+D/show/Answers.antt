use Rattle.std.proofs.Common.{◌≡◌, ℕ, List, [], Err, ap, sym, subst, ◌∙◌, rules}
use Rattle.std.proofs.lemmas.Result.{err_from_is_err_and}
use Rattle.page_journal.specs.Record.{applied}
use Rattle.page_face.specs.FreeList.{PageMap}
use Rattle.paged_map.specs.Maps.{AreCounted}
use Rattle.page_store.specs.Contents as stores
use Rattle.page_store.specs.Contents.{Overlay, counted_pages, shown}
use Rattle.place_values.specs.State.{Contents, place_at}
use Rattle.store_tables.specs.Holding.{Holds, table_uses}
use Rattle.store_tables.specs.declared.tables.Tables.{Tables}
use Rattle.store_model.specs.Stands.{tables_in}
use Rattle.store_model.proofs.Places.{place-at}
use Rattle.irtree_engine.specs.declared.fault.EngineFault.TheVariants.{Damaged}
use Rattle.irtree_engine.specs.Damages.{IsShownDamage}
use Rattle.irtree_engine.specs.Holding.{HoldsState}
use Rattle.irtree_engine.specs.Faults.{fault_of_pages}
use Rattle.irtree_engine.specs.Queries.{contents_held}
use Rattle.irtree_engine.specs.Shown.{IsShownBy}
use Rattle.table_updates.specs.Shown.{IsPlaceFound}
use Rattle.irtree_engine.proofs.Logs.{logged, logged-none}
use Rattle.irtree_engine.proofs.NoHead.{shown-spares_head}
use Rattle.irtree_engine.proofs.Standing.{committed-held, committed-stand, damaged-from, stand-counted, stand-known, store-told}
use Rattle.irtree_engine.proofs.reading.Engine+D.show.Goals as goal

pub returns-in_err-place_at-clause-no_false_damage : goal.returns-in_err-place_at-clause-no_false_damage
returns-in_err-place_at-clause-no_false_damage g c = λ t state holds damage is.
    let on = c.clear_log.ensures.stopped ∙ sym c.args.self.now.stops ∙ c.if-self.false in
    let clean = ap (λ (o : Overlay). o.entries) c.clear_log.ensures.overlay ∙ c.args.self.now.clean in
    let settled = c.clear_log.ensures.current ∙ c.args.self.now.settled ∙ sym c.clear_log.ensures.last in
    let here = subst (λ disk. HoldsState (g.D.Disk.world disk) state) (λ i. (sym c.clear_log.ensures.disk i).now) holds in
    let tables_are = c.tables_of-tables.ensures ∙ ap tables_in c.head.ensures in
    let store = c.clear_log.new.self in
    let held : PageMap = counted_pages store.current.counted (shown g.D.Disk.readable (applied (g.D.Disk.world store.disk.now).seen) store.overlay) in
    let stand = committed-stand g.D.Disk.readable (g.D.Disk.world store.disk.now) store.overlay store.current store.last store.end state t clean settled (store.ready t on) here in
    let has : Holds held c.tables_of-tables.result stand.entries = subst (λ (tables : Tables). Holds held tables stand.entries) (sym tables_are) stand.tables.holds in
    let passed = err_from_is_err_and c.from_residual.result c.from_residual.ensures.1 in
    let result_is = passed.1 in
    let fault_is = passed.2 in
    let was : fault_of_pages c.in_err-place_at.field-0.0 ≡ Damaged damage = cc in
    let counted : AreCounted (table_uses held c.tables_of-tables.result) store.current.counted = subst (λ (tables : Tables). AreCounted (table_uses held tables) store.current.counted) (sym tables_are) (stand-counted stand) in
    c.place_at.ensures.no_false_damage stand.entries has (stand-known stand) (store-told g.D.Disk.readable (applied (g.D.Disk.world store.disk.now).seen) store.overlay store.current.counted t store.sized) counted damage (c.in_err-place_at.was ∙ ap Err (damaged-from _ damage was))

pub returns-clause-shown : goal.returns-clause-shown
returns-clause-shown g c = λ t state holds.
    let on = c.clear_log.ensures.stopped ∙ sym c.args.self.now.stops ∙ c.if-self.false in
    let clean = ap (λ (o : Overlay). o.entries) c.clear_log.ensures.overlay ∙ c.args.self.now.clean in
    let settled = c.clear_log.ensures.current ∙ c.args.self.now.settled ∙ sym c.clear_log.ensures.last in
    let here = subst (λ disk. HoldsState (g.D.Disk.world disk) state) (λ i. (sym c.clear_log.ensures.disk i).now) holds in
    let tables_are = c.tables_of-tables.ensures ∙ ap tables_in c.head.ensures in
    let store = c.clear_log.new.self in
    let held : PageMap = counted_pages store.current.counted (shown g.D.Disk.readable (applied (g.D.Disk.world store.disk.now).seen) store.overlay) in
    let stand = committed-stand g.D.Disk.readable (g.D.Disk.world store.disk.now) store.overlay store.current store.last store.end state t clean settled (store.ready t on) here in
    let has : Holds held c.tables_of-tables.result stand.entries = subst (λ (tables : Tables). Holds held tables stand.entries) (sym tables_are) stand.tables.holds in
    c.in_ok-place_at.ensures.found stand.entries has ∙ sym (place-at c.args.key.now stand.entries) ∙ ap (λ (s : Contents). place_at c.args.key.now s.places) (sym stand.is)

pub returns-then-self-clause-frame : goal.returns-then-self-clause-frame
returns-then-self-clause-frame g c = record {
  same_loan = search rules;
  room = search rules;
  later = search rules;
  sink = search rules;
  rests = search rules;
  refused = search rules;
  goes_on = search rules;
  head = search rules;
  log = logged-none g.D.Disk.readable g.D.Disk.world c.clear_log.ensures.disk c.clear_log.ensures.log c.clear_log.new.self.overlay;
}

pub returns-in_err-place_at-clause-frame : goal.returns-in_err-place_at-clause-frame
returns-in_err-place_at-clause-frame g c = record {
  same_loan = search rules;
  room = search rules;
  later = search rules;
  sink = search rules;
  rests = search rules;
  refused = search rules;
  goes_on = search rules;
  head = search rules;
  log = logged g.D.Disk.readable g.D.Disk.world c.clear_log.ensures.disk c.clear_log.ensures.log c.place_at.ensures.frame.only_reads;
}

pub returns-clause-frame : goal.returns-clause-frame
returns-clause-frame g c = record {
  same_loan = search rules;
  room = search rules;
  later = search rules;
  sink = search rules;
  rests = search rules;
  refused = search rules;
  goes_on = search rules;
  head = search rules;
  log = logged g.D.Disk.readable g.D.Disk.world c.clear_log.ensures.disk c.clear_log.ensures.log c.place_at.ensures.frame.only_reads;
}

pub returns-in_err-place_at-clause-damaged : goal.returns-in_err-place_at-clause-damaged
returns-in_err-place_at-clause-damaged g c = λ t damage is.
    let store = c.clear_log.new.self in
    let passed = err_from_is_err_and c.from_residual.result c.from_residual.ensures.1 in
    let result_is = passed.1 in
    let fault_is = passed.2 in
    let was : fault_of_pages c.in_err-place_at.field-0.0 ≡ Damaged damage = cc in
    let tables_are : c.tables_of-tables.result ≡ tables_in store.current.head = c.tables_of-tables.ensures ∙ ap tables_in c.head.ensures in
    let told = store-told g.D.Disk.readable (applied (g.D.Disk.world store.disk.now).seen) store.overlay store.current.counted t store.sized in
    let held : PageMap = counted_pages store.current.counted (shown g.D.Disk.readable (applied (g.D.Disk.world store.disk.now).seen) store.overlay) in
    let log = c.place_at.new.pages.asked.items in
    let found = c.place_at.ensures.damaged told damage (c.in_err-place_at.was ∙ ap Err (damaged-from _ damage was)) in
    let same : ◌≡◌ {A = stores.Contents} (record { block = store.current; pages = held }) (record { block = c.args.self.now.store.current; pages = counted_pages c.args.self.now.store.current.counted (shown g.D.Disk.readable (applied (g.D.Disk.world c.args.self.now.store.disk.now).seen) c.args.self.now.store.overlay) }) =
    λ i. record { block = c.clear_log.ensures.current i; pages = counted_pages (c.clear_log.ensures.current i).counted (shown g.D.Disk.readable (applied (g.D.Disk.world (c.clear_log.ensures.disk i).now).seen) (c.clear_log.ensures.overlay i)) } in
    subst (λ (s : stores.Contents). IsShownDamage s.pages s.block.counted (tables_in s.block.head) c.args.key.now [] log damage) same
    (subst (λ (before : List ℕ). IsShownDamage held store.current.counted (tables_in store.current.head) c.args.key.now before log damage) c.clear_log.ensures.log
    (subst (λ (tables : Tables). IsShownDamage held store.current.counted tables c.args.key.now store.asked.items log damage) tables_are found))

pub returns-in_err-place_at-clause-broken : goal.returns-in_err-place_at-clause-broken
returns-in_err-place_at-clause-broken g c = λ t damage is.
    let world = g.D.Disk.world in
    let on = c.clear_log.ensures.stopped ∙ sym c.args.self.now.stops ∙ c.if-self.false in
    let clean = ap (λ (o : Overlay). o.entries) c.clear_log.ensures.overlay ∙ c.args.self.now.clean in
    let settled = c.clear_log.ensures.current ∙ c.args.self.now.settled ∙ sym c.clear_log.ensures.last in
    let store = c.clear_log.new.self in
    let passed = err_from_is_err_and c.from_residual.result c.from_residual.ensures.1 in
    let result_is = passed.1 in
    let fault_is = passed.2 in
    let was : fault_of_pages c.in_err-place_at.field-0.0 ≡ Damaged damage = cc in
    let tables_are : c.tables_of-tables.result ≡ tables_in store.current.head = c.tables_of-tables.ensures ∙ ap tables_in c.head.ensures in
    let told = store-told g.D.Disk.readable (applied (world store.disk.now).seen) store.overlay store.current.counted t store.sized in
    let pages : PageMap = counted_pages store.current.counted (shown g.D.Disk.readable (applied (world store.disk.now).seen) store.overlay) in
    let key = c.args.key.now in
    let log = c.place_at.new.pages.asked.items in
    let found = c.place_at.ensures.damaged told damage (c.in_err-place_at.was ∙ ap Err (damaged-from _ damage was)) in
    let held = contents_held (world c.args.self.now.store.disk.now).seen in
    let same : ◌≡◌ {A = stores.Contents} (record { block = store.current; pages = pages }) held =
    committed-held g.D.Disk.readable (world store.disk.now) store.overlay store.current store.last store.end t clean settled (store.ready t on)
    ∙ (λ i. contents_held (world (c.clear_log.ensures.disk i).now).seen) in
    record {
      key = key;
      asked = log;
      is = subst (λ (s : stores.Contents). IsShownDamage s.pages s.block.counted (tables_in s.block.head) key [] log damage) same
          (subst (λ (before : List ℕ). IsShownDamage pages store.current.counted (tables_in store.current.head) key before log damage) c.clear_log.ensures.log
          (subst (λ (tables : Tables). IsShownDamage pages store.current.counted tables key store.asked.items log damage) tables_are found));
    }

pub returns-in_err-place_at-clause-fails : goal.returns-in_err-place_at-clause-fails
returns-in_err-place_at-clause-fails g c = record {
  causes = search rules;
  stopped = search rules;
  emptied = search rules;
  disk = search rules;
  stays = search rules;
  no_head = λ t damage is.
      let store = c.clear_log.new.self in
      let passed = err_from_is_err_and c.from_residual.result c.from_residual.ensures.1 in
      let result_is = passed.1 in
      let fault_is = passed.2 in
      let was : fault_of_pages c.in_err-place_at.field-0.0 ≡ Damaged damage = cc in
      let told = store-told g.D.Disk.readable (applied (g.D.Disk.world store.disk.now).seen) store.overlay store.current.counted t store.sized in
      shown-spares_head _ _ _ _ _ _ damage (c.place_at.ensures.damaged told damage (c.in_err-place_at.was ∙ ap Err (damaged-from _ damage was)));
}

pub returns-clause-kept : goal.returns-clause-kept
returns-clause-kept g c = λ t.
    let world = g.D.Disk.world in
    let on = c.clear_log.ensures.stopped ∙ sym c.args.self.now.stops ∙ c.if-self.false in
    let clean = ap (λ (o : Overlay). o.entries) c.clear_log.ensures.overlay ∙ c.args.self.now.clean in
    let settled = c.clear_log.ensures.current ∙ c.args.self.now.settled ∙ sym c.clear_log.ensures.last in
    let store = c.clear_log.new.self in
    let tables_are : c.tables_of-tables.result ≡ tables_in store.current.head = c.tables_of-tables.ensures ∙ ap tables_in c.head.ensures in
    let told = store-told g.D.Disk.readable (applied (world store.disk.now).seen) store.overlay store.current.counted t store.sized in
    let pages : PageMap = counted_pages store.current.counted (shown g.D.Disk.readable (applied (world store.disk.now).seen) store.overlay) in
    let held = contents_held (world c.args.self.now.store.disk.now).seen in
    let same : ◌≡◌ {A = stores.Contents} (record { block = store.current; pages = pages }) held =
    committed-held g.D.Disk.readable (world store.disk.now) store.overlay store.current store.last store.end t clean settled (store.ready t on)
    ∙ (λ i. contents_held (world (c.clear_log.ensures.disk i).now).seen) in
    subst (λ (s : stores.Contents). IsShownBy s c.args.key.now c.in_ok-place_at.field-0) same
    (subst (λ (tables : Tables). IsPlaceFound pages store.current.counted tables c.args.key.now c.in_ok-place_at.field-0) tables_are (c.in_ok-place_at.ensures.kept told))
