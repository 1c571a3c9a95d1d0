use Rattle.std.proofs.Common.{◌≡◌, ◌+◌, ◌≤◌, ◌^◌, length, [], Result, IfErr, Err, Some, refl, ap, sym, subst, ◌∙◌, arith, rules}
use Rattle.std.proofs.lemmas.Result.{err_from_is_err_and}
use Rattle.page_face.specs.declared.head.Head.{Head}
use Rattle.btree_nodes.specs.Supply.{view}
use Rattle.store_tables.specs.declared.tables.Tables.{Tables}
use Rattle.store_tables.specs.Holding.{Holds, IsApart, IsChanged}
use Rattle.store_model.specs.Ahead.{CanHoldAhead, StandAhead, held_ahead}
use Rattle.store_model.specs.Stands.{tables_in}
use Rattle.store_model.proofs.Gathered.{few-counted}
use Rattle.irtree_engine.specs.declared.fault.EngineFault.{EngineFault}
use Rattle.irtree_engine.specs.declared.fault.EngineFault.TheVariants.{Damaged}
use Rattle.irtree_engine.specs.Changes.{AreNumbersAhead, block_with, head_at}
use Rattle.irtree_engine.specs.Faults.{fault_of_pages}
use Rattle.irtree_engine.specs.Updates.{IsDueTo, state_after_all}
use Rattle.irtree_engine.proofs.Ahead.{begun-stands, can-begin, few-words}
use Rattle.irtree_engine.proofs.Dues.{passed-due}
use Rattle.irtree_engine.proofs.Hiding.{other-fault}
use Rattle.irtree_engine.proofs.Numbers.{numbers-begun, numbers-plain}
use Rattle.irtree_engine.proofs.Standing.{damaged-from}
use Rattle.irtree_engine.proofs.change.hold_ahead.Goals as goal

pub hold_words-requires : goal.hold_words-requires
hold_words-requires g c =
    let words = c.requires.numbers.words in
    let most = c.requires.numbers.number in
    let fits : (c.args.head.now.live + length c.args.updates.now ≤ 1000000) × (c.args.head.now.number + length c.args.updates.now ≤ 2 ^ 40) = search rules in
    let lives = fits.0 in
    let few = few-words c.in_ok-counts.counts.entries c.args.updates.now c.in_ok-counts.ensures.counted c.in_ok-counts.ensures.few in
    let next : c.tables_of-tables.result.next_word ≡ c.args.head.now.next_word = ap (λ (t : Tables). t.next_word) c.tables_of-tables.ensures in
    record { next = omega (arith, words, most, lives, few, next) }

pub returns-in_err-numbers-clause-due : goal.returns-in_err-numbers-clause-due
returns-in_err-numbers-clause-due g c = λ state stand told.
    let head = c.args.head.now in
    let old = c.args.pages.now in
    let outcome = state_after_all state c.args.updates.now in
    let tables_are : c.tables_of-tables.result ≡ tables_in head = c.tables_of-tables.ensures in
    let fits : (head.live + length c.args.updates.now ≤ 1000000) × (head.number + length c.args.updates.now ≤ 2 ^ 40) = search rules in
    let holds : Holds (g.P.Pages.pages old) c.tables_of-tables.result stand.entries = subst (λ (t : Tables). Holds (g.P.Pages.pages old) t stand.entries) (sym tables_are) stand.tables.holds in
    let apart : IsApart (view (g.P.Pages.pages old) (g.P.Pages.count old) (g.P.Pages.first old) stand.tables.free) c.tables_of-tables.result =
    subst (λ (t : Tables). IsApart (view (g.P.Pages.pages old) (g.P.Pages.count old) (g.P.Pages.first old) stand.tables.free) t) (sym tables_are) stand.tables.apart in
    let can : CanHoldAhead c.in_ok-counts.counts.entries (record { entries = stand.entries; next_word = c.tables_of-tables.result.next_word; numbers = [] }) =
    subst (λ (t : Tables). CanHoldAhead c.in_ok-counts.counts.entries (record { entries = stand.entries; next_word = t.next_word; numbers = [] })) (sym tables_are)
    (can-begin head (g.P.Pages.count old) (g.P.Pages.first old) (g.P.Pages.pages old) state stand c.args.updates.now c.in_ok-counts.counts.entries c.in_ok-counts.ensures.counted c.in_ok-counts.ensures.gathered c.in_ok-counts.ensures.few fits.0 fits.1) in
    let passed = err_from_is_err_and c.from_residual-in_err-numbers.result c.from_residual-in_err-numbers.ensures.1 in
    subst (λ (r : Result _ EngineFault). IfErr r (IsDueTo outcome)) (sym passed.1)
    (passed-due outcome c.in_err-numbers.field-0.0 passed.0 passed.2
    (λ damage is. c.in_err-numbers.ensures.no_false_damage stand.entries stand.tables.free holds apart can told damage (ap Err is)))

pub returns-clause-begun : goal.returns-clause-begun
returns-clause-begun g c = λ state stand.
    let head = c.args.head.now in
    let old = c.args.pages.now in
    let after = c.hold_words.new.pages in
    let now = c.hold_words.new.tables in
    let counts = c.in_ok-counts.counts.entries in
    let tables_are : c.tables_of-tables.result ≡ tables_in head = c.tables_of-tables.ensures in
    let fits : (head.live + length c.args.updates.now ≤ 1000000) × (head.number + length c.args.updates.now ≤ 2 ^ 40) = search rules in
    let holds : Holds (g.P.Pages.pages old) c.tables_of-tables.result stand.entries = subst (λ (t : Tables). Holds (g.P.Pages.pages old) t stand.entries) (sym tables_are) stand.tables.holds in
    let apart : IsApart (view (g.P.Pages.pages old) (g.P.Pages.count old) (g.P.Pages.first old) stand.tables.free) c.tables_of-tables.result =
    subst (λ (t : Tables). IsApart (view (g.P.Pages.pages old) (g.P.Pages.count old) (g.P.Pages.first old) stand.tables.free) t) (sym tables_are) stand.tables.apart in
    let held = c.in_ok-numbers.ensures.held stand.entries stand.tables.free holds apart in
    let moves : IsChanged (view (g.P.Pages.pages old) (g.P.Pages.count old) (g.P.Pages.first old) stand.tables.free) (tables_in head) (g.P.Pages.pages after) (g.P.Pages.count after) (g.P.Pages.first after) now (held_ahead counts head.next_word stand.entries).entries =
    subst (λ (t : Tables). IsChanged (view (g.P.Pages.pages old) (g.P.Pages.count old) (g.P.Pages.first old) stand.tables.free) t (g.P.Pages.pages after) (g.P.Pages.count after) (g.P.Pages.first after) now (held_ahead counts t.next_word stand.entries).entries) tables_are held.2 in
    subst (λ (h : Head). StandAhead (Some c.in_ok-numbers.numbers.entries) c.args.updates.now (block_with (g.P.Pages.count after) (g.P.Pages.first after) h) (g.P.Pages.pages after) state) (sym c.head_between.ensures)
    (begun-stands head (g.P.Pages.count old) (g.P.Pages.first old) (g.P.Pages.pages old) state stand c.args.updates.now counts c.in_ok-counts.ensures.counted c.in_ok-counts.ensures.gathered c.in_ok-counts.ensures.few fits.0 fits.1
    (g.P.Pages.pages after) (g.P.Pages.count after) (g.P.Pages.first after) now c.in_ok-numbers.numbers.entries (g.met.P.Pages.first_is_counted after) c.hold_words.ensures.frame.count
    (held.0 ∙ ap (λ (t : Tables). (held_ahead counts t.next_word stand.entries).numbers) tables_are) (held.1 ∙ ap (λ (t : Tables). (held_ahead counts t.next_word stand.entries).next_word) tables_are) moves)

pub returns-then-not-has_room_for-clause-numbers : goal.returns-then-not-has_room_for-clause-numbers
returns-then-not-has_room_for-clause-numbers g c = numbers-plain [] c.args.updates.now c.args.head.now c.requires.numbers

pub returns-clause-numbers : goal.returns-clause-numbers
returns-clause-numbers g c =
    let head = c.args.head.now in
    let now = c.hold_words.new.tables in
    let counts = c.in_ok-counts.counts.entries in
    let fits : (head.live + length c.args.updates.now ≤ 1000000) × (head.number + length c.args.updates.now ≤ 2 ^ 40) = search rules in
    let next : c.tables_of-tables.result.next_word ≡ head.next_word = ap (λ (t : Tables). t.next_word) c.tables_of-tables.ensures in
    let rises = c.in_ok-numbers.ensures.rises in
    let counted = few-counted counts c.in_ok-counts.ensures.counted.some in
    let few = c.in_ok-counts.ensures.few in
    subst (λ (h : Head). AreNumbersAhead (Some c.in_ok-numbers.numbers.entries) c.args.updates.now h) (sym c.head_between.ensures)
    (numbers-begun c.in_ok-numbers.numbers.entries c.args.updates.now head (head_at head now) c.requires.numbers fits.1 refl refl (omega (arith, next, rises, counted, few)))

pub returns-in_err-counts-clause-no_head : goal.returns-in_err-counts-clause-no_head
returns-in_err-counts-clause-no_head g c = λ told damage is.
    let passed = err_from_is_err_and c.from_residual.result c.from_residual.ensures.1 in
    let result_is = passed.1 in
    let fault_is = passed.2 in
    let was : fault_of_pages c.in_err-counts.field-0.0 ≡ Damaged damage = cc in
    let found = damaged-from _ damage was in
    let memory = c.in_err-counts.ensures.memory in
    λ e. cc

pub returns-in_err-numbers-clause-no_head : goal.returns-in_err-numbers-clause-no_head
returns-in_err-numbers-clause-no_head g c = λ told damage is.
    let passed = err_from_is_err_and c.from_residual-in_err-numbers.result c.from_residual-in_err-numbers.ensures.1 in
    let result_is = passed.1 in
    let fault_is = passed.2 in
    let was : fault_of_pages c.in_err-numbers.field-0.0 ≡ Damaged damage = cc in
    c.hold_words.ensures.no_head told damage (c.in_err-numbers.was ∙ ap Err (damaged-from _ damage was))

pub returns-in_err-numbers-clause-stays : goal.returns-in_err-numbers-clause-stays
returns-in_err-numbers-clause-stays g c = λ other.
    let passed = err_from_is_err_and c.from_residual-in_err-numbers.result c.from_residual-in_err-numbers.ensures.1 in
    c.in_err-numbers.ensures.fails.hides_none (other-fault c.in_err-numbers.field-0.0 passed.0 c.from_residual-in_err-numbers.result passed.2 passed.1 other)
