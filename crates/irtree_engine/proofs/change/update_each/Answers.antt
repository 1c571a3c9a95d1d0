use Rattle.std.proofs.Common.{◌≡◌, ◌+◌, List, ◌∷◌, length, option_map, Err, Result, IfErr, sym, ap, subst, ◌∙◌, arith, rules}
use Rattle.std.proofs.lemmas.Result.{err_from_is_err_and}
use Rattle.std.specs.List.{AllByRecursion}
use Rattle.irtree_engine.specs.declared.fault.EngineFault.{EngineFault}
use Rattle.irtree_engine.specs.declared.fault.EngineFault.TheVariants.{Damaged, Disk}
use Rattle.irtree_engine.specs.Changes.{AreNumbersAhead, block_with}
use Rattle.page_face.proofs.Frames.{changes_then}
use Rattle.place_values.specs.declared.update.Update.{Update}
use Rattle.place_values.specs.Update.{NamesText}
use Rattle.irtree_engine.specs.Updates.{IsDueTo, state_after_all}
use Rattle.irtree_engine.proofs.Batches.{updated-all, updated-due, updated-more, updated-next, updated-none}
use Rattle.irtree_engine.proofs.Numbers.{numbers-ended}
use Rattle.irtree_engine.proofs.change.update_each.Goals as goal

-- src/change.rt:113:16
pub returns-in_err-held-clause-due : goal.returns-in_err-held-clause-due
returns-in_err-held-clause-due g c = λ state stand told.
    let passed = err_from_is_err_and c.from_residual.result c.from_residual.ensures.1 in
    subst (λ (r : Result (Unit {0}) EngineFault). IfErr r (IsDueTo (state_after_all state c.args.updates.now))) (sym passed.1)
    (subst (IsDueTo (state_after_all state c.args.updates.now)) (sym passed.2) (c.in_err-held.ensures.due state stand (told c.args.pages.now)))

-- src/change.rt:115:5
pub loop-next-init : goal.loop-next-init
loop-next-init g c =
    let held = c.hold_ahead.ensures in
    let live = held.same.0 in
    let number = held.same.1 in record {
      keys = c.requires.texts;
      stand = λ state stand. updated-none _ state c.args.updates.now _ _ (c.in_ok-held.ensures.begun state stand);
      ahead = c.in_ok-held.ensures.numbers;
      lives = omega (arith, live);
      numbers = omega (arith, number);
      faults = c.in_ok-held.ensures.stays (λ e. absurd (cc));
      frame = held.frame;
    }

-- src/change.rt:100:9
pub returns-in_err-update_in_batch-clause-due : goal.returns-in_err-update_in_batch-clause-due
returns-in_err-update_in_batch-clause-due g c = λ state stand told.
    let are = c.loop-next.invariant.stand state stand in
    let is : c.loop-next.left.now ≡ c.in-Some.next.now ∷ c.in-Some.rest.now = search rules in
    let ahead = updated-next are c.in-Some.next.now c.in-Some.rest.now is in
    let passed = err_from_is_err_and c.from_residual-in_err-update_in_batch.result c.from_residual-in_err-update_in_batch.ensures.1 in
    let due : IsDueTo (state_after_all state c.args.updates.now) c.in_err-update_in_batch.field-0.0 =
    updated-due are c.in-Some.next.now c.in-Some.rest.now is c.in_err-update_in_batch.field-0.0 (c.in_err-update_in_batch.ensures.due are.now c.in-Some.rest.now ahead (told c.loop-next.pages)) in
    subst (λ (r : Result (Unit {0}) EngineFault). IfErr r (IsDueTo (state_after_all state c.args.updates.now))) (sym passed.1)
    (subst (IsDueTo (state_after_all state c.args.updates.now)) (sym passed.2) due)

pub returns-in_err-update_in_batch-clause-one_more_each : goal.returns-in_err-update_in_batch-clause-one_more_each
returns-in_err-update_in_batch-clause-one_more_each g c =
    let is : c.loop-next.left.now ≡ c.in-Some.next.now ∷ c.in-Some.rest.now = search rules in
    let long : length c.loop-next.left.now ≡ length c.in-Some.rest.now + 1 = ap length is ∙ omega arith in
    let one_more = c.update_in_batch.ensures.one_more in
    let more_live = one_more.0 in
    let more_number = one_more.1 in
    let lives = c.loop-next.invariant.lives in
    let numbers = c.loop-next.invariant.numbers in (omega (arith, long, more_live, lives), omega (arith, long, more_number, numbers))

-- src/change.rt:99:5
pub loop-next-preserved : goal.loop-next-preserved
loop-next-preserved g c =
    let is : c.loop-next.left.now ≡ c.in-Some.next.now ∷ c.in-Some.rest.now = search rules in
    let long : length c.loop-next.left.now ≡ length c.in-Some.rest.now + 1 = ap length is ∙ omega arith in
    let invariant = c.loop-next.invariant in
    let one_more = c.update_in_batch.ensures.one_more in
    let more_live = one_more.0 in
    let more_number = one_more.1 in
    let lives = invariant.lives in
    let numbers = invariant.numbers in record {
      keys = (subst (AllByRecursion NamesText) is invariant.keys).1;
      stand = λ state stand.
          let are = invariant.stand state stand in
          let ahead = updated-next are c.in-Some.next.now c.in-Some.rest.now is in
          let updated = c.in_ok-update_in_batch.ensures.updated are.now c.in-Some.rest.now ahead in
          updated-more are c.in-Some.next.now c.in-Some.rest.now is (block_with (g.P.Pages.count c.update_in_batch.new.pages) (g.P.Pages.first c.update_in_batch.new.pages) c.update_in_batch.new.head) (g.P.Pages.pages c.update_in_batch.new.pages) c.in_ok-update_in_batch.field-0 updated.0 updated.1;
      ahead = c.in_ok-update_in_batch.ensures.numbers c.in-Some.rest.now (subst (λ (us : List Update). AreNumbersAhead (option_map (λ numbers. numbers.entries) c.loop-next.held-1) us c.loop-next.head) is invariant.ahead);
      lives = omega (arith, long, more_live, lives);
      numbers = omega (arith, long, more_number, numbers);
      faults = c.in_ok-update_in_batch.ensures.stays (λ e. absurd (cc)) ∙ invariant.faults;
      frame = changes_then g.P.Pages g.met.P.Pages.goes_further _ _ _ invariant.frame c.update_in_batch.ensures.frame;
    }

-- src/change.rt:73:1
pub returns-clause-updated : goal.returns-clause-updated
returns-clause-updated g c = λ state stand.
    updated-all c.loop-next.left.now (c.loop-next.invariant.stand state stand) c.in_default.ensures.cases

pub update_in_batch-requires-clause-numbers : goal.update_in_batch-requires-clause-numbers
update_in_batch-requires-clause-numbers g c =
    let is : c.loop-next.left.now ≡ c.in-Some.next.now ∷ c.in-Some.rest.now = search rules in
    (c.in-Some.rest.now, subst (λ (us : List Update). AreNumbersAhead (option_map (λ numbers. numbers.entries) c.loop-next.held-1) us c.loop-next.head) is c.loop-next.invariant.ahead)

pub returns-clause-numbers : goal.returns-clause-numbers
returns-clause-numbers g c = numbers-ended _ c.loop-next.left.now c.loop-next.head c.in_default.ensures.cases c.loop-next.invariant.ahead

pub returns-in_err-held-clause-no_head : goal.returns-in_err-held-clause-no_head
returns-in_err-held-clause-no_head g c = λ told damage is.
    let passed = err_from_is_err_and c.from_residual.result c.from_residual.ensures.1 in
    let result_is = passed.1 in
    let fault_is = passed.2 in
    let was : c.in_err-held.field-0.0 ≡ Damaged damage = cc in
    c.hold_ahead.ensures.no_head told damage (c.in_err-held.was ∙ ap Err was)

pub returns-in_err-update_in_batch-clause-no_head : goal.returns-in_err-update_in_batch-clause-no_head
returns-in_err-update_in_batch-clause-no_head g c = λ told damage is.
    let passed = err_from_is_err_and c.from_residual-in_err-update_in_batch.result c.from_residual-in_err-update_in_batch.ensures.1 in
    let result_is = passed.1 in
    let fault_is = passed.2 in
    let was : c.in_err-update_in_batch.field-0.0 ≡ Damaged damage = cc in
    c.update_in_batch.ensures.no_head told damage (c.in_err-update_in_batch.was ∙ ap Err was)

pub returns-in_err-held-clause-stays : goal.returns-in_err-held-clause-stays
returns-in_err-held-clause-stays g c = λ other.
    let passed = err_from_is_err_and c.from_residual.result c.from_residual.ensures.1 in
    c.in_err-held.ensures.stays (λ e. (let same : c.in_err-held.field-0.0 ≡ Disk = cc e in other (passed.1 ∙ ap Err (passed.2 ∙ same))))

pub returns-in_err-update_in_batch-clause-stays : goal.returns-in_err-update_in_batch-clause-stays
returns-in_err-update_in_batch-clause-stays g c = λ other.
    let passed = err_from_is_err_and c.from_residual-in_err-update_in_batch.result c.from_residual-in_err-update_in_batch.ensures.1 in
    c.in_err-update_in_batch.ensures.stays (λ e. (let same : c.in_err-update_in_batch.field-0.0 ≡ Disk = cc e in other (passed.1 ∙ ap Err (passed.2 ∙ same)))) ∙ c.loop-next.invariant.faults
