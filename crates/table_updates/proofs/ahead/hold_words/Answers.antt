use Rattle.std.proofs.Common.{◌≡◌, ℕ, ◌+◌, ◌∷◌, IsErrOf, List, length, fold, Err, sym, ap, subst, ◌∙◌, arith, rules}
use Rattle.std.proofs.lemmas.Result.{err_from_is_err_and}
use Rattle.std.specs.Str.{bytes_eq}
use Rattle.indexmap.specs.IndexMap.{insert_entry}
use Rattle.page_face.specs.declared.fault.PageFault.TheVariants.{Damaged, NoRoom}
use Rattle.btree_nodes.specs.Supply.{View, view}
use Rattle.store_tables.specs.Entries.{Entries}
use Rattle.store_tables.specs.Words.{with_holds}
use Rattle.store_tables.proofs.FrameLemmas.{changed-further}
use Rattle.store_tables.proofs.ToldLemmas.{told-changed}
use Rattle.store_model.specs.Ahead.{CanHoldAhead, HeldAhead, with_counted}
use Rattle.table_updates.proofs.ahead.hold_words.Goals as goal

pub returns-in_err-number-clause-no_false_damage : goal.returns-in_err-number-clause-no_false_damage
returns-in_err-number-clause-no_false_damage g c entries free holds apart can told damage =
    let before : View = view (g.P.Pages.pages c.args.pages.now) (g.P.Pages.count c.args.pages.now) (g.P.Pages.first c.args.pages.now) free in
    let held = c.loop-word.invariant.held entries free holds apart in
    let now : HeldAhead = record { entries = held.0; next_word = c.loop-word.tables.next_word; numbers = c.loop-word.numbers.entries } in
    let step : c.loop-word.word-iterator ≡ (c.in-Some.word.now, c.in-Some.places.now) ∷ c.next.new.self = c.in-Some.ensures.steps in
    let can_left = subst (λ (left : List (List ℕ × ℕ)). CanHoldAhead left now) step (held.3 can) in
    let p = err_from_is_err_and c.from_residual.result c.from_residual.ensures.1 in
    λ e. (let same : c.in_err-number.field-0.0 ≡ Damaged damage = cc (p.1, p.2, e) in
    (c.in_err-number.ensures.no_false_damage held.0 held.1.free held.1.holds held.1.apart (told-changed before c.args.tables.now _ _ _ _ _ held.1 told) damage (ap Err same)).1 can_left.0)

pub loop-word-preserved : goal.loop-word-preserved
loop-word-preserved g c =
    let invariant = c.loop-word.invariant in
    let step : c.loop-word.word-iterator ≡ (c.in-Some.word.now, c.in-Some.places.now) ∷ c.next.new.self = c.in-Some.ensures.steps in
    let long : length c.loop-word.word-iterator ≡ length c.next.new.self + 1 = search rules in
    let rises = invariant.rises in
    let more = c.in_ok-number.ensures.rises in
    let frame = c.hold.ensures.frame in record {
      goes = tt;
      ends = tt;
      rises = omega (arith, long, rises, more);
      held = λ entries free holds apart.
          let held = invariant.held entries free holds apart in
          let h = c.in_ok-number.ensures.held held.0 held.1.free held.1.holds held.1.apart in
          let then : Entries = with_holds c.in-Some.places.now c.in-Some.word.now c.loop-word.tables.next_word held.0 in
          let now : HeldAhead = record { entries = held.0; next_word = c.loop-word.tables.next_word; numbers = c.loop-word.numbers.entries } in
          let after : HeldAhead = record { entries = then; next_word = c.hold.new.self.next_word; numbers = c.put_number.new.numbers.entries } in
          let put = c.in_ok-put_number.ensures.put ∙ ap (insert_entry bytes_eq c.loop-word.numbers.entries c.in-Some.word.now) h.1 in
          let same : after ≡ with_counted now (c.in-Some.word.now, c.in-Some.places.now) = λ i. record { entries = then; next_word = h.2 i; numbers = put i } in (
            then,
            changed-further held.1 h.3,
            ap (λ (s : HeldAhead). fold with_counted s c.next.new.self) same ∙ ap (fold with_counted now) (sym step) ∙ held.2,
            λ can. subst (λ (s : HeldAhead). CanHoldAhead c.next.new.self s) (sym same) (subst (λ (left : List (List ℕ × ℕ)). CanHoldAhead left now) step (held.3 can)).1,
          );
      taken = let more = c.hold.ensures.at_most.count in let taken = invariant.taken in omega (arith, long, taken, more);
      count = omega (arith, frame.count, invariant.count);
      room = frame.room ∙ invariant.room;
      faults = c.in_ok-number.ensures.fails.hides_none ∙ invariant.faults;
      refused = omega (arith, frame.refused, invariant.refused);
      goes_on = frame.goes_on ∙ invariant.goes_on;
      follows = g.met.P.Pages.goes_further _ _ _ invariant.follows frame.follows;
    }

pub returns-in_err-number-clause-no_head : goal.returns-in_err-number-clause-no_head
returns-in_err-number-clause-no_head g c told damage =
    let p = err_from_is_err_and c.from_residual.result c.from_residual.ensures.1 in
    λ e. (let same : c.in_err-number.field-0.0 ≡ Damaged damage = cc (p.1, p.2, e) in
    c.in_err-number.ensures.no_head told damage (ap Err same))

pub returns-in_err-number-clause-at_most : goal.returns-in_err-number-clause-at_most
returns-in_err-number-clause-at_most g c =
    let invariant = c.loop-word.invariant in
    let step : c.loop-word.word-iterator ≡ (c.in-Some.word.now, c.in-Some.places.now) ∷ c.next.new.self = c.in-Some.ensures.steps in
    let long : length c.loop-word.word-iterator ≡ length c.next.new.self + 1 = search rules in
    let taken = invariant.taken in
    let p = err_from_is_err_and c.from_residual.result c.from_residual.ensures.1 in
    let same : IsErrOf c.from_residual.result NoRoom → c.in_err-number.field-0.0 ≡ NoRoom = λ e. cc (p.1, p.2, e) in
    let put = c.in_err-number.ensures.at_most in record {
      count = let more = put.count in omega (arith, long, taken, more);
      full = λ e. let full = put.full (ap Err (same e)) in omega (arith, full, invariant.room);
      none = λ e. put.none (ap Err (same e));
    }
