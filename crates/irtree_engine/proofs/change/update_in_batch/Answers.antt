use Rattle.std.proofs.Common.{◌≡◌, ℕ, ◌+◌, ◌≤◌, List, [], ◌∷◌, Option, option_map, Ok, IfErr, IfOk, refl, sym, ap, subst, arith}
use Rattle.std.proofs.lemmas.Result.{IfOk-weaker}
use Rattle.spatial_base.specs.Key.{Name}
use Rattle.place_values.specs.declared.update.Update.{Update}
use Rattle.place_values.specs.declared.update.Update.TheVariants.{Put}
use Rattle.place_values.specs.State.{Contents, IsSerialAbove}
use Rattle.place_values.specs.Update.{Effect, effect_of, key_for, serial_after, NamesText}
use Rattle.store_model.specs.Ahead.{StandAhead}
use Rattle.irtree_engine.specs.Changes.{AreNumbersAhead, block_with}
use Rattle.irtree_engine.specs.Updates.{IsDueTo}
use Rattle.irtree_engine.proofs.Named.{named-above, put-effect, serial-rises}
use Rattle.irtree_engine.proofs.change.update_in_batch.Goals as goal

-- src/change.rt:32:1
pub returns-in-Put-clause-updated : goal.returns-in-Put-clause-updated
returns-in-Put-clause-updated g c = λ state left stand.
    let numbers : Option (List (List ℕ × ℕ)) = option_map (λ numbers. numbers.entries) c.args.held.now in
    let ahead = subst (λ (u : Update). StandAhead numbers (u ∷ left) (block_with (g.P.Pages.count c.args.pages.now) (g.P.Pages.first c.args.pages.now) c.args.head.now) (g.P.Pages.pages c.args.pages.now) state) c.in-Put.is stand in
    let head = c.args.head.now in
    let name = c.named-key.result.0 in
    let serial = c.named-key.result.1 in
    let serial_is : state.serial ≡ head.serial = ap (λ (s : Contents). s.serial) stand.stand.is in
    let key_is : name ≡ key_for state c.in-Put.key = c.named-key.ensures.key state serial_is in
    let next_is : serial ≡ serial_after state c.in-Put.key = c.named-key.ensures.serial state serial_is in
    let rises = serial-rises state c.in-Put.key in
    let serials = stand.stand.tables.serials in
    let later : head.serial ≤ serial = omega (arith, serial_is, next_is, rises.0) in
    let most : serial ≤ head.number + 2 = omega (arith, serial_is, next_is, rises.1, serials) in
    let text : NamesText (Put c.in-Put.key c.in-Put.point c.in-Put.words c.in-Put.label) = subst NamesText c.in-Put.is c.requires.text in
    let above : IsSerialAbove serial name =
    subst (λ (n : Name). IsSerialAbove serial n) (sym key_is) (subst (λ m. IsSerialAbove m (key_for state c.in-Put.key)) (sym next_is) (named-above state c.in-Put.key c.in-Put.point c.in-Put.words c.in-Put.label text)) in
    subst (λ (e : Effect). IfOk c.put.result (λ applied. (e.answer ≡ Ok applied) × StandAhead numbers left (block_with (g.P.Pages.count c.put.new.pages) (g.P.Pages.first c.put.new.pages) c.put.new.head) (g.P.Pages.pages c.put.new.pages) e.state))
    (put-effect state c.args.update.now c.in-Put.key c.in-Put.point c.in-Put.words c.in-Put.label name serial c.in-Put.is key_is next_is)
    (c.put.ensures.updated state c.in-Put.key left ahead later most above)

-- src/change.rt:32:1
pub returns-in-Put-clause-due : goal.returns-in-Put-clause-due
returns-in-Put-clause-due g c = λ state left stand told.
    let numbers : Option (List (List ℕ × ℕ)) = option_map (λ numbers. numbers.entries) c.args.held.now in
    let ahead = subst (λ (u : Update). StandAhead numbers (u ∷ left) (block_with (g.P.Pages.count c.args.pages.now) (g.P.Pages.first c.args.pages.now) c.args.head.now) (g.P.Pages.pages c.args.pages.now) state) c.in-Put.is stand in
    let serial_is : state.serial ≡ c.args.head.now.serial = ap (λ (s : Contents). s.serial) stand.stand.is in
    subst (λ (e : Effect). IfErr c.put.result (IsDueTo e.answer))
    (put-effect state c.args.update.now c.in-Put.key c.in-Put.point c.in-Put.words c.in-Put.label c.named-key.result.0 c.named-key.result.1 c.in-Put.is (c.named-key.ensures.key state serial_is) (c.named-key.ensures.serial state serial_is))
    (c.put.ensures.due state c.in-Put.key left ahead told)

-- src/change.rt:32:1
pub returns-in-Remove-clause-due : goal.returns-in-Remove-clause-due
returns-in-Remove-clause-due g c = λ state left stand told.
    let numbers : Option (List (List ℕ × ℕ)) = option_map (λ numbers. numbers.entries) c.args.held.now in
    let ahead = subst (λ (u : Update). StandAhead numbers (u ∷ left) (block_with (g.P.Pages.count c.args.pages.now) (g.P.Pages.first c.args.pages.now) c.args.head.now) (g.P.Pages.pages c.args.pages.now) state) c.in-Remove.is stand in
    subst (λ (u : Update). IfErr c.remove.result (IsDueTo (effect_of state u).answer)) (sym c.in-Remove.is) (c.remove.ensures.due state left ahead told)

pub named-key-requires : goal.named-key-requires
named-key-requires g c = let are = c.requires.numbers.1 in record { serial = are.serial; number = are.number }

pub put-requires-clause-numbers : goal.put-requires-clause-numbers
put-requires-clause-numbers g c =
    let numbers : Option (List (List ℕ × ℕ)) = option_map (λ numbers. numbers.entries) c.args.held.now in
    let left = c.requires.numbers.0 in
    (c.in-Put.key, left, subst (λ (u : Update). AreNumbersAhead numbers (u ∷ left) c.args.head.now) c.in-Put.is c.requires.numbers.1)

pub put-requires-clause-serial : goal.put-requires-clause-serial
put-requires-clause-serial g c =
    let state : Contents = record { places = []; serial = c.args.head.now.serial; number = 0 } in
    let is = c.named-key.ensures.serial state refl in
    let rises = serial-rises state c.in-Put.key in
    let most = rises.1 in
    let serials = c.requires.numbers.1.serial in
    omega (arith, is, most, serials)

pub remove-requires : goal.remove-requires
remove-requires g c =
    let numbers : Option (List (List ℕ × ℕ)) = option_map (λ numbers. numbers.entries) c.args.held.now in
    let left = c.requires.numbers.0 in
    record { numbers = (left, subst (λ (u : Update). AreNumbersAhead numbers (u ∷ left) c.args.head.now) c.in-Remove.is c.requires.numbers.1) }

pub returns-in-Put-clause-numbers : goal.returns-in-Put-clause-numbers
returns-in-Put-clause-numbers g c = λ left are.
    let numbers : Option (List (List ℕ × ℕ)) = option_map (λ numbers. numbers.entries) c.args.held.now in
    c.put.ensures.numbers c.in-Put.key left (subst (λ (u : Update). AreNumbersAhead numbers (u ∷ left) c.args.head.now) c.in-Put.is are)

pub returns-in-Remove-clause-numbers : goal.returns-in-Remove-clause-numbers
returns-in-Remove-clause-numbers g c = λ left are.
    let numbers : Option (List (List ℕ × ℕ)) = option_map (λ numbers. numbers.entries) c.args.held.now in
    c.remove.ensures.numbers left (subst (λ (u : Update). AreNumbersAhead numbers (u ∷ left) c.args.head.now) c.in-Remove.is are)

pub returns-in-Put-clause-absent : goal.returns-in-Put-clause-absent
returns-in-Put-clause-absent g c = IfOk-weaker c.put.result _ _ (λ applied stored is. absurd (stored is)) c.put.ensures.stored
