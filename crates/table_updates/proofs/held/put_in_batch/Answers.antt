use Rattle.std.proofs.Common.{ℕ, ◌∷◌, List, Option, option_map, ap, subst}
use Rattle.std.proofs.lemmas.Result.{IfOk-weaker}
use Rattle.place_values.specs.declared.update.Update.TheVariants.{Put}
use Rattle.store_tables.specs.Words.{WordTablesAgree, holders}
use Rattle.store_model.specs.Ahead.{AreNamedBy, ahead, claimed}
use Rattle.table_updates.proofs.held.put_in_batch.Goals as goal

pub returns-in-Some-clause-put : goal.returns-in-Some-clause-put
returns-in-Some-clause-put g c entries free holds apart was =
    rw c.in-Some.is (IfOk-weaker c.put_held.result _ _ (λ stored h. (h.0, c.put_held.ensures.next, h.1)) (c.put_held.ensures.put entries free holds apart was))

pub returns-in-Some-clause-no_false_damage : goal.returns-in-Some-clause-no_false_damage
returns-in-Some-clause-no_false_damage g c entries free holds apart was few name left agree named told damage =
    let is = ap (option_map (λ numbers. numbers.entries)) c.in-Some.is in
    let agrees = subst (λ (h : Option (List (List ℕ × ℕ))). WordTablesAgree (λ n. claimed h (Put name c.args.point c.args.words.now c.args.label ∷ left) n (holders n entries.places)) entries.texts entries.numbers c.args.tables.now.next_word) is agree in
    let names = subst (λ (h : Option (List (List ℕ × ℕ))). AreNamedBy h entries.numbers (Put name c.args.point c.args.words.now c.args.label ∷ left)) is named in
    c.put_held.ensures.no_false_damage entries free holds apart was (ahead c.in-Some.numbers.entries left) agrees names.0 told damage

pub returns-in-None-clause-no_false_damage : goal.returns-in-None-clause-no_false_damage
returns-in-None-clause-no_false_damage g c entries free holds apart was few name left agree named told damage =
    let is = ap (option_map (λ numbers. numbers.entries)) c.in-None.is in
    let agrees = subst (λ (h : Option (List (List ℕ × ℕ))). WordTablesAgree (λ n. claimed h (Put name c.args.point c.args.words.now c.args.label ∷ left) n (holders n entries.places)) entries.texts entries.numbers c.args.tables.now.next_word) is agree in
    c.put_place.ensures.no_false_damage entries free holds apart was agrees few told damage
