use Rattle.std.proofs.Common.{◌≡◌, ◌+◌, ◌∷◌, length, All, subst, rules}
use Rattle.std.proofs.lemmas.List.Elements.{All-head, All-tail}
use Rattle.table_updates.specs.Numbers.{HasTermImpact}
use Rattle.table_updates.proofs.held.+pair_words.Goals as goal

pub put_pair-requires-clause-impact : goal.put_pair-requires-clause-impact
put_pair-requires-clause-impact t c =
    let is : c.args.words.now ≡ c.in-Some.field-0-0.now ∷ c.in-Some.rest.now = search rules in
    (All-head HasTermImpact c.in-Some.field-0-0.now c.in-Some.rest.now (subst (All HasTermImpact) is c.requires.impacts)).0

pub pair_words-requires : goal.pair_words-requires
pair_words-requires t c =
    let is : c.args.words.now ≡ c.in-Some.field-0-0.now ∷ c.in-Some.rest.now = search rules in
    let impacts = All-tail HasTermImpact c.in-Some.field-0-0.now c.in-Some.rest.now (subst (All HasTermImpact) is c.requires.impacts) in
    let long : length c.args.words.now ≡ length c.in-Some.rest.now + 1 = search rules in
    search rules
