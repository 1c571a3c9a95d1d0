use Rattle.std.proofs.Common.{◌≡◌, ◌+◌, ◌<◌, ◌∷◌, length, sym, subst, arith, rules}
use Rattle.std.proofs.lemmas.Map.Iter.{rest_all, rest_more}
use Rattle.std.specs.Map.Iter.{deref_pair}
use Rattle.row_codec.specs.Stored.{IsStored}
use Rattle.table_updates.proofs.Numbers.{filled-all, filled-more, spare-more, stored-map}
use Rattle.table_updates.proofs.pairs.place_with.Goals as goal

pub loop-number-preserved : goal.loop-number-preserved
loop-number-preserved c =
    let i = c.loop-number.invariant in
    let step : c.loop-number.number-iterator ≡ (c.in-Some.number.now, c.in-Some.impact.now) ∷ c.next.new.self = rest_more deref_pair _ _ _ _ c.in-Some.is c.next.ensures.steps in
    let few = c.requires.map.few in
    let some : length c.loop-number.number-iterator ≡ length c.next.new.self + 1 = search rules in
    let all = i.3 in
    let long = i.4 in
    let inside : c.loop-number.count < length c.loop-number.pairs = omega arith in (
      tt,
      tt,
      filled-more c.loop-number.pairs c.loop-number.number-iterator c.next.new.self c.args.numbers.now.entries c.loop-number.count (c.in-Some.number.now, c.in-Some.impact.now) inside step i.2,
      omega arith,
      search rules,
      spare-more c.loop-number.pairs c.loop-number.count (c.in-Some.number.now, c.in-Some.impact.now) i.5,
    )

pub returns-clause-form : goal.returns-clause-form
returns-clause-form c =
    let i = c.loop-number.invariant in
    let none = rest_all deref_pair _ _ _ c.in-None.is c.next.ensures.steps in
    let made = filled-all c.args.point c.args.label c.loop-number.pairs c.loop-number.number-iterator c.args.numbers.now.entries c.loop-number.count none i.2 i.3 i.5 in
    subst IsStored (sym made) (stored-map c.args.point c.args.numbers.now.entries c.args.label c.requires.map)
