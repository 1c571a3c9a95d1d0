use Rattle.std.proofs.Common.{◌≡◌, ◌≤◌, ◌+◌, ◌++◌, ◌∷◌, [], true, false, length, length-append, sym, ap, ◌∙◌, arith}
use Rattle.spatial_base.specs.Key.{Name}
use Rattle.place_values.specs.declared.place.Place.{Place}
use Rattle.place_values.specs.Rarity.{holders_of}
use Rattle.place_values.specs.RarityLaws.{few_holders, more_holders}
use Rattle.place_map.proofs.Scans.{done_more}
use Rattle.place_map.proofs.rare.holders.Goals as goal

pub overflow_add-count : goal.overflow_add-count
overflow_add-count c =
    let done = c.loop-place.invariant.2.0 in
    let all : length (done ++ c.loop-place.place-iterator) ≡ length c.args.places.now.entries = ap length c.loop-place.invariant.2.1 in
    omega (arith, few_holders c.args.word.now done, c.loop-place.invariant.2.2, all, length-append done c.loop-place.place-iterator, ap length c.in-Some.ensures.steps, c.requires)

pub loop-place-preserved-then-has : goal.loop-place-preserved-then-has
loop-place-preserved-then-has c =
    let done = c.loop-place.invariant.2.0 in
    let entry : Name × Place = (c.in-Some.field-0-0.now, c.in-Some.place.now) in (
      tt,
      tt,
      (
        done ++ entry ∷ [],
        done_more done c.loop-place.place-iterator c.next.new.self _ entry c.loop-place.invariant.2.1 c.in-Some.ensures.steps,
        ap (λ n. n + 1) c.loop-place.invariant.2.2 ∙ sym (more_holders c.args.word.now done entry true (sym c.if-has.ensures)),
      ),
    )

pub loop-place-preserved : goal.loop-place-preserved
loop-place-preserved c =
    let done = c.loop-place.invariant.2.0 in
    let entry : Name × Place = (c.in-Some.field-0-0.now, c.in-Some.place.now) in
    let same : length (holders_of c.args.word.now (done ++ entry ∷ [])) ≡ length (holders_of c.args.word.now done) + 0 = more_holders c.args.word.now done entry false (sym c.if-has.ensures) in (
      tt,
      tt,
      (
        done ++ entry ∷ [],
        done_more done c.loop-place.place-iterator c.next.new.self _ entry c.loop-place.invariant.2.1 c.in-Some.ensures.steps,
        omega (arith, same, c.loop-place.invariant.2.2),
      ),
    )

pub returns-clause-few : goal.returns-clause-few
returns-clause-few c =
    let done = c.loop-place.invariant.2.0 in
    let all : length (done ++ c.loop-place.place-iterator) ≡ length c.args.places.now.entries = ap length c.loop-place.invariant.2.1 in
    omega (arith, few_holders c.args.word.now done, c.loop-place.invariant.2.2, all, length-append done c.loop-place.place-iterator)
