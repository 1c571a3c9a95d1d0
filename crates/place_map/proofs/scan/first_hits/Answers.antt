use Rattle.std.proofs.Common.{◌++◌, ◌∷◌, [], sym, ap, ◌∙◌, subst}
use Rattle.std.specs.List.{flat_map}
use Rattle.place_values.specs.First.{first, IsRanked}
use Rattle.place_values.specs.Laws.{taken_ranked, ranked_is}
use Rattle.spatial_base.specs.Key.{Name}
use Rattle.place_values.specs.declared.place.Place.{Place}
use Rattle.place_values.specs.Hit.{comes_before, hits_linear}
use Rattle.place_values.specs.Answer.{hits_of}
use Rattle.place_map.proofs.Scans.{done_more, gives_none, scan_step}
use Rattle.place_map.proofs.scan.first_hits.Goals as goal

pub keep-requires-clause-ranked : goal.keep-requires-clause-ranked
keep-requires-clause-ranked c =
    subst (IsRanked comes_before) (sym c.loop-key.invariant.2.2)
    (taken_ranked comes_before c.from-k.result _ (ranked_is hits_linear (flat_map (hits_of c.args.query.now) c.loop-key.invariant.2.0)))

pub loop-key-preserved-in-Continue-1 : goal.loop-key-preserved-in-Continue-1
loop-key-preserved-in-Continue-1 c =
    let done = c.loop-key.invariant.2.0 in
    let entry : Name × Place = (c.in-Some.key.now, c.in-Some.place.now) in (
      tt,
      tt,
      (
        done ++ entry ∷ [],
        done_more done c.loop-key.key-iterator c.next.new.self _ entry c.loop-key.invariant.2.1 c.in-Some.ensures.steps,
        scan_step (hits_of c.args.query.now) c.from-k.result done entry c.in-Some-hit_of.hit _ c.keep.new.best.items (sym c.in-Some-hit_of.ensures) c.loop-key.invariant.2.2 c.in_ok-keep.ensures,
      ),
    )

pub loop-key-preserved : goal.loop-key-preserved
loop-key-preserved c =
    let done = c.loop-key.invariant.2.0 in
    let entry : Name × Place = (c.in-Some.key.now, c.in-Some.place.now) in (
      tt,
      tt,
      (
        done ++ entry ∷ [],
        done_more done c.loop-key.key-iterator c.next.new.self _ entry c.loop-key.invariant.2.1 c.in-Some.ensures.steps,
        c.loop-key.invariant.2.2
            ∙ ap (first comes_before c.from-k.result) (sym (gives_none (hits_of c.args.query.now) done entry (sym c.in_default.ensures))),
      ),
    )
