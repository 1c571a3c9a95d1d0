use Rattle.std.proofs.Common.{◌++◌, ◌∷◌, [], sym, ap, ◌∙◌}
use Rattle.std.proofs.lemmas.List.{append-nil}
use Rattle.std.specs.List.{flat_map}
use Rattle.place_values.specs.First.{ranked}
use Rattle.place_values.specs.Members.{ranked_from_sorted}
use Rattle.spatial_base.specs.Key.{Name}
use Rattle.place_values.specs.declared.place.Place.{Place}
use Rattle.place_values.specs.Hit.{comes_before, hits_linear}
use Rattle.place_values.specs.Answer.{hits_of}
use Rattle.place_map.proofs.Scans.{done_more, gives_none, gives_one}
use Rattle.place_map.proofs.scan.all_hits.Goals as goal

pub loop-key-preserved-in-Continue-1 : goal.loop-key-preserved-in-Continue-1
loop-key-preserved-in-Continue-1 c =
    let done = c.loop-key.invariant.2.0 in
    let entry : Name × Place = (c.in-Some.key.now, c.in-Some.place.now) in (
      tt,
      tt,
      (
        done ++ entry ∷ [],
        done_more done c.loop-key.key-iterator c.next.new.self _ entry c.loop-key.invariant.2.1 c.in-Some.ensures.steps,
        c.in_ok-push.ensures.items
            ∙ ap (λ hits. hits ++ c.in-Some-hit_of.hit ∷ []) c.loop-key.invariant.2.2
            ∙ sym (gives_one (hits_of c.args.query.now) done entry c.in-Some-hit_of.hit (sym c.in-Some-hit_of.ensures)),
      ),
    )

pub loop-key-preserved : goal.loop-key-preserved
loop-key-preserved c =
    let done = c.loop-key.invariant.2.0 in
    let entry : Name × Place = (c.in-Some.key.now, c.in-Some.place.now) in (
      tt,
      tt,
      (
        done ++ entry ∷ [],
        done_more done c.loop-key.key-iterator c.next.new.self _ entry c.loop-key.invariant.2.1 c.in-Some.ensures.steps,
        c.loop-key.invariant.2.2 ∙ sym (gives_none (hits_of c.args.query.now) done entry (sym c.in_default.ensures)),
      ),
    )

pub returns : goal.returns
returns c =
    let done = c.loop-key.invariant.2.0 in
    ranked_from_sorted hits_linear _ _ c.sort_unstable.ensures.sorted c.sort_unstable.ensures.permutation
    ∙ ap (ranked comes_before) c.loop-key.invariant.2.2
    ∙ ap (λ places. ranked comes_before (flat_map (hits_of c.args.query.now) places))
    (sym (append-nil done) ∙ ap (λ rest. done ++ rest) (sym c.in-None.ensures.steps.0) ∙ c.loop-key.invariant.2.1)
