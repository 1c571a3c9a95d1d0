use Rattle.std.proofs.Common.{◌≤◌, ◌++◌, ◌∷◌, [], sym, ap, ◌∙◌}
use Rattle.spatial_base.specs.Key.{Name}
use Rattle.place_values.specs.declared.place.Place.{Place}
use Rattle.place_values.specs.Group.{word_picks}
use Rattle.place_values.specs.declared.query.Pick.{Pick}
use Rattle.place_map.proofs.Nears.{all_pushed}
use Rattle.place_map.proofs.Picks.{pick_at, picked, not_picked}
use Rattle.place_map.proofs.Scans.{done_more, gives_none, gives_one}
use Rattle.place_map.proofs.group.picks_of.Goals as goal

pub loop-key-preserved-in-Continue-1 : goal.loop-key-preserved-in-Continue-1
loop-key-preserved-in-Continue-1 c =
    let done = c.loop-key.invariant.2.0 in
    let entry : Name × Place = (c.in-Some.key.now, c.in-Some.place.now) in
    let pick = pick_at entry.0 c.args.word.now c.dist.result entry.1.point in (
      tt,
      tt,
      (
        done ++ entry ∷ [],
        done_more done c.loop-key.key-iterator c.next.new.self _ entry c.loop-key.invariant.2.1 c.in-Some.ensures.steps,
        c.in_ok-push.ensures.items
            ∙ ap (λ picks. picks ++ pick ∷ []) c.loop-key.invariant.2.2
            ∙ sym (gives_one (word_picks c.args.at.now c.args.word.now) done entry pick (picked c.args.at.now c.args.word.now entry c.dist.result (sym c.if-has.ensures) c.dist.ensures.value)),
      ),
      all_pushed (λ (pick : Pick). pick.dist ≤ 2545584412) _ _ pick c.in_ok-push.ensures.items c.loop-key.invariant.3 c.dist.ensures.far,
    )

pub loop-key-preserved : goal.loop-key-preserved
loop-key-preserved c =
    let done = c.loop-key.invariant.2.0 in
    let entry : Name × Place = (c.in-Some.key.now, c.in-Some.place.now) in (
      tt,
      tt,
      (
        done ++ entry ∷ [],
        done_more done c.loop-key.key-iterator c.next.new.self _ entry c.loop-key.invariant.2.1 c.in-Some.ensures.steps,
        c.loop-key.invariant.2.2
            ∙ sym (gives_none (word_picks c.args.at.now c.args.word.now) done entry (not_picked c.args.at.now c.args.word.now entry (sym c.if-has.ensures))),
      ),
      c.loop-key.invariant.3,
    )
