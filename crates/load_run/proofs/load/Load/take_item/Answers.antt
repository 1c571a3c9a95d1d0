use Rattle.std.proofs.Common.{[], ◌∷◌, length, ap, sym, subst}
use Rattle.geojson_points.specs.Takes.{item_of}
use Rattle.geojson_points.specs.declared.taken.Taken.{Taken}
use Rattle.run_outcome.specs.Load.{places_among, steps}
use Rattle.load_run.specs.declared.load.Load.{Load}
use Rattle.load_run.specs.Loading.{RisesBy}
use Rattle.load_run.proofs.Moves.{moves-as}
use Rattle.load_run.proofs.load.Load.take_item.Goals as goal

pub returns-in-Place-clause-told : goal.returns-in-Place-clause-told
returns-in-Place-clause-told g c = λ told closing state items holds.
    let s : Load = c.args.self.now in
    moves-as closing s state _ _ _ _ _ c.place.result (ap (λ (item : Taken). steps s.batch s.waiting.items (item_of item ∷ items)) c.in-Place.is) (c.place.ensures.told told closing state items holds)

pub returns-in-Skipped-clause-told : goal.returns-in-Skipped-clause-told
returns-in-Skipped-clause-told g c = λ told closing state items holds.
    let s : Load = c.args.self.now in
    moves-as closing s state _ _ _ _ _ c.skip.result (ap (λ (item : Taken). steps s.batch s.waiting.items (item_of item ∷ items)) c.in-Skipped.is) (c.skip.ensures.told told closing state items holds)

pub returns-in-Place-clause-rises : goal.returns-in-Place-clause-rises
returns-in-Place-clause-rises g c =
    subst (λ (item : Taken). RisesBy (places_among (item_of item ∷ [])) (length c.args.self.now.waiting.items) (length c.place.new.self.waiting.items) c.args.engine.now.store.current.head c.place.new.engine.store.current.head c.place.result) (sym c.in-Place.is)
    c.place.ensures.rises

pub returns-in-Skipped-clause-rises : goal.returns-in-Skipped-clause-rises
returns-in-Skipped-clause-rises g c =
    subst (λ (item : Taken). RisesBy (places_among (item_of item ∷ [])) (length c.args.self.now.waiting.items) (length c.skip.new.self.waiting.items) c.args.engine.now.store.current.head c.skip.new.engine.store.current.head c.skip.result) (sym c.in-Skipped.is)
    c.skip.ensures.rises

pub returns-in-Skipped-clause-lacks : goal.returns-in-Skipped-clause-lacks
returns-in-Skipped-clause-lacks g c = λ told is. absurd (c.skip.ensures.room is)
