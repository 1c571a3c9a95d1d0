use Rattle.std.proofs.Common.{◌≡◌, ◌≤◌, ◌<◌, max, List, [], ◌∷◌, ◌++◌, length, length-append, ap, ◌∙◌, arith, rules}
use Rattle.geojson_points.specs.Takes.{Placed, place_of}
use Rattle.run_outcome.specs.Load.{Step, Store, put_of, steps}
use Rattle.run_outcome.proofs.Rooms.{lacks-more}
use Rattle.load_run.specs.declared.load.Load.{Load}
use Rattle.load_run.specs.Loading.{stage, stage_before}
use Rattle.load_run.proofs.Stages.{goes-as, lacks-memory}
use Rattle.load_run.proofs.Lists.{appended}
use Rattle.load_run.proofs.Moves.{moves-as, moves-before}
use Rattle.load_run.proofs.Numbers.{rises-lacks, rises-stored}
use Rattle.load_run.proofs.Steps.{steps-fills, steps-waits}
use Rattle.load_run.proofs.load.Load.place.Goals as goal

pub returns-in-Err-clause-told : goal.returns-in-Err-clause-told
returns-in-Err-clause-told g c = λ told closing state items holds. rw c.in-Err.ensures.err (lacks-memory (stage_before closing c.args.self.now state _) (g.T.Disk.world c.args.engine.now.store.disk.now) (Unit {0}))

pub returns-then-len-self-clause-told : goal.returns-then-len-self-clause-told
returns-then-len-self-clause-told g c = λ told closing state items holds.
    let s : Load = c.args.self.now in
    let same : c.replace-updates.result.items ≡ s.waiting.items = search rules in
    let more : c.push.new.self.items ≡ s.waiting.items ++ put_of (place_of c.args.draft) ∷ [] =
    appended c.push.new.self.items c.replace-updates.result.items s.waiting.items c.in-Ok.update (put_of (place_of c.args.draft)) c.in-Ok-push.ensures.items same c.in-Ok.ensures.ok in
    let few : length c.push.new.self.items < s.batch = omega (arith, c.len.ensures, c.if-len-self.true) in
    let after : Load = record s { waiting = c.push.new.self } in (
      state,
      goes-as (stage_before closing s state (Placed (place_of c.args.draft) ∷ items)) (stage_before closing after state items) (g.T.Disk.world c.args.engine.now.store.disk.now)
          (ap (λ (r : List Step). stage closing s state r) (steps-waits s.batch s.waiting.items c.push.new.self.items (place_of c.args.draft) items more few)) holds,
    )

pub returns-clause-told : goal.returns-clause-told
returns-clause-told g c = λ told closing state items holds.
    let s : Load = c.args.self.now in
    let same : c.replace-updates.result.items ≡ s.waiting.items = search rules in
    let empty : c.replace-updates.new.dest.items ≡ [] = search rules in
    let more : c.deref.result.now ≡ s.waiting.items ++ put_of (place_of c.args.draft) ∷ [] =
    appended c.deref.result.now c.replace-updates.result.items s.waiting.items c.in-Ok.update (put_of (place_of c.args.draft)) (c.deref.ensures.value ∙ c.in-Ok-push.ensures.items) same c.in-Ok.ensures.ok in
    let full : s.batch ≤ length c.deref.result.now = omega (arith, c.len.ensures, c.if-len-self.false, ap length c.deref.ensures.value) in
    let mid : Load = record s { waiting = c.replace-updates.new.dest } in
    moves-as closing s state (steps s.batch s.waiting.items (Placed (place_of c.args.draft) ∷ items)) (Store c.deref.result.now ∷ steps s.batch [] items) _ _ _ c.store.result
    (steps-fills s.batch s.waiting.items c.deref.result.now (place_of c.args.draft) items more full)
    (moves-before closing (stage closing s state (Store c.deref.result.now ∷ steps s.batch [] items)) mid c.store.new.self items (length c.deref.result.now) _ _ c.store.result empty c.store.ensures.counts
    (c.store.ensures.told told closing state (steps s.batch [] items) holds))

pub returns-in-Err-clause-rises : goal.returns-in-Err-clause-rises
returns-in-Err-clause-rises g c = rises-lacks {T = Unit {0}} 1 (length c.args.self.now.waiting.items) _ c.args.engine.now.store.current.head c.args.engine.now.store.current.head c.in-Err.end c.in-Err.ensures.err

pub returns-in-Err-push-clause-rises : goal.returns-in-Err-push-clause-rises
returns-in-Err-push-clause-rises g c = record { live = tt; number = tt; limit = tt }

pub returns-then-len-self-clause-rises : goal.returns-then-len-self-clause-rises
returns-then-len-self-clause-rises g c =
    let same : c.replace-updates.result.items ≡ c.args.self.now.waiting.items = search rules in
    let more = ap length c.in-Ok-push.ensures.items ∙ length-append c.replace-updates.result.items _ in
    record { live = omega (arith, more, ap length same); number = omega (arith, more, ap length same); limit = tt }

pub returns-clause-rises : goal.returns-clause-rises
returns-clause-rises g c =
    let s : Load = c.args.self.now in
    let same : c.replace-updates.result.items ≡ s.waiting.items = search rules in
    let empty : c.replace-updates.new.dest.items ≡ [] = search rules in
    let more = ap length (c.deref.ensures.value ∙ c.in-Ok-push.ensures.items) ∙ length-append c.replace-updates.result.items _ in
    let mid : Load = record s { waiting = c.replace-updates.new.dest } in
    rises-stored (length c.deref.result.now) (length s.waiting.items) c.args.engine.now.store.current.head c.store.new.engine.store.current.head mid c.store.new.self c.store.result (omega (arith, more, ap length same)) empty c.store.ensures.counts
    c.store.ensures.rises

-- ---- how many are stored at a time

pub returns-clause-lacks : goal.returns-clause-lacks
returns-clause-lacks g c = λ told is.
    let disk = c.store.new.engine.store.disk.now in
    let same : c.replace-updates.result.items ≡ c.args.self.now.waiting.items = search rules in
    let more = ap length (c.deref.ensures.value ∙ c.in-Ok-push.ensures.items) ∙ length-append c.replace-updates.result.items _ in
    lacks-more (length c.deref.result.now) (max c.args.self.now.batch 1) (g.T.Disk.room_of disk) (g.T.Disk.world disk).seen (omega (arith, more, ap length same, c.requires.waits.few)) (c.store.ensures.lacks told is)
