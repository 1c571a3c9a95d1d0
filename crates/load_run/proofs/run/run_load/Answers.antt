use Rattle.std.proofs.Common.{◌+◌, ◌∙◌, map, subst, arith}
use Rattle.std.specs.Prelude.{Result, IfErr, option_copied}
use Rattle.disk_model.proofs.Moments.{started}
use Rattle.disk_model.proofs.Replays.{on_ok_from}
use Rattle.geojson_points.specs.Takes.{item_of}
use Rattle.run_outcome.specs.Causes.{IsEngineEnd}
use Rattle.run_outcome.specs.Load.{places_among}
use Rattle.run_outcome.specs.declared.ended.Ended.{Ended}
use Rattle.load_run.specs.Loading.{IsLimitAt}
use Rattle.load_run.proofs.Causes.{job-of-engine}
use Rattle.load_run.proofs.Numbers.{limit-reaches}
use Rattle.load_run.proofs.Outcomes.{load_max-is, read-items, refused-ends, refused-input, refused-limit, taken-ends, taken-left, unread-ends, unread-input, unread-limit}
use Rattle.run_outcome.proofs.Going.{on-behind}
use Rattle.load_run.proofs.run.run_load.Goals as goal

pub returns-in-Err-clause-told : goal.returns-in-Err-clause-told
returns-in-Err-clause-told g c = λ readable told state holds. unread-ends (Unit {0}) c.args.batch (option_copied c.args.only) state (g.S.Source.left c.args.source.now) (g.S.Source.left c.read_text.new.source) (g.T.Disk.world c.args.engine.now.store.disk.now) c.in-Err.end holds (c.in-Err.ensures.told readable)

pub returns-in-Err-clause-any_moment : goal.returns-in-Err-clause-any_moment
returns-in-Err-clause-any_moment g c = λ readable told state holds. started (g.T.Disk.world c.args.engine.now.store.disk.now)

pub returns-in-Ok-take-clause-told : goal.returns-in-Ok-take-clause-told
returns-in-Ok-take-clause-told g c = λ readable told state holds.
    let read = c.in-Ok.ensures.told readable in
    taken-ends (Unit {0}) c.args.batch (option_copied c.args.only) state (g.S.Source.left c.args.source.now) (g.S.Source.left c.read_text.new.source) c.deref.result.now (map item_of c.in-Ok-take.items.items) (g.T.Disk.world c.args.engine.now.store.disk.now) (g.T.Disk.world c.store_items.new.engine.store.disk.now) c.store_items.result
    (c.deref.ensures.value ∙ read.0) read.1 (omega (arith, load_max-is, c.deref.ensures.len, c.in-Ok.ensures.short)) c.in-Ok-take.ensures.outcome (c.store_items.ensures.told told state holds).ends

pub returns-in-Ok-take-clause-any_moment : goal.returns-in-Ok-take-clause-any_moment
returns-in-Ok-take-clause-any_moment g c = λ readable told state holds.
    let read = c.in-Ok.ensures.told readable in
    taken-left c.args.batch (option_copied c.args.only) state (g.S.Source.left c.args.source.now) c.deref.result.now (map item_of c.in-Ok-take.items.items) (g.T.Disk.world c.args.engine.now.store.disk.now) (g.T.Disk.world c.store_items.new.engine.store.disk.now)
    (c.deref.ensures.value ∙ read.0) (omega (arith, load_max-is, c.deref.ensures.len, c.in-Ok.ensures.short)) c.in-Ok-take.ensures.outcome (c.store_items.ensures.told told state holds).left

pub returns-in-Ok-take-clause-cause : goal.returns-in-Ok-take-clause-cause
returns-in-Ok-take-clause-cause g c = job-of-engine g.T.Disk.readable (g.S.Source.faults c.args.source.now) (g.S.Source.faults c.read_text.new.source) (g.T.Disk.world c.args.engine.now.store.disk.now) (g.T.Disk.world c.store_items.new.engine.store.disk.now) c.store_items.result
    (c.in-Ok.ensures.cause.stays (λ e. absurd (cc))) c.store_items.ensures.cause

pub returns-clause-told : goal.returns-clause-told
returns-clause-told g c = λ readable told state holds.
    let read = c.in-Ok.ensures.told readable in
    refused-ends (Unit {0}) c.args.batch (option_copied c.args.only) state (g.S.Source.left c.args.source.now) (g.S.Source.left c.read_text.new.source) c.deref.result.now (g.T.Disk.world c.args.engine.now.store.disk.now) c.in-Err-take.fault c.refusal.result holds (c.deref.ensures.value ∙ read.0)
    (omega (arith, load_max-is, c.deref.ensures.len, c.in-Ok.ensures.short)) c.in-Err-take.ensures.outcome c.refusal.ensures

pub returns-clause-any_moment : goal.returns-clause-any_moment
returns-clause-any_moment g c = λ readable told state holds. started (g.T.Disk.world c.args.engine.now.store.disk.now)

-- ---- whatever the image stands for

pub returns-in-Err-clause-input : goal.returns-in-Err-clause-input
returns-in-Err-clause-input g c = λ readable fault is. unread-input (option_copied c.args.only) (g.S.Source.left c.args.source.now) c.in-Err.end fault (c.in-Err.ensures.told readable) is

pub returns-in-Err-clause-whole : goal.returns-in-Err-clause-whole
returns-in-Err-clause-whole g c = λ readable. tt

pub returns-in-Err-clause-limit : goal.returns-in-Err-clause-limit
returns-in-Err-clause-limit g c = λ readable fault is. absurd (unread-limit (g.S.Source.left c.args.source.now) c.in-Err.end fault (c.in-Err.ensures.told readable) is)

pub returns-in-Ok-take-clause-input : goal.returns-in-Ok-take-clause-input
returns-in-Ok-take-clause-input g c = λ readable fault is.
    absurd (subst (λ (r : Result (Unit {0}) Ended). IfErr r (IsEngineEnd g.T.Disk.readable (g.T.Disk.world c.args.engine.now.store.disk.now) (g.T.Disk.world c.store_items.new.engine.store.disk.now))) is c.store_items.ensures.cause.cause)

pub returns-in-Ok-take-clause-whole : goal.returns-in-Ok-take-clause-whole
returns-in-Ok-take-clause-whole g c = λ readable.
    let read = c.in-Ok.ensures.told readable in
    let taken = read-items (option_copied c.args.only) (g.S.Source.left c.args.source.now) c.deref.result.now (map item_of c.in-Ok-take.items.items) (c.deref.ensures.value ∙ read.0) (omega (arith, load_max-is, c.deref.ensures.len, c.in-Ok.ensures.short)) c.in-Ok-take.ensures.outcome in
    on_ok_from c.store_items.result (read.1, (map item_of c.in-Ok-take.items.items, taken))

pub returns-in-Ok-take-clause-limit : goal.returns-in-Ok-take-clause-limit
returns-in-Ok-take-clause-limit g c = λ readable fault is.
    let read = c.in-Ok.ensures.told readable in
    let items = map item_of c.in-Ok-take.items.items in
    let taken = read-items (option_copied c.args.only) (g.S.Source.left c.args.source.now) c.deref.result.now items (c.deref.ensures.value ∙ read.0) (omega (arith, load_max-is, c.deref.ensures.len, c.in-Ok.ensures.short)) c.in-Ok-take.ensures.outcome in
    let head = c.args.engine.now.store.current.head in
    limit-reaches head.live head.number (option_copied c.args.only) (g.S.Source.left c.args.source.now) items fault taken
    (subst (λ (r : Result (Unit {0}) Ended). IfErr r (IsLimitAt (head.live + (0 + places_among items)) (head.number + (0 + places_among items)))) is c.store_items.ensures.rises.limit)

pub returns-clause-input : goal.returns-clause-input
returns-clause-input g c = λ readable why is.
    let read = c.in-Ok.ensures.told readable in
    refused-input (option_copied c.args.only) (g.S.Source.left c.args.source.now) c.deref.result.now c.in-Err-take.fault c.refusal.result why (c.deref.ensures.value ∙ read.0) (omega (arith, load_max-is, c.deref.ensures.len, c.in-Ok.ensures.short)) c.in-Err-take.ensures.outcome c.refusal.ensures is

pub returns-clause-whole : goal.returns-clause-whole
returns-clause-whole g c = λ readable. tt

pub returns-clause-limit : goal.returns-clause-limit
returns-clause-limit g c = λ readable why is. absurd (refused-limit c.in-Err-take.fault c.refusal.result why c.refusal.ensures is)

-- ---- an engine that goes on

pub returns-in-Err-clause-goes_on : goal.returns-in-Err-clause-goes_on
returns-in-Err-clause-goes_on g c = on-behind _ c.in-Err.end c.requires.on

pub returns-clause-goes_on : goal.returns-clause-goes_on
returns-clause-goes_on g c = on-behind _ c.refusal.result c.requires.on
