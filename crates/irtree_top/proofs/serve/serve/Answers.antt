use Rattle.std.proofs.Common.{IsTrue, refl, arith, ◌∙◌}
use Rattle.disk_model.specs.World.{LeavesOnly}
use Rattle.place_values.specs.State.{Contents}
use Rattle.irtree_engine.specs.Holding.{HoldsState}
use Rattle.irtree_top.specs.Run.{HoldsPrefix}
use Rattle.command_words.specs.Job.{asked_of}
use Rattle.irtree_top.proofs.Asking.{settled-opens}
use Rattle.irtree_top.proofs.Crashes.{none-held}
use Rattle.irtree_top.proofs.Rooms.{lacks-settled}
use Rattle.irtree_top.proofs.Settled.{cause-settled, ends-front, now-left, settled-front, settled-job, settled-left}
use Rattle.irtree_top.proofs.serve.serve.Given as given
use Rattle.irtree_top.proofs.serve.serve.Goals.{After-settle}
use Rattle.irtree_top.proofs.Rests.{leaves-rest}
use Rattle.irtree_top.proofs.serve.serve.Goals as goal

-- what a crash leaves of the job and of the settling
left-behind : (g : given.Over) (c : After-settle g) → IsTrue g.S.Source.readable → IsTrue g.T.Disk.readable → (state : Contents) → HoldsState (g.T.Disk.world c.args.engine.now.store.disk.now) state
    → LeavesOnly (g.T.Disk.world c.args.engine.now.store.disk.now) (g.T.Disk.world c.settle.new.engine.store.disk.now) (HoldsPrefix (asked_of c.args.job.now) state (g.S.Source.left c.args.source.now) (g.T.Disk.world c.args.engine.now.store.disk.now))
left-behind g c readable told state holds =
    let world = g.T.Disk.world in
    let input = g.S.Source.left c.args.source.now in
    let first = c.args.engine.now.store.disk.now in
    let mid = c.act-end.new.engine.store.disk.now in
    let asked = asked_of c.args.job.now in
    let some = c.requires.some in
    let leaves = c.act-end.ensures.any_moment readable told state holds in
    let whole = c.transcript_is_some.ensures state asked input c.requires.acts in
    let now = now-left (HoldsPrefix asked state input (world first)) (world first) (world mid) (c.requires.quiet told) (λ image said was. g.met.T.Disk.only_now first image said told was) leaves
    (g.met.T.Disk.counts_now mid (world first).moment (world mid).seen told leaves.later (g.met.T.Disk.leaves_seen mid told))
    (λ other is. none-held asked.action asked.batch some state other.turn.changes (world first).said (world first).seen (world first).said holds refl) in
    settled-left c.transcript_is_one.ensures asked state input (world first) (world mid) (world c.settle.new.engine.store.disk.now) whole.0 whole.1 now (c.settle.ensures.any_moment told) leaves

pub returns-in-Ok-clause-told : goal.returns-in-Ok-clause-told
returns-in-Ok-clause-told g c = λ readable told state holds.
    let world = g.T.Disk.world in
    settled-job (asked_of c.args.job.now) state (g.S.Source.left c.args.source.now) (world c.args.engine.now.store.disk.now) (world c.act-end.new.engine.store.disk.now) (world c.settle.new.engine.store.disk.now)
    (c.settle.ensures.silent told) (λ held stands. c.in-Ok.ensures.holds told held stands) (Unit {0}) (g.S.Source.left c.act-end.new.source) c.act-end.result
    (c.act-end.ensures.told readable told state holds)

pub returns-in-Ok-clause-any_moment : goal.returns-in-Ok-clause-any_moment
returns-in-Ok-clause-any_moment g c = left-behind g (goal.at.returns-in-Ok-clause-any_moment g c).After-settle

pub returns-in-Ok-clause-opens_few : goal.returns-in-Ok-clause-opens_few
returns-in-Ok-clause-opens_few g c = λ runs readable told state holds asks.
    let world = g.T.Disk.world in
    settled-opens state (g.S.Source.left c.args.source.now) c.act-end.result (world c.args.engine.now.store.disk.now) (world c.act-end.new.engine.store.disk.now) (world c.settle.new.engine.store.disk.now)
    (c.act-end.ensures.opens_few runs readable told state holds asks) (c.settle.ensures.reads told)

pub returns-in-Ok-clause-cause : goal.returns-in-Ok-clause-cause
returns-in-Ok-clause-cause g c =
    let world = g.T.Disk.world in
    cause-settled g.T.Disk.readable (g.S.Source.faults c.args.source.now) (g.S.Source.faults c.act-end.new.source) (world c.args.engine.now.store.disk.now) (world c.act-end.new.engine.store.disk.now) (world c.settle.new.engine.store.disk.now)
    c.in-Ok.ensures.cause.stays c.settle.ensures.cause.sink (Unit {0}) (λ told held stands. c.in-Ok.ensures.holds told held stands) c.act-end.result c.act-end.ensures.cause

pub returns-in-Err-clause-told : goal.returns-in-Err-clause-told
returns-in-Err-clause-told g c = λ readable told state holds.
    let world = g.T.Disk.world in
    let input = g.S.Source.left c.args.source.now in
    let first = world c.args.engine.now.store.disk.now in
    let mid = world c.act-end.new.engine.store.disk.now in
    settled-front (asked_of c.args.job.now) state input first mid (world c.settle.new.engine.store.disk.now) (c.settle.ensures.silent told)
    (ends-front c.transcript_is_one.ensures (Unit {0}) (asked_of c.args.job.now) state input (g.S.Source.left c.act-end.new.source) first mid c.act-end.result (c.act-end.ensures.told readable told state holds))

pub returns-in-Err-clause-any_moment : goal.returns-in-Err-clause-any_moment
returns-in-Err-clause-any_moment g c = left-behind g (goal.at.returns-in-Err-clause-any_moment g c).After-settle

pub returns-in-Err-clause-cause : goal.returns-in-Err-clause-cause
returns-in-Err-clause-cause g c = record {
  source = c.act-end.ensures.cause.source;
  faults = omega (arith, c.act-end.ensures.cause.faults, c.settle.ensures.cause.later);
  sink = omega (arith, c.act-end.ensures.cause.sink, c.settle.ensures.cause.sink);
  reads = λ other read. absurd (other refl);
  keeps = record { disk = λ other. absurd (other refl); sink = λ other said. absurd (other refl) };
  stands = λ t. tt;
  cause = omega (arith, c.in-Err.ensures.cause.rose, c.act-end.ensures.cause.faults);
}

pub returns-in-Ok-clause-met : goal.returns-in-Ok-clause-met
returns-in-Ok-clause-met g c = c.act-end.ensures.met

pub returns-in-Err-clause-met : goal.returns-in-Err-clause-met
returns-in-Err-clause-met g c = λ runs readable told reads. tt

pub returns-in-Ok-clause-lacks : goal.returns-in-Ok-clause-lacks
returns-in-Ok-clause-lacks g c = λ told is.
    let mid = c.act-end.new.engine.store.disk.now in
    let new = c.settle.new.engine.store.disk.now in
    lacks-settled c.args.job.now.action c.args.job.now.batch (g.T.Disk.room_of mid) (g.T.Disk.room_of new) (g.T.Disk.world mid).seen (g.T.Disk.world new).seen c.settle.ensures.room (c.in-Ok.ensures.alike told) (c.act-end.ensures.lacks told is)

pub returns-in-Err-clause-lacks : goal.returns-in-Err-clause-lacks
returns-in-Err-clause-lacks g c = λ told is. absurd (cc)

pub returns-in-Ok-clause-at_rest : goal.returns-in-Ok-clause-at_rest
returns-in-Ok-clause-at_rest g c = λ told.
    leaves-rest c.act-end.new.engine.stopped (g.T.Disk.world c.settle.new.engine.store.disk.now) c.act-end.result c.act-end.ensures.goes_on (c.in-Ok.ensures.at_rest told)

pub returns-in-Ok-clause-named : goal.returns-in-Ok-clause-named
returns-in-Ok-clause-named g c = λ verifies told damage is.
    let says = c.act-end.ensures.named verifies told damage is in
    (says.0, c.settle.ensures.silent told ∙ says.1)
