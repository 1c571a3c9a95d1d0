use Rattle.std.proofs.Common.{◌≡◌, inr, rules, refl, sym, ap, subst, ◌∙◌, arith}
use Rattle.std.specs.Prelude.{IfErr, IsErrOf, OnOk}
use Rattle.std.proofs.lemmas.Result.{on_ok_weaker}
use Rattle.irtree_engine.specs.Verified.{HoldsSome}
use Rattle.irtree_top.specs.Verify.{SaysBroken, TellsBroken}
use Rattle.command_words.specs.Job.{asked_of}
use Rattle.irtree_engine.specs.declared.fault.EngineFault.TheVariants as engine
use Rattle.disk_model.specs.World.{LeavesOnly, LeavesOnlySeen}
use Rattle.disk_model.proofs.Moments.{then, within}
use Rattle.irtree_engine.specs.Holding.{HoldsState}
use Rattle.page_store.specs.declared.superblock.Superblock.{Superblock}
use Rattle.run_outcome.specs.Causes.{HasJobEnd}
use Rattle.run_outcome.proofs.Counts.{keeps-fault}
use Rattle.run_outcome.specs.declared.ended.Ended.{Ended}
use Rattle.run_outcome.specs.declared.ended.Ended.TheVariants as ends
use Rattle.run_outcome.specs.declared.ended.LimitFault.TheVariants as limits
use Rattle.irtree_top.specs.Run.{EndsJob, HasRunEnd, HoldsPrefix, LacksRoomFor, OpensFew, ReachesLimitBy, RestsIfOpened}
use Rattle.irtree_top.proofs.Asking.{opened-opens}
use Rattle.irtree_top.proofs.Crashes.{left-from, none-held}
use Rattle.irtree_top.proofs.Jobs.{fault-unread, job-from}
use Rattle.irtree_top.proofs.Openings.{IsOpeningEnd, Refuses, given-back, job-alone, job-cause, none-by, opened-image, opened-limit, opened-quiet, opening-end, refused-alone, refused-cause, refused-job}
use Rattle.run_outcome.specs.Reading.{IsMetIn}
use Rattle.irtree_top.proofs.Reading.{opened-names, refused-names}
use Rattle.irtree_top.proofs.serve.run_job.Given as given
use Rattle.irtree_top.proofs.serve.run_job.Goals.{After-ended_by}
use Rattle.irtree_top.proofs.Rests.{job-rests, none-behind}
use Rattle.irtree_top.proofs.Verified.{broken-opened, refused-tells, some-opened}
use Rattle.irtree_top.proofs.serve.run_job.Goals as goal

-- what the refused opening says of the image
refuses : (g : given.Over) (c : After-ended_by g) → Refuses g.T.Disk.readable (g.T.Disk.world c.args.station.now) (g.T.Disk.world c.recover_superblock.new.disk) c.in-Err.fault
refuses g c = record {
  disk = λ is. let named : IsErrOf c.recover_superblock.result engine.Disk = cc in c.recover_superblock.ensures.disk named;
  none = λ told other. none-by c.in-Err.fault c.in-Err.ensures.causes other
      (λ is. let named : IsErrOf c.recover_superblock.result engine.NotAStore = cc in c.recover_superblock.ensures.not_a_store told named)
      (λ is. let named : IsErrOf c.recover_superblock.result engine.Version1 = cc in (c.recover_superblock.ensures.version1 told named).0)
      (λ at is. let named : IsErrOf c.recover_superblock.result (engine.BadJournal at) = cc in (c.recover_superblock.ensures.bad told at named).1)
      (λ damage is. let named : IsErrOf c.recover_superblock.result (engine.Damaged damage) = cc in (c.recover_superblock.ensures.damaged damage named).1 told);
  foreign = λ told is. let named : IsErrOf c.recover_superblock.result engine.NotAStore = cc in c.recover_superblock.ensures.foreign told named;
  bad = λ told at is. let named : IsErrOf c.recover_superblock.result (engine.BadJournal at) = cc in (c.recover_superblock.ensures.bad told at named).0;
  version1 = λ told is. let named : IsErrOf c.recover_superblock.result engine.Version1 = cc in (c.recover_superblock.ensures.version1 told named).1;
  head = λ told damage is. let named : IsErrOf c.recover_superblock.result (engine.Damaged damage) = cc in ((c.recover_superblock.ensures.damaged damage named).0, c.recover_superblock.ensures.broken_head told damage named);
}

pub returns-in-Err-clause-told : goal.returns-in-Err-clause-told
returns-in-Err-clause-told g c = λ readable told state holds.
    let input = g.S.Source.left c.args.source.now in
    rw c.ended_by.ensures
    (refused-job (Unit {0}) g.T.Disk.readable told (asked_of c.args.job.now) state input input (g.T.Disk.world c.args.station.now) (g.T.Disk.world c.recover_superblock.new.disk) holds (c.recover_superblock.ensures.quiet told).said c.in-Err.fault c.in-Err.ensures.causes (refuses g (goal.at.returns-in-Err-clause-told g c).After-ended_by))

pub returns-in-Err-clause-any_moment : goal.returns-in-Err-clause-any_moment
returns-in-Err-clause-any_moment g c = λ readable told state holds.
    let asked = asked_of c.args.job.now in
    let some = c.requires.some in
    within (c.in-Err.ensures.any_moment told state holds) (λ image said left whole is. none-held asked.action asked.batch some state whole.turn.changes _ image said left.0 left.1)

-- a refused opening ends by the disk or by the store
ends-otherwise : (g : given.Over) (c : After-ended_by g) → (end : Ended) → c.ended_by.result ≡ end → IsOpeningEnd end
ends-otherwise g c end is = subst IsOpeningEnd (sym c.ended_by.ensures ∙ is) (opening-end c.in-Err.fault c.in-Err.ensures.causes)

pub returns-in-Err-clause-left_alone : goal.returns-in-Err-clause-left_alone
returns-in-Err-clause-left_alone g c = λ told.
    rw c.ended_by.ensures
    (refused-alone (g.T.Disk.world c.args.station.now) (g.T.Disk.world c.recover_superblock.new.disk) c.in-Err.fault (c.in-Err.ensures.left told) (c.recover_superblock.ensures.alike told) (c.recover_superblock.ensures.quiet told).said)

pub returns-in-Err-clause-input : goal.returns-in-Err-clause-input
returns-in-Err-clause-input g c = λ readable fault is. absurd (ends-otherwise g (goal.at.returns-in-Err-clause-input g c).After-ended_by (ends.Input fault) (cc is))

pub returns-in-Err-clause-limits : goal.returns-in-Err-clause-limits
returns-in-Err-clause-limits g c = λ fault is. absurd (ends-otherwise g (goal.at.returns-in-Err-clause-limits g c).After-ended_by (ends.Limit fault) (cc is))

pub returns-in-Err-clause-reached : goal.returns-in-Err-clause-reached
returns-in-Err-clause-reached g c = λ readable told fault is. absurd (ends-otherwise g (goal.at.returns-in-Err-clause-reached g c).After-ended_by (ends.Limit fault) (cc is))

pub returns-in-Err-clause-unread : goal.returns-in-Err-clause-unread
returns-in-Err-clause-unread g c = λ makes. (refl, rw c.ended_by.ensures (fault-unread c.in-Err.fault))

pub returns-in-Err-clause-cause : goal.returns-in-Err-clause-cause
returns-in-Err-clause-cause g c = record {
  source = omega arith;
  faults = c.recover_superblock.ensures.later;
  sink = omega (arith, c.recover_superblock.ensures.sink);
  reads = λ other read. refl;
  keeps = rw c.ended_by.ensures (keeps-fault (Unit {0}) _ _ c.in-Err.fault (λ apart. c.recover_superblock.ensures.stays (λ e. apart (cc))) c.recover_superblock.ensures.sink);
  opened = λ told. tt;
  cause = rw c.ended_by.ensures (refused-cause g.T.Disk.readable (g.S.Source.faults c.args.source.now) (g.T.Disk.world c.args.station.now) (g.T.Disk.world c.recover_superblock.new.disk) c.in-Err.fault c.in-Err.ensures.causes (refuses g (goal.at.returns-in-Err-clause-cause g c).After-ended_by));
}

pub returns-clause-told : goal.returns-clause-told
returns-clause-told g c = λ readable told state holds.
    let world = g.T.Disk.world in
    let input = g.S.Source.left c.args.source.now in
    let left = g.S.Source.left c.serve-end.new.source in
    let mid = subst (λ disk. HoldsState (world disk) state) (sym c.over-engine.ensures.disk) (c.in-Ok.ensures.holds told state holds) in
    let same = ap (λ disk. (world disk).said) c.over-engine.ensures.disk ∙ (c.in-Ok.ensures.quiet told).said in
    given-back (λ disk. EndsJob (asked_of c.args.job.now) state input left (world c.args.station.now) (world disk) c.serve-end.result) c.serve-end.new.engine.store.disk.now _ (search rules)
    (job-from (asked_of c.args.job.now) state input (world c.args.station.now) (world c.over-engine.result.store.disk.now) (world c.serve-end.new.engine.store.disk.now) same _ left c.serve-end.result
    (c.serve-end.ensures.told readable told state mid))

pub returns-clause-any_moment : goal.returns-clause-any_moment
returns-clause-any_moment g c = λ readable told state holds.
    let world = g.T.Disk.world in
    let input = g.S.Source.left c.args.source.now in
    let asked = asked_of c.args.job.now in
    let some = c.requires.some in
    let opened = within (c.in-Ok.ensures.any_moment told state holds) (λ image said left whole is. none-held asked.action asked.batch some state whole.turn.changes (world c.args.station.now).said image said left.0 left.1) in
    let mid = subst (λ disk. HoldsState (world disk) state) (sym c.over-engine.ensures.disk) (c.in-Ok.ensures.holds told state holds) in
    let same = ap (λ disk. (world disk).said) c.over-engine.ensures.disk ∙ (c.in-Ok.ensures.quiet told).said in
    let served = within (c.serve-end.ensures.any_moment readable told state mid) (left-from asked state input some (world c.args.station.now) (world c.over-engine.result.store.disk.now) same) in
    let whole = then (subst (λ disk. LeavesOnly (world c.args.station.now) (world disk) (HoldsPrefix asked state input (world c.args.station.now))) (sym c.over-engine.ensures.disk) opened) served in
    given-back (λ disk. LeavesOnly (world c.args.station.now) (world disk) (HoldsPrefix asked state input (world c.args.station.now))) c.serve-end.new.engine.store.disk.now _ (search rules) whole

pub returns-clause-opens_few : goal.returns-clause-opens_few
returns-clause-opens_few g c = λ runs readable told state holds asks.
    let world = g.T.Disk.world in
    let input = g.S.Source.left c.args.source.now in
    let over : c.over-engine.result.store.disk.now ≡ c.recover_superblock.new.disk = c.over-engine.ensures.disk in
    let mid = subst (λ disk. HoldsState (world disk) state) (sym over) (c.in-Ok.ensures.holds told state holds) in
    given-back (λ disk. OnOk c.serve-end.result (OpensFew state input (world c.args.station.now) (world disk))) c.serve-end.new.engine.store.disk.now _ (search rules)
    (opened-opens state input c.serve-end.result (world c.args.station.now) (world c.recover_superblock.new.disk) (world c.serve-end.new.engine.store.disk.now) (c.in-Ok.ensures.quiet told) (c.in-Ok.ensures.opened told).stands
    (subst (λ disk. OnOk c.serve-end.result (OpensFew state input (world disk) (world c.serve-end.new.engine.store.disk.now))) over (c.serve-end.ensures.opens_few runs readable told state mid asks)))

pub returns-clause-cause : goal.returns-clause-cause
returns-clause-cause g c =
    let world = g.T.Disk.world in
    let source = g.S.Source.faults in
    let over : c.over-engine.result.store.disk.now ≡ c.recover_superblock.new.disk = c.over-engine.ensures.disk in
    given-back (λ disk. HasRunEnd g.T.Disk.readable (source c.args.source.now) (source c.serve-end.new.source) (world c.args.station.now) (world disk) c.serve-end.result) c.serve-end.new.engine.store.disk.now _ (search rules)
    (job-cause g.T.Disk.readable (world c.args.station.now) (world c.recover_superblock.new.disk) (world c.serve-end.new.engine.store.disk.now) (c.recover_superblock.ensures.stays (λ e. absurd (cc))) c.recover_superblock.ensures.sink
    (λ told. opened-image c.in-Ok.block (world c.args.station.now) (world c.recover_superblock.new.disk) (c.in-Ok.ensures.opened told))
    (λ told state holds. c.in-Ok.ensures.holds told state holds) (Unit {0})
    (source c.args.source.now) (source c.serve-end.new.source) c.serve-end.result
    (subst (λ disk. HasJobEnd g.T.Disk.readable (source c.args.source.now) (source c.serve-end.new.source) (world disk) (world c.serve-end.new.engine.store.disk.now) c.serve-end.result) over c.serve-end.ensures.cause))

pub serve-end-requires-clause-quiet : goal.serve-end-requires-clause-quiet
serve-end-requires-clause-quiet g c = λ told. subst (λ disk. LeavesOnlySeen (g.T.Disk.world disk)) (sym c.over-engine.ensures.disk)
    (opened-quiet c.in-Ok.block (g.T.Disk.world c.args.station.now) (g.T.Disk.world c.recover_superblock.new.disk) (c.in-Ok.ensures.opened told))

pub returns-clause-left_alone : goal.returns-clause-left_alone
returns-clause-left_alone g c = λ told.
    let world = g.T.Disk.world in
    job-alone (world c.args.station.now) _ (opened-image c.in-Ok.block (world c.args.station.now) (world c.recover_superblock.new.disk) (c.in-Ok.ensures.opened told)) (Unit {0}) g.T.Disk.readable
    (g.S.Source.faults c.args.source.now) (g.S.Source.faults c.serve-end.new.source) (world c.over-engine.result.store.disk.now) (world c.serve-end.new.engine.store.disk.now) c.serve-end.result c.serve-end.ensures.cause

pub returns-clause-reached : goal.returns-clause-reached
returns-clause-reached g c = λ readable told fault is.
    let world = g.T.Disk.world in
    let input = g.S.Source.left c.args.source.now in
    let block : c.over-engine.result.store.current ≡ c.in-Ok.block = c.over-engine.result.settled ∙ c.over-engine.ensures.block in
    opened-limit c.in-Ok.block (world c.args.station.now) (world c.recover_superblock.new.disk) (c.in-Ok.ensures.opened told) fault (asked_of c.args.job.now) input
    (subst (λ (b : Superblock). ReachesLimitBy c.args.job.now.action (asked_of c.args.job.now) fault b.head.live b.head.number input) block (c.serve-end.ensures.reached readable fault is))

pub returns-in-Err-clause-broken_rule : goal.returns-in-Err-clause-broken_rule
returns-in-Err-clause-broken_rule g c = λ runs readable told reads.
    rw c.ended_by.ensures
    (refused-names g.T.Disk.readable (g.T.Disk.world c.args.station.now) (g.T.Disk.world c.recover_superblock.new.disk) c.in-Err.fault told (refuses g (goal.at.returns-in-Err-clause-broken_rule g c).After-ended_by))

pub returns-clause-broken_rule : goal.returns-clause-broken_rule
returns-clause-broken_rule g c = λ runs readable told reads.
    let world = g.T.Disk.world in
    let over : c.over-engine.result.store.disk.now ≡ c.recover_superblock.new.disk = c.over-engine.ensures.disk in
    opened-names (world c.args.station.now) (world c.recover_superblock.new.disk) (c.in-Ok.ensures.opened told).stands c.serve-end.result
    (subst (λ disk. IfErr c.serve-end.result (IsMetIn (world disk).seen)) over (c.serve-end.ensures.met runs readable told reads))

pub returns-in-Err-clause-lacks : goal.returns-in-Err-clause-lacks
returns-in-Err-clause-lacks g c = λ told is. absurd (ends-otherwise g (goal.at.returns-in-Err-clause-lacks g c).After-ended_by (ends.Limit limits.NoRoom) (cc is))

pub returns-clause-lacks : goal.returns-clause-lacks
returns-clause-lacks g c = λ told is.
    given-back (λ disk. LacksRoomFor c.args.job.now.action c.args.job.now.batch (g.T.Disk.room_of disk) (g.T.Disk.world disk).seen) c.serve-end.new.engine.store.disk.now _ (search rules) (c.serve-end.ensures.lacks told is)

-- ---- what is left

pub returns-in-Err-clause-at_rest : goal.returns-in-Err-clause-at_rest
returns-in-Err-clause-at_rest g c = λ told behind. absurd (none-behind _ (ends-otherwise g (goal.at.returns-in-Err-clause-at_rest g c).After-ended_by _ refl) behind)

pub returns-clause-at_rest : goal.returns-clause-at_rest
returns-clause-at_rest g c = λ told.
    given-back (λ disk. RestsIfOpened (g.T.Disk.world disk) c.serve-end.result) c.serve-end.new.engine.store.disk.now _ (search rules)
    (job-rests (g.T.Disk.world c.serve-end.new.engine.store.disk.now) c.serve-end.result (c.serve-end.ensures.at_rest told))

pub returns-in-Err-clause-unopened : goal.returns-in-Err-clause-unopened
returns-in-Err-clause-unopened g c = λ told closed. record { alike = c.recover_superblock.ensures.alike told; said = (c.recover_superblock.ensures.quiet told).said }

pub returns-clause-unopened : goal.returns-clause-unopened
returns-clause-unopened g c = λ told closed. absurd (closed (opened-image c.in-Ok.block (g.T.Disk.world c.args.station.now) (g.T.Disk.world c.recover_superblock.new.disk) (c.in-Ok.ensures.opened told)))

-- ---- a check

pub returns-in-Err-clause-named : goal.returns-in-Err-clause-named
returns-in-Err-clause-named g c = λ verifies told damage is.
    refused-tells g.T.Disk.readable (g.T.Disk.world c.args.station.now) (g.T.Disk.world c.recover_superblock.new.disk) c.in-Err.fault told (refuses g (goal.at.returns-in-Err-clause-named g c).After-ended_by)
    (c.recover_superblock.ensures.quiet told).said damage (sym c.ended_by.ensures ∙ cc)

pub returns-clause-verified : goal.returns-clause-verified
returns-clause-verified g c = λ verifies told.
    let world = g.T.Disk.world in
    let over : c.over-engine.result.store.disk.now ≡ c.recover_superblock.new.disk = c.over-engine.ensures.disk in
    on_ok_weaker c.serve-end.result (some-opened (world c.args.station.now) (world c.recover_superblock.new.disk) (c.in-Ok.ensures.opened told).stands)
    (subst (λ disk. OnOk c.serve-end.result (HoldsSome (world disk).seen)) over (c.serve-end.ensures.verified verifies told))

pub returns-clause-named : goal.returns-clause-named
returns-clause-named g c = λ verifies told damage is.
    let world = g.T.Disk.world in
    let over : c.over-engine.result.store.disk.now ≡ c.recover_superblock.new.disk = c.over-engine.ensures.disk in
    given-back (λ disk. TellsBroken damage (world c.args.station.now) (world disk)) c.serve-end.new.engine.store.disk.now _ (search rules)
    (inr (broken-opened (world c.args.station.now) (world c.recover_superblock.new.disk) (c.in-Ok.ensures.opened told).stands (world c.serve-end.new.engine.store.disk.now) (c.in-Ok.ensures.quiet told).said damage
    (subst (λ disk. SaysBroken damage (world disk) (world c.serve-end.new.engine.store.disk.now)) over (c.serve-end.ensures.named verifies told damage is))))
