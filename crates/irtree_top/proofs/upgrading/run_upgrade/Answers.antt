use Rattle.std.proofs.Common.{◌≡◌, ℕ, inl, sym, ap, subst, ◌∙◌}
use Rattle.std.specs.Prelude.{IsErrOf, Option}
use Rattle.disk_model.specs.World.{Rose}
use Rattle.irtree_engine.specs.declared.fault.EngineFault.TheVariants as engine
use Rattle.run_outcome.specs.Causes.{end_of_engine}
use Rattle.run_outcome.specs.Said.{SaysFrontOf}
use Rattle.run_outcome.specs.declared.ended.Ended.{Ended}
use Rattle.run_outcome.specs.declared.ended.Ended.TheVariants as ends
use Rattle.irtree_top.specs.Upgrade.{EndsUpgrade, IsLineEnd, LeavesAloneByUpgrade, upgrade_line}
use Rattle.irtree_top.proofs.Fronts.{none-said}
use Rattle.irtree_top.proofs.Upgrades.{IsRefusal, either-left, either-opened, ended-left, fault-refusal, line-complete, line-end, line-ends, line-front, line-opened, present-left, ready-said, refusal-complete, refusal-ends, refusal-left, refusal-opened, room-refusal, still-left, upgraded-left}
use Rattle.disk_model.proofs.Moments.{within}
use Rattle.irtree_top.proofs.upgrading.run_upgrade.Given as given
use Rattle.irtree_top.proofs.upgrading.run_upgrade.Goals.{After-ended_by, After-say_line}
use Rattle.irtree_top.proofs.upgrading.run_upgrade.Goals as goal

pub say_line-requires : goal.say_line-requires
say_line-requires g c = record { quiet = λ told. (c.in-Ok.ensures.at_rest told).safe }

-- ---- the line was said

pub returns-in-Ok-say_line-clause-upgraded : goal.returns-in-Ok-say_line-clause-upgraded
returns-in-Ok-say_line-clause-upgraded g c = λ told state stands is.
    let world = g.T.Disk.world in
    let carried = c.in-Ok.ensures.upgraded told state stands in
    subst (λ (n : Option ℕ). EndsUpgrade n state (world c.args.station.now) (world c.say_line.new.station)) carried.0
    (line-ends c.in-Ok.count (world c.args.station.now) (world c.upgrade.new.disk) (world c.say_line.new.station) (c.upgrade.ensures.silent told) state carried.1 _ (c.in-Ok-say_line.ensures.said told))

pub returns-in-Ok-say_line-clause-present : goal.returns-in-Ok-say_line-clause-present
returns-in-Ok-say_line-clause-present g c = λ told state holds is.
    let world = g.T.Disk.world in
    let kept = c.in-Ok.ensures.present told state holds in
    subst (λ (n : Option ℕ). EndsUpgrade n state (world c.args.station.now) (world c.say_line.new.station)) kept.0
    (line-ends c.in-Ok.count (world c.args.station.now) (world c.upgrade.new.disk) (world c.say_line.new.station) (c.upgrade.ensures.silent told) state kept.1 _ (c.in-Ok-say_line.ensures.said told))

pub returns-in-Ok-say_line-clause-upgrading : goal.returns-in-Ok-say_line-clause-upgrading
returns-in-Ok-say_line-clause-upgrading g c = λ told state stands.
    let world = g.T.Disk.world in
    let carried = c.in-Ok.ensures.upgraded told state stands in
    upgraded-left c.in-Ok.count (world c.args.station.now) (world c.upgrade.new.disk) (world c.say_line.new.station) (c.upgrade.ensures.silent told) state carried.1 c.say_line.result carried.0
    (c.upgrade.ensures.any_moment told state stands) (c.say_line.ensures.said told)

pub returns-in-Ok-say_line-clause-still : goal.returns-in-Ok-say_line-clause-still
returns-in-Ok-say_line-clause-still g c = λ told state holds.
    let world = g.T.Disk.world in
    let kept = c.in-Ok.ensures.present told state holds in
    present-left c.in-Ok.count (world c.args.station.now) (world c.upgrade.new.disk) (world c.say_line.new.station) (c.upgrade.ensures.silent told) state kept.1 c.say_line.result kept.0
    (c.upgrade.ensures.still told state holds) (c.say_line.ensures.said told)

pub returns-in-Ok-say_line-clause-front : goal.returns-in-Ok-say_line-clause-front
returns-in-Ok-say_line-clause-front g c = λ told state.
    let world = g.T.Disk.world in
    let front = line-front c.in-Ok.count (world c.args.station.now) (world c.upgrade.new.disk) (world c.say_line.new.station) (c.upgrade.ensures.silent told) c.say_line.result (c.say_line.ensures.said told) in
    record {
      upgraded = λ stands. subst (λ (n : Option ℕ). SaysFrontOf (upgrade_line n) (world c.args.station.now).said (world c.say_line.new.station).said) (c.in-Ok.ensures.upgraded told state stands).0 front;
      present = λ holds. subst (λ (n : Option ℕ). SaysFrontOf (upgrade_line n) (world c.args.station.now).said (world c.say_line.new.station).said) (c.in-Ok.ensures.present told state holds).0 front;
    }

pub returns-in-Ok-say_line-clause-opened : goal.returns-in-Ok-say_line-clause-opened
returns-in-Ok-say_line-clause-opened g c = λ told. either-opened c.in-Ok.count (g.T.Disk.world c.args.station.now).seen (c.in-Ok.ensures.opened told)

pub returns-in-Ok-say_line-clause-unopened : goal.returns-in-Ok-say_line-clause-unopened
returns-in-Ok-say_line-clause-unopened g c = λ told closed. absurd (closed (either-opened c.in-Ok.count (g.T.Disk.world c.args.station.now).seen (c.in-Ok.ensures.opened told)))

pub returns-in-Ok-say_line-clause-at_rest : goal.returns-in-Ok-say_line-clause-at_rest
returns-in-Ok-say_line-clause-at_rest g c = λ is told.
    ready-said (g.T.Disk.world c.upgrade.new.disk) (g.T.Disk.world c.say_line.new.station) (c.in-Ok.ensures.at_rest told) (c.say_line.ensures.quiet told) (c.say_line.ensures.said told).seen

pub returns-in-Ok-say_line-clause-disk_told : goal.returns-in-Ok-say_line-clause-disk_told
returns-in-Ok-say_line-clause-disk_told g c = λ other. c.say_line.ensures.cause.disk ∙ c.upgrade.ensures.stays (λ e. absurd (cc))

pub returns-in-Ok-say_line-clause-sink_told : goal.returns-in-Ok-say_line-clause-sink_told
returns-in-Ok-say_line-clause-sink_told g c = λ other. c.say_line.ensures.cause.stays (λ e. absurd (cc)) ∙ c.upgrade.ensures.sink

-- ---- the line wasn't said whole

pub returns-in-Err-say_line-clause-upgraded : goal.returns-in-Err-say_line-clause-upgraded
returns-in-Err-say_line-clause-upgraded g c = λ told state stands is. absurd (subst IsLineEnd is c.in-Err-say_line.ensures.ends)

pub returns-in-Err-say_line-clause-present : goal.returns-in-Err-say_line-clause-present
returns-in-Err-say_line-clause-present g c = λ told state holds is. absurd (subst IsLineEnd is c.in-Err-say_line.ensures.ends)

pub returns-in-Err-say_line-clause-upgrading : goal.returns-in-Err-say_line-clause-upgrading
returns-in-Err-say_line-clause-upgrading g c = λ told state stands.
    let world = g.T.Disk.world in
    let carried = c.in-Ok.ensures.upgraded told state stands in
    upgraded-left c.in-Ok.count (world c.args.station.now) (world c.upgrade.new.disk) (world c.say_line.new.station) (c.upgrade.ensures.silent told) state carried.1 c.say_line.result carried.0
    (c.upgrade.ensures.any_moment told state stands) (c.say_line.ensures.said told)

pub returns-in-Err-say_line-clause-still : goal.returns-in-Err-say_line-clause-still
returns-in-Err-say_line-clause-still g c = λ told state holds.
    let world = g.T.Disk.world in
    let kept = c.in-Ok.ensures.present told state holds in
    present-left c.in-Ok.count (world c.args.station.now) (world c.upgrade.new.disk) (world c.say_line.new.station) (c.upgrade.ensures.silent told) state kept.1 c.say_line.result kept.0
    (c.upgrade.ensures.still told state holds) (c.say_line.ensures.said told)

pub returns-in-Err-say_line-clause-front : goal.returns-in-Err-say_line-clause-front
returns-in-Err-say_line-clause-front g c = λ told state.
    let world = g.T.Disk.world in
    let front = line-front c.in-Ok.count (world c.args.station.now) (world c.upgrade.new.disk) (world c.say_line.new.station) (c.upgrade.ensures.silent told) c.say_line.result (c.say_line.ensures.said told) in
    record {
      upgraded = λ stands. subst (λ (n : Option ℕ). SaysFrontOf (upgrade_line n) (world c.args.station.now).said (world c.say_line.new.station).said) (c.in-Ok.ensures.upgraded told state stands).0 front;
      present = λ holds. subst (λ (n : Option ℕ). SaysFrontOf (upgrade_line n) (world c.args.station.now).said (world c.say_line.new.station).said) (c.in-Ok.ensures.present told state holds).0 front;
    }

pub returns-in-Err-say_line-clause-opened : goal.returns-in-Err-say_line-clause-opened
returns-in-Err-say_line-clause-opened g c = λ told.
    let image = (g.T.Disk.world c.args.station.now).seen in
    line-opened c.in-Err-say_line.end image c.in-Err-say_line.ensures.ends (either-opened c.in-Ok.count image (c.in-Ok.ensures.opened told))

pub returns-in-Err-say_line-clause-lacks : goal.returns-in-Err-say_line-clause-lacks
returns-in-Err-say_line-clause-lacks g c = λ told is. absurd (subst IsLineEnd is c.in-Err-say_line.ensures.ends)

pub returns-in-Err-say_line-clause-left : goal.returns-in-Err-say_line-clause-left
returns-in-Err-say_line-clause-left g c = λ told. ended-left c.in-Err-say_line.end (g.T.Disk.world c.args.station.now) (g.T.Disk.world c.say_line.new.station) c.in-Err-say_line.ensures.ends

pub returns-in-Err-say_line-clause-unopened : goal.returns-in-Err-say_line-clause-unopened
returns-in-Err-say_line-clause-unopened g c = λ told closed. absurd (closed (either-opened c.in-Ok.count (g.T.Disk.world c.args.station.now).seen (c.in-Ok.ensures.opened told)))

pub returns-in-Err-say_line-clause-broken : goal.returns-in-Err-say_line-clause-broken
returns-in-Err-say_line-clause-broken g c = λ fault is told. absurd (subst IsLineEnd is c.in-Err-say_line.ensures.ends)

pub returns-in-Err-say_line-clause-ends : goal.returns-in-Err-say_line-clause-ends
returns-in-Err-say_line-clause-ends g c = line-end c.in-Err-say_line.end c.in-Err-say_line.ensures.ends

-- the sink failed, where that ended the saying
sink-rose : (g : given.Over) (c : After-say_line g) → IsErrOf c.say_line.result ends.Sink → Rose (g.T.Disk.world c.args.station.now).sink_faults (g.T.Disk.world c.say_line.new.station).sink_faults
sink-rose g c is = subst (λ (n : ℕ). Rose n (g.T.Disk.world c.say_line.new.station).sink_faults) c.upgrade.ensures.sink (c.say_line.ensures.cause.rose is)

pub returns-in-Err-say_line-clause-complete : goal.returns-in-Err-say_line-clause-complete
returns-in-Err-say_line-clause-complete g c = λ told state stands disk sink.
    line-complete c.in-Err-say_line.end c.in-Err-say_line.ensures.ends (λ is. sink (sink-rose g (goal.at.returns-in-Err-say_line-clause-complete g c).After-say_line (cc)))

pub returns-in-Err-say_line-clause-at_rest : goal.returns-in-Err-say_line-clause-at_rest
returns-in-Err-say_line-clause-at_rest g c = λ is told. absurd (subst IsLineEnd is c.in-Err-say_line.ensures.ends)

pub returns-in-Err-say_line-clause-disk_cause : goal.returns-in-Err-say_line-clause-disk_cause
returns-in-Err-say_line-clause-disk_cause g c = λ is. absurd (subst IsLineEnd is c.in-Err-say_line.ensures.ends)

pub returns-in-Err-say_line-clause-sink_cause : goal.returns-in-Err-say_line-clause-sink_cause
returns-in-Err-say_line-clause-sink_cause g c = λ is. sink-rose g (goal.at.returns-in-Err-say_line-clause-sink_cause g c).After-say_line (cc)

pub returns-in-Err-say_line-clause-disk_told : goal.returns-in-Err-say_line-clause-disk_told
returns-in-Err-say_line-clause-disk_told g c = λ other. c.say_line.ensures.cause.disk ∙ c.upgrade.ensures.stays (λ e. absurd (cc))

pub returns-in-Err-say_line-clause-sink_told : goal.returns-in-Err-say_line-clause-sink_told
returns-in-Err-say_line-clause-sink_told g c = λ other. c.say_line.ensures.cause.stays (λ e. other (cc)) ∙ c.upgrade.ensures.sink

-- ---- the upgrade was refused

-- how it ends
refused : (g : given.Over) (c : After-ended_by g) → IsRefusal g.T.Disk.readable (g.T.Disk.world c.args.station.now) (g.T.Disk.world c.upgrade.new.disk) c.ended_by.result
refused g c = subst (λ (e : Ended). IsRefusal g.T.Disk.readable (g.T.Disk.world c.args.station.now) (g.T.Disk.world c.upgrade.new.disk) e) (sym c.ended_by.ensures)
    (fault-refusal g.T.Disk.readable (g.T.Disk.world c.args.station.now) (g.T.Disk.world c.upgrade.new.disk) c.in-Err.fault (record {
      causes = c.in-Err.ensures.causes;
      disk = λ is. let named : IsErrOf c.upgrade.result engine.Disk = cc in c.upgrade.ensures.disk named;
      foreign = λ told is. let named : IsErrOf c.upgrade.result engine.NotAStore = cc in c.upgrade.ensures.not_a_store told named;
      bad = λ told at is. let named : IsErrOf c.upgrade.result (engine.BadJournal at) = cc in c.upgrade.ensures.bad told at named;
      damaged = λ told damage is. let named : IsErrOf c.upgrade.result (engine.Damaged damage) = cc in c.upgrade.ensures.damaged told damage named;
      room = λ told is. let named : IsErrOf c.upgrade.result engine.NoRoom = cc in c.upgrade.ensures.room_left told named;
    }))

-- how it ends, where that is named
refused-by : (g : given.Over) (c : After-ended_by g) → (end : Ended) → c.ended_by.result ≡ end → IsRefusal g.T.Disk.readable (g.T.Disk.world c.args.station.now) (g.T.Disk.world c.upgrade.new.disk) end
refused-by g c end is = subst (λ (e : Ended). IsRefusal g.T.Disk.readable (g.T.Disk.world c.args.station.now) (g.T.Disk.world c.upgrade.new.disk) e) is (refused g c)

pub returns-in-Err-clause-upgraded : goal.returns-in-Err-clause-upgraded
returns-in-Err-clause-upgraded g c = λ told state stands is. absurd (refused-by g (goal.at.returns-in-Err-clause-upgraded g c).After-ended_by ends.Done is)

pub returns-in-Err-clause-present : goal.returns-in-Err-clause-present
returns-in-Err-clause-present g c = λ told state holds is. absurd (refused-by g (goal.at.returns-in-Err-clause-present g c).After-ended_by ends.Done is)

pub returns-in-Err-clause-upgrading : goal.returns-in-Err-clause-upgrading
returns-in-Err-clause-upgrading g c = λ told state stands. within (c.upgrade.ensures.any_moment told state stands) (either-left state (g.T.Disk.world c.args.station.now))

pub returns-in-Err-clause-still : goal.returns-in-Err-clause-still
returns-in-Err-clause-still g c = λ told state holds. within (c.upgrade.ensures.still told state holds) (still-left state (g.T.Disk.world c.args.station.now))

pub returns-in-Err-clause-front : goal.returns-in-Err-clause-front
returns-in-Err-clause-front g c = λ told state. record {
  upgraded = λ stands. none-said _ (g.T.Disk.world c.args.station.now).said (g.T.Disk.world c.upgrade.new.disk).said (c.upgrade.ensures.silent told);
  present = λ holds. none-said _ (g.T.Disk.world c.args.station.now).said (g.T.Disk.world c.upgrade.new.disk).said (c.upgrade.ensures.silent told);
}

pub returns-in-Err-clause-opened : goal.returns-in-Err-clause-opened
returns-in-Err-clause-opened g c = λ told.
    refusal-opened g.T.Disk.readable (g.T.Disk.world c.args.station.now) (g.T.Disk.world c.upgrade.new.disk) c.ended_by.result (refused g (goal.at.returns-in-Err-clause-opened g c).After-ended_by) told

pub returns-in-Err-clause-lacks : goal.returns-in-Err-clause-lacks
returns-in-Err-clause-lacks g c = λ told is.
    let fault_is : c.in-Err.fault ≡ engine.NoRoom = room-refusal c.in-Err.fault c.in-Err.ensures.causes (sym c.ended_by.ensures ∙ is) in
    let named : IsErrOf c.upgrade.result engine.NoRoom = cc in
    c.upgrade.ensures.lacks told named

pub returns-in-Err-clause-left : goal.returns-in-Err-clause-left
returns-in-Err-clause-left g c = λ told.
    let old = g.T.Disk.world c.args.station.now in
    let new = g.T.Disk.world c.upgrade.new.disk in
    subst (λ (e : Ended). LeavesAloneByUpgrade e old new) (sym c.ended_by.ensures)
    (refusal-left old new c.in-Err.fault c.in-Err.ensures.causes (c.in-Err.ensures.left told) (λ other. c.in-Err.ensures.alike told (λ e. other (cc))) (c.upgrade.ensures.silent told))

pub returns-in-Err-clause-unopened : goal.returns-in-Err-clause-unopened
returns-in-Err-clause-unopened g c = λ told closed. record {
  alike = c.upgrade.ensures.unopened told (λ opened. closed (inl opened));
  said = c.upgrade.ensures.silent told;
}

pub returns-in-Err-clause-broken : goal.returns-in-Err-clause-broken
returns-in-Err-clause-broken g c = λ fault is told. (refused-by g (goal.at.returns-in-Err-clause-broken g c).After-ended_by (ends.Store fault) is).1 told

pub returns-in-Err-clause-ends : goal.returns-in-Err-clause-ends
returns-in-Err-clause-ends g c =
    refusal-ends g.T.Disk.readable (g.T.Disk.world c.args.station.now) (g.T.Disk.world c.upgrade.new.disk) c.ended_by.result (refused g (goal.at.returns-in-Err-clause-ends g c).After-ended_by)

pub returns-in-Err-clause-complete : goal.returns-in-Err-clause-complete
returns-in-Err-clause-complete g c = λ told state stands disk sink.
    refusal-complete g.T.Disk.readable (g.T.Disk.world c.args.station.now) (g.T.Disk.world c.upgrade.new.disk) c.ended_by.result (refused g (goal.at.returns-in-Err-clause-complete g c).After-ended_by) told state stands disk

pub returns-in-Err-clause-at_rest : goal.returns-in-Err-clause-at_rest
returns-in-Err-clause-at_rest g c = λ is told. absurd (refused-by g (goal.at.returns-in-Err-clause-at_rest g c).After-ended_by ends.Done is)

pub returns-in-Err-clause-disk_cause : goal.returns-in-Err-clause-disk_cause
returns-in-Err-clause-disk_cause g c = λ is. refused-by g (goal.at.returns-in-Err-clause-disk_cause g c).After-ended_by ends.Disk is

pub returns-in-Err-clause-sink_cause : goal.returns-in-Err-clause-sink_cause
returns-in-Err-clause-sink_cause g c = λ is. absurd (refused-by g (goal.at.returns-in-Err-clause-sink_cause g c).After-ended_by ends.Sink is)

pub returns-in-Err-clause-disk_told : goal.returns-in-Err-clause-disk_told
returns-in-Err-clause-disk_told g c = λ other. c.upgrade.ensures.stays (λ e.
    let named : c.in-Err.fault ≡ engine.Disk = cc in
    other (c.ended_by.ensures ∙ ap end_of_engine named))

pub returns-in-Err-clause-sink_told : goal.returns-in-Err-clause-sink_told
returns-in-Err-clause-sink_told g c = λ other. c.upgrade.ensures.sink
