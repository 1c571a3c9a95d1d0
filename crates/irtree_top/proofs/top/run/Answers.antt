use Rattle.std.proofs.Common.{◌≡◌, ◌∙◌, refl, sym, ap, subst}
use Rattle.std.specs.Prelude.{Err, IsErrOf}
use Rattle.run_outcome.specs.declared.ended.Ended.{Ended}
use Rattle.run_outcome.specs.declared.ended.Ended.TheVariants as ends
use Rattle.run_outcome.specs.declared.ended.LimitFault.TheVariants as limits
use Rattle.disk_model.specs.World.{LeavesOnly}
use Rattle.irtree_top.specs.Run.{EndsBy, EndsJob, HoldsPrefix, IsInputEnd, IsLimitOf, IsLimitReached, IsRunEnd, IsWholeInput, LacksRoomFor, LeavesInput, NamesBrokenRule, ReadsNothing, SaysFront}
use Rattle.run_outcome.specs.Turn.{Done}
use Rattle.command_words.specs.Job.{Asked, asked_of}
use Rattle.irtree_top.proofs.Jobs.{decided-front, job-front}
use Rattle.irtree_top.proofs.Openings.{behind-opening, complete-end}
use Rattle.irtree_top.proofs.Upgrades.{asked-same, no-job, no-upgrade, no-words, settled-upgrade}
use Rattle.irtree_top.proofs.Verified.{upgrade-unread}
use Rattle.irtree_top.specs.Verify.{TellsBroken}
use Rattle.command_words.specs.declared.job.Action.TheVariants as actions
use Rattle.run_outcome.specs.declared.ended.StoreFault.TheVariants as stores
use Rattle.irtree_top.proofs.top.run.Goals as goal

pub returns-in-Ok-run_job-clause-done : goal.returns-in-Ok-run_job-clause-done
returns-in-Ok-run_job-clause-done g c = λ asked wants readable told state holds is.
    let same : asked_of c.in-Ok.job ≡ asked = cc (c.in-Ok.ensures.reading, wants.0) in
    subst (λ (a : Asked). EndsBy Done a state (g.S.Source.left c.args.source.now) (g.T.Disk.world c.args.station.now) (g.T.Disk.world c.run_job.new.station) × LeavesInput a.action (g.S.Source.left c.args.source.now) (g.S.Source.left c.run_job.new.source)) same (c.in-Ok-run_job.ensures.told readable told state holds)

pub returns-in-Ok-run_job-clause-front : goal.returns-in-Ok-run_job-clause-front
returns-in-Ok-run_job-clause-front g c = λ asked wants readable told state holds.
    let same : asked_of c.in-Ok.job ≡ asked = cc (c.in-Ok.ensures.reading, wants.0) in
    subst (λ (a : Asked). SaysFront a state (g.S.Source.left c.args.source.now) (g.T.Disk.world c.args.station.now) (g.T.Disk.world c.run_job.new.station)) same
    (decided-front c.transcript_is_one.ensures Done (asked_of c.in-Ok.job) state _ _ _ (c.in-Ok-run_job.ensures.told readable told state holds).0)

pub returns-in-Ok-run_job-clause-crash : goal.returns-in-Ok-run_job-clause-crash
returns-in-Ok-run_job-clause-crash g c = λ asked wants readable told state holds.
    let same : asked_of c.in-Ok.job ≡ asked = cc (c.in-Ok.ensures.reading, wants.0) in
    subst (λ (a : Asked). LeavesOnly (g.T.Disk.world c.args.station.now) (g.T.Disk.world c.run_job.new.station) (HoldsPrefix a state (g.S.Source.left c.args.source.now) (g.T.Disk.world c.args.station.now))) same (c.run_job.ensures.any_moment readable told state holds)

pub returns-in-Ok-run_job-clause-opens_few : goal.returns-in-Ok-run_job-clause-opens_few
returns-in-Ok-run_job-clause-opens_few g c = λ asked wants runs readable told state holds asks is.
    let same : asked_of c.in-Ok.job ≡ asked = cc (c.in-Ok.ensures.reading) in
    c.in-Ok-run_job.ensures.opens_few (ap (λ (a : Asked). a.action) same ∙ runs) readable told state holds asks

pub returns-in-Ok-clause-opens_few : goal.returns-in-Ok-clause-opens_few
returns-in-Ok-clause-opens_few g c = λ asked wants runs readable told state holds asks is.
    absurd (subst (λ (e : Ended). IsRunEnd g.T.Disk.readable (g.S.Source.faults c.args.source.now) (g.S.Source.faults c.run_job.new.source) (g.T.Disk.world c.args.station.now) (g.T.Disk.world c.run_job.new.station) e) is c.in-Err.ensures.cause.cause)

pub returns-in-Ok-clause-input : goal.returns-in-Ok-clause-input
returns-in-Ok-clause-input g c = λ asked wants readable told state holds fault is.
    let same : asked_of c.in-Ok.job ≡ asked = cc (c.in-Ok.ensures.reading, wants.0) in
    subst (λ (a : Asked). EndsJob {T = Unit {0}} a state (g.S.Source.left c.args.source.now) (g.S.Source.left c.run_job.new.source) (g.T.Disk.world c.args.station.now) (g.T.Disk.world c.run_job.new.station) (Err (ends.Input fault))) same
    (subst (λ (e : Ended). EndsJob {T = Unit {0}} (asked_of c.in-Ok.job) state (g.S.Source.left c.args.source.now) (g.S.Source.left c.run_job.new.source) (g.T.Disk.world c.args.station.now) (g.T.Disk.world c.run_job.new.station) (Err e)) is (c.in-Err.ensures.told readable told state holds))

pub returns-in-Ok-clause-limit : goal.returns-in-Ok-clause-limit
returns-in-Ok-clause-limit g c = λ asked wants readable told state holds fault is.
    let same : asked_of c.in-Ok.job ≡ asked = cc (c.in-Ok.ensures.reading, wants.0) in
    subst (λ (a : Asked). EndsJob {T = Unit {0}} a state (g.S.Source.left c.args.source.now) (g.S.Source.left c.run_job.new.source) (g.T.Disk.world c.args.station.now) (g.T.Disk.world c.run_job.new.station) (Err (ends.Limit fault))) same
    (subst (λ (e : Ended). EndsJob {T = Unit {0}} (asked_of c.in-Ok.job) state (g.S.Source.left c.args.source.now) (g.S.Source.left c.run_job.new.source) (g.T.Disk.world c.args.station.now) (g.T.Disk.world c.run_job.new.station) (Err e)) is (c.in-Err.ensures.told readable told state holds))

pub returns-in-Ok-clause-source : goal.returns-in-Ok-clause-source
returns-in-Ok-clause-source g c = λ asked wants readable told state holds is.
    let same : asked_of c.in-Ok.job ≡ asked = cc (c.in-Ok.ensures.reading, wants.0) in
    (subst (λ (a : Asked). EndsJob {T = Unit {0}} a state (g.S.Source.left c.args.source.now) (g.S.Source.left c.run_job.new.source) (g.T.Disk.world c.args.station.now) (g.T.Disk.world c.run_job.new.station) (Err ends.Source)) same
    (subst (λ (e : Ended). EndsJob {T = Unit {0}} (asked_of c.in-Ok.job) state (g.S.Source.left c.args.source.now) (g.S.Source.left c.run_job.new.source) (g.T.Disk.world c.args.station.now) (g.T.Disk.world c.run_job.new.station) (Err e)) is (c.in-Err.ensures.told readable told state holds))).0

pub returns-in-Ok-clause-front : goal.returns-in-Ok-clause-front
returns-in-Ok-clause-front g c = λ asked wants readable told state holds.
    let same : asked_of c.in-Ok.job ≡ asked = cc (c.in-Ok.ensures.reading, wants.0) in
    subst (λ (a : Asked). SaysFront a state (g.S.Source.left c.args.source.now) (g.T.Disk.world c.args.station.now) (g.T.Disk.world c.run_job.new.station)) same
    (job-front c.transcript_is_one.ensures (Unit {0}) (asked_of c.in-Ok.job) state (g.S.Source.left c.args.source.now) (g.S.Source.left c.run_job.new.source) (g.T.Disk.world c.args.station.now) (g.T.Disk.world c.run_job.new.station) c.in-Err.end (c.in-Err.ensures.told readable told state holds))

pub returns-in-Ok-clause-crash : goal.returns-in-Ok-clause-crash
returns-in-Ok-clause-crash g c = λ asked wants readable told state holds.
    let same : asked_of c.in-Ok.job ≡ asked = cc (c.in-Ok.ensures.reading, wants.0) in
    subst (λ (a : Asked). LeavesOnly (g.T.Disk.world c.args.station.now) (g.T.Disk.world c.run_job.new.station) (HoldsPrefix a state (g.S.Source.left c.args.source.now) (g.T.Disk.world c.args.station.now))) same (c.run_job.ensures.any_moment readable told state holds)

pub returns-in-Ok-run_job-clause-opened : goal.returns-in-Ok-run_job-clause-opened
returns-in-Ok-run_job-clause-opened g c = λ words behind readable. c.in-Ok-run_job.ensures.cause.opened readable

pub returns-in-Ok-clause-opened : goal.returns-in-Ok-clause-opened
returns-in-Ok-clause-opened g c = λ words behind readable.
    behind-opening g.T.Disk.readable (g.S.Source.faults c.args.source.now) (g.S.Source.faults c.run_job.new.source) (g.T.Disk.world c.args.station.now) (g.T.Disk.world c.run_job.new.station) c.in-Err.end c.in-Err.ensures.cause.cause behind readable

pub returns-in-Ok-run_job-clause-whole : goal.returns-in-Ok-run_job-clause-whole
returns-in-Ok-run_job-clause-whole g c = λ asked wants readable is.
    let same : asked_of c.in-Ok.job ≡ asked = cc (c.in-Ok.ensures.reading, wants.0) in
    subst (λ (a : Asked). LeavesInput a.action (g.S.Source.left c.args.source.now) (g.S.Source.left c.run_job.new.source) × IsWholeInput a.action a.text (g.S.Source.left c.args.source.now)) same (c.in-Ok-run_job.ensures.whole readable)

pub returns-in-Ok-clause-input_end : goal.returns-in-Ok-clause-input_end
returns-in-Ok-clause-input_end g c = λ asked wants readable fault is.
    let same : asked_of c.in-Ok.job ≡ asked = cc (c.in-Ok.ensures.reading, wants.0) in
    let named : IsErrOf c.run_job.result (ends.Input fault) = cc in
    subst (λ (a : Asked). IsInputEnd a.action a.text (g.S.Source.left c.args.source.now) fault) same (c.run_job.ensures.input readable fault named)

pub returns-in-Ok-clause-limits : goal.returns-in-Ok-clause-limits
returns-in-Ok-clause-limits g c = λ asked wants fault is.
    let same : asked_of c.in-Ok.job ≡ asked = cc (c.in-Ok.ensures.reading, wants.0) in
    let named : IsErrOf c.run_job.result (ends.Limit fault) = cc in
    subst (λ (a : Asked). IsLimitOf a.action fault) same (c.run_job.ensures.limits fault named)

pub returns-in-Ok-clause-reached : goal.returns-in-Ok-clause-reached
returns-in-Ok-clause-reached g c = λ asked wants readable told fault is.
    let same : asked_of c.in-Ok.job ≡ asked = cc (c.in-Ok.ensures.reading, wants.0) in
    let named : IsErrOf c.run_job.result (ends.Limit fault) = cc in
    subst (λ (a : Asked). IsLimitReached fault a (g.S.Source.left c.args.source.now) (g.T.Disk.world c.args.station.now).seen) same (c.run_job.ensures.reached readable told fault named)

pub returns-in-Ok-run_job-clause-unread : goal.returns-in-Ok-run_job-clause-unread
returns-in-Ok-run_job-clause-unread g c = λ asked wants makes.
    let same : asked_of c.in-Ok.job ≡ asked = cc (c.in-Ok.ensures.reading) in
    ((c.in-Ok-run_job.ensures.unread (subst (λ (a : Asked). ReadsNothing a.action) (sym same) makes)).0, tt)

pub returns-in-Ok-clause-unread : goal.returns-in-Ok-clause-unread
returns-in-Ok-clause-unread g c = λ asked wants makes.
    let same : asked_of c.in-Ok.job ≡ asked = cc (c.in-Ok.ensures.reading) in
    c.in-Err.ensures.unread (subst (λ (a : Asked). ReadsNothing a.action) (sym same) makes)

pub returns-in-Ok-run_job-clause-disk_told : goal.returns-in-Ok-run_job-clause-disk_told
returns-in-Ok-run_job-clause-disk_told g c = λ other. c.in-Ok-run_job.ensures.cause.keeps.disk (λ e. absurd (cc))

pub returns-in-Ok-clause-disk_told : goal.returns-in-Ok-clause-disk_told
returns-in-Ok-clause-disk_told g c = λ other. c.in-Err.ensures.cause.keeps.disk (λ e. other (cc))

pub returns-in-Ok-run_job-clause-source_told : goal.returns-in-Ok-run_job-clause-source_told
returns-in-Ok-run_job-clause-source_told g c = λ other read. c.in-Ok-run_job.ensures.cause.reads (λ e. absurd (cc)) (λ e. absurd (cc))

pub returns-in-Ok-clause-source_told : goal.returns-in-Ok-clause-source_told
returns-in-Ok-clause-source_told g c = λ other read. c.in-Err.ensures.cause.reads (λ e. other (cc)) (λ e. read (cc))

pub returns-in-Ok-run_job-clause-sink_told : goal.returns-in-Ok-run_job-clause-sink_told
returns-in-Ok-run_job-clause-sink_told g c = λ other said. c.in-Ok-run_job.ensures.cause.keeps.sink (λ e. absurd (cc)) (λ e. absurd (cc))

pub returns-in-Ok-clause-sink_told : goal.returns-in-Ok-clause-sink_told
returns-in-Ok-clause-sink_told g c = λ other said. c.in-Err.ensures.cause.keeps.sink (λ e. other (cc)) (λ e. said (cc))

pub returns-in-Ok-clause-complete : goal.returns-in-Ok-clause-complete
returns-in-Ok-clause-complete g c = λ asked wants told state holds source disk sink.
    let same : asked_of c.in-Ok.job ≡ asked = cc (c.in-Ok.ensures.reading, wants.0) in
    complete-end g.T.Disk.readable (g.S.Source.faults c.args.source.now) (g.S.Source.faults c.run_job.new.source) (g.T.Disk.world c.args.station.now) (g.T.Disk.world c.run_job.new.station) asked.action state told holds source disk sink c.in-Err.end
    (λ fault is. let named : IsErrOf c.run_job.result (ends.Limit fault) = cc in subst (λ (a : Asked). IsLimitOf a.action fault) same (c.run_job.ensures.limits fault named))
    c.in-Err.ensures.cause.cause

pub returns-in-Ok-run_job-clause-broken_rule : goal.returns-in-Ok-run_job-clause-broken_rule
returns-in-Ok-run_job-clause-broken_rule g c = λ asked wants runs readable told reads damage is. absurd (cc)

pub returns-in-Ok-clause-broken_rule : goal.returns-in-Ok-clause-broken_rule
returns-in-Ok-clause-broken_rule g c = λ asked wants runs readable told reads damage is.
    let same : asked_of c.in-Ok.job ≡ asked = cc (c.in-Ok.ensures.reading) in
    subst (λ (e : Ended). NamesBrokenRule (g.T.Disk.world c.args.station.now).seen e) is (c.in-Err.ensures.broken_rule (ap (λ (a : Asked). a.action) same ∙ runs) readable told reads)

pub returns-in-Ok-clause-lacks : goal.returns-in-Ok-clause-lacks
returns-in-Ok-clause-lacks g c = λ asked wants told is.
    let same : asked_of c.in-Ok.job ≡ asked = cc (c.in-Ok.ensures.reading, wants.0) in
    let named : IsErrOf c.run_job.result (ends.Limit limits.NoRoom) = cc in
    let station = c.run_job.new.station in
    subst (λ (a : Asked). LacksRoomFor a.action a.batch (g.T.Disk.room_of station) (g.T.Disk.world station).seen) same (c.run_job.ensures.lacks told named)

pub returns-in-Ok-run_job-clause-unopened : goal.returns-in-Ok-run_job-clause-unopened
returns-in-Ok-run_job-clause-unopened g c = λ words. c.run_job.ensures.unopened

pub returns-in-Ok-clause-unopened : goal.returns-in-Ok-clause-unopened
returns-in-Ok-clause-unopened g c = λ words. c.run_job.ensures.unopened

pub returns-in-Ok-run_job-clause-at_rest : goal.returns-in-Ok-run_job-clause-at_rest
returns-in-Ok-run_job-clause-at_rest g c = λ words behind told. c.in-Ok-run_job.ensures.at_rest told

pub returns-in-Ok-clause-at_rest : goal.returns-in-Ok-clause-at_rest
returns-in-Ok-clause-at_rest g c = λ words behind told. c.in-Err.ensures.at_rest told behind

-- ---- a job is no upgrade

pub returns-in-Ok-run_job-clause-upgraded : goal.returns-in-Ok-run_job-clause-upgraded
returns-in-Ok-run_job-clause-upgraded g c = λ asked wants. absurd (no-upgrade _ _ asked c.in-Ok.ensures.reading c.in_default.not-Upgrade wants)

pub returns-in-Ok-run_job-clause-present : goal.returns-in-Ok-run_job-clause-present
returns-in-Ok-run_job-clause-present g c = λ asked wants. absurd (no-upgrade _ _ asked c.in-Ok.ensures.reading c.in_default.not-Upgrade wants)

pub returns-in-Ok-run_job-clause-upgrading : goal.returns-in-Ok-run_job-clause-upgrading
returns-in-Ok-run_job-clause-upgrading g c = λ asked wants. absurd (no-upgrade _ _ asked c.in-Ok.ensures.reading c.in_default.not-Upgrade wants)

pub returns-in-Ok-run_job-clause-still : goal.returns-in-Ok-run_job-clause-still
returns-in-Ok-run_job-clause-still g c = λ asked wants. absurd (no-upgrade _ _ asked c.in-Ok.ensures.reading c.in_default.not-Upgrade wants)

pub returns-in-Ok-run_job-clause-upgrade_front : goal.returns-in-Ok-run_job-clause-upgrade_front
returns-in-Ok-run_job-clause-upgrade_front g c = λ asked wants. absurd (no-upgrade _ _ asked c.in-Ok.ensures.reading c.in_default.not-Upgrade wants)

pub returns-in-Ok-run_job-clause-upgrade_store : goal.returns-in-Ok-run_job-clause-upgrade_store
returns-in-Ok-run_job-clause-upgrade_store g c = λ asked wants. absurd (no-upgrade _ _ asked c.in-Ok.ensures.reading c.in_default.not-Upgrade wants)

pub returns-in-Ok-run_job-clause-upgrade_opened : goal.returns-in-Ok-run_job-clause-upgrade_opened
returns-in-Ok-run_job-clause-upgrade_opened g c = λ asked wants. absurd (no-upgrade _ _ asked c.in-Ok.ensures.reading c.in_default.not-Upgrade wants)

pub returns-in-Ok-run_job-clause-upgrade_unread : goal.returns-in-Ok-run_job-clause-upgrade_unread
returns-in-Ok-run_job-clause-upgrade_unread g c = λ asked wants. absurd (no-upgrade _ _ asked c.in-Ok.ensures.reading c.in_default.not-Upgrade wants)

pub returns-in-Ok-run_job-clause-upgrade_rest : goal.returns-in-Ok-run_job-clause-upgrade_rest
returns-in-Ok-run_job-clause-upgrade_rest g c = λ asked wants. absurd (no-upgrade _ _ asked c.in-Ok.ensures.reading c.in_default.not-Upgrade wants)

pub returns-in-Ok-run_job-clause-upgrade_complete : goal.returns-in-Ok-run_job-clause-upgrade_complete
returns-in-Ok-run_job-clause-upgrade_complete g c = λ asked wants. absurd (no-upgrade _ _ asked c.in-Ok.ensures.reading c.in_default.not-Upgrade wants)

pub returns-in-Ok-clause-upgraded : goal.returns-in-Ok-clause-upgraded
returns-in-Ok-clause-upgraded g c = λ asked wants. absurd (no-upgrade _ _ asked c.in-Ok.ensures.reading c.in_default.not-Upgrade wants)

pub returns-in-Ok-clause-present : goal.returns-in-Ok-clause-present
returns-in-Ok-clause-present g c = λ asked wants. absurd (no-upgrade _ _ asked c.in-Ok.ensures.reading c.in_default.not-Upgrade wants)

pub returns-in-Ok-clause-upgrading : goal.returns-in-Ok-clause-upgrading
returns-in-Ok-clause-upgrading g c = λ asked wants. absurd (no-upgrade _ _ asked c.in-Ok.ensures.reading c.in_default.not-Upgrade wants)

pub returns-in-Ok-clause-still : goal.returns-in-Ok-clause-still
returns-in-Ok-clause-still g c = λ asked wants. absurd (no-upgrade _ _ asked c.in-Ok.ensures.reading c.in_default.not-Upgrade wants)

pub returns-in-Ok-clause-upgrade_front : goal.returns-in-Ok-clause-upgrade_front
returns-in-Ok-clause-upgrade_front g c = λ asked wants. absurd (no-upgrade _ _ asked c.in-Ok.ensures.reading c.in_default.not-Upgrade wants)

pub returns-in-Ok-clause-upgrade_store : goal.returns-in-Ok-clause-upgrade_store
returns-in-Ok-clause-upgrade_store g c = λ asked wants. absurd (no-upgrade _ _ asked c.in-Ok.ensures.reading c.in_default.not-Upgrade wants)

pub returns-in-Ok-clause-upgrade_opened : goal.returns-in-Ok-clause-upgrade_opened
returns-in-Ok-clause-upgrade_opened g c = λ asked wants. absurd (no-upgrade _ _ asked c.in-Ok.ensures.reading c.in_default.not-Upgrade wants)

pub returns-in-Ok-clause-upgrade_unread : goal.returns-in-Ok-clause-upgrade_unread
returns-in-Ok-clause-upgrade_unread g c = λ asked wants. absurd (no-upgrade _ _ asked c.in-Ok.ensures.reading c.in_default.not-Upgrade wants)

pub returns-in-Ok-clause-upgrade_rest : goal.returns-in-Ok-clause-upgrade_rest
returns-in-Ok-clause-upgrade_rest g c = λ asked wants. absurd (no-upgrade _ _ asked c.in-Ok.ensures.reading c.in_default.not-Upgrade wants)

pub returns-in-Ok-clause-upgrade_complete : goal.returns-in-Ok-clause-upgrade_complete
returns-in-Ok-clause-upgrade_complete g c = λ asked wants. absurd (no-upgrade _ _ asked c.in-Ok.ensures.reading c.in_default.not-Upgrade wants)

pub returns-in-Ok-run_job-clause-upgrade_lacks : goal.returns-in-Ok-run_job-clause-upgrade_lacks
returns-in-Ok-run_job-clause-upgrade_lacks g c = λ asked wants. absurd (no-upgrade _ _ asked c.in-Ok.ensures.reading c.in_default.not-Upgrade wants)

pub returns-in-Ok-run_job-clause-upgrade_left : goal.returns-in-Ok-run_job-clause-upgrade_left
returns-in-Ok-run_job-clause-upgrade_left g c = λ asked wants. absurd (no-upgrade _ _ asked c.in-Ok.ensures.reading c.in_default.not-Upgrade wants)

pub returns-in-Ok-run_job-clause-upgrade_unopened : goal.returns-in-Ok-run_job-clause-upgrade_unopened
returns-in-Ok-run_job-clause-upgrade_unopened g c = λ asked wants. absurd (no-upgrade _ _ asked c.in-Ok.ensures.reading c.in_default.not-Upgrade wants)

pub returns-in-Ok-clause-upgrade_lacks : goal.returns-in-Ok-clause-upgrade_lacks
returns-in-Ok-clause-upgrade_lacks g c = λ asked wants. absurd (no-upgrade _ _ asked c.in-Ok.ensures.reading c.in_default.not-Upgrade wants)

pub returns-in-Ok-clause-upgrade_left : goal.returns-in-Ok-clause-upgrade_left
returns-in-Ok-clause-upgrade_left g c = λ asked wants. absurd (no-upgrade _ _ asked c.in-Ok.ensures.reading c.in_default.not-Upgrade wants)

pub returns-in-Ok-clause-upgrade_unopened : goal.returns-in-Ok-clause-upgrade_unopened
returns-in-Ok-clause-upgrade_unopened g c = λ asked wants. absurd (no-upgrade _ _ asked c.in-Ok.ensures.reading c.in_default.not-Upgrade wants)

-- ---- an upgrade is no job

pub returns-in-Upgrade-clause-done : goal.returns-in-Upgrade-clause-done
returns-in-Upgrade-clause-done g c = λ asked wants. absurd (no-job _ _ asked c.in-Ok.ensures.reading c.in-Upgrade.is wants)

pub returns-in-Upgrade-clause-input : goal.returns-in-Upgrade-clause-input
returns-in-Upgrade-clause-input g c = λ asked wants. absurd (no-job _ _ asked c.in-Ok.ensures.reading c.in-Upgrade.is wants)

pub returns-in-Upgrade-clause-limit : goal.returns-in-Upgrade-clause-limit
returns-in-Upgrade-clause-limit g c = λ asked wants. absurd (no-job _ _ asked c.in-Ok.ensures.reading c.in-Upgrade.is wants)

pub returns-in-Upgrade-clause-front : goal.returns-in-Upgrade-clause-front
returns-in-Upgrade-clause-front g c = λ asked wants. absurd (no-job _ _ asked c.in-Ok.ensures.reading c.in-Upgrade.is wants)

pub returns-in-Upgrade-clause-source : goal.returns-in-Upgrade-clause-source
returns-in-Upgrade-clause-source g c = λ asked wants. absurd (no-job _ _ asked c.in-Ok.ensures.reading c.in-Upgrade.is wants)

pub returns-in-Upgrade-clause-crash : goal.returns-in-Upgrade-clause-crash
returns-in-Upgrade-clause-crash g c = λ asked wants. absurd (no-job _ _ asked c.in-Ok.ensures.reading c.in-Upgrade.is wants)

pub returns-in-Upgrade-clause-whole : goal.returns-in-Upgrade-clause-whole
returns-in-Upgrade-clause-whole g c = λ asked wants. absurd (no-job _ _ asked c.in-Ok.ensures.reading c.in-Upgrade.is wants)

pub returns-in-Upgrade-clause-input_end : goal.returns-in-Upgrade-clause-input_end
returns-in-Upgrade-clause-input_end g c = λ asked wants. absurd (no-job _ _ asked c.in-Ok.ensures.reading c.in-Upgrade.is wants)

pub returns-in-Upgrade-clause-limits : goal.returns-in-Upgrade-clause-limits
returns-in-Upgrade-clause-limits g c = λ asked wants. absurd (no-job _ _ asked c.in-Ok.ensures.reading c.in-Upgrade.is wants)

pub returns-in-Upgrade-clause-reached : goal.returns-in-Upgrade-clause-reached
returns-in-Upgrade-clause-reached g c = λ asked wants. absurd (no-job _ _ asked c.in-Ok.ensures.reading c.in-Upgrade.is wants)

pub returns-in-Upgrade-clause-lacks : goal.returns-in-Upgrade-clause-lacks
returns-in-Upgrade-clause-lacks g c = λ asked wants. absurd (no-job _ _ asked c.in-Ok.ensures.reading c.in-Upgrade.is wants)

pub returns-in-Upgrade-clause-complete : goal.returns-in-Upgrade-clause-complete
returns-in-Upgrade-clause-complete g c = λ asked wants. absurd (no-job _ _ asked c.in-Ok.ensures.reading c.in-Upgrade.is wants)

pub returns-in-Upgrade-clause-store : goal.returns-in-Upgrade-clause-store
returns-in-Upgrade-clause-store g c = λ wants. absurd (no-words _ _ c.in-Ok.ensures.reading c.in-Upgrade.is wants)

pub returns-in-Upgrade-clause-opened : goal.returns-in-Upgrade-clause-opened
returns-in-Upgrade-clause-opened g c = λ wants. absurd (no-words _ _ c.in-Ok.ensures.reading c.in-Upgrade.is wants)

pub returns-in-Upgrade-clause-left_alone : goal.returns-in-Upgrade-clause-left_alone
returns-in-Upgrade-clause-left_alone g c = λ wants. absurd (no-words _ _ c.in-Ok.ensures.reading c.in-Upgrade.is wants)

pub returns-in-Upgrade-clause-unopened : goal.returns-in-Upgrade-clause-unopened
returns-in-Upgrade-clause-unopened g c = λ wants. absurd (no-words _ _ c.in-Ok.ensures.reading c.in-Upgrade.is wants)

pub returns-in-Upgrade-clause-at_rest : goal.returns-in-Upgrade-clause-at_rest
returns-in-Upgrade-clause-at_rest g c = λ wants. absurd (no-words _ _ c.in-Ok.ensures.reading c.in-Upgrade.is wants)

-- ---- an upgrade

pub returns-in-Upgrade-clause-upgraded : goal.returns-in-Upgrade-clause-upgraded
returns-in-Upgrade-clause-upgraded g c = λ asked wants. c.run_upgrade.ensures.upgraded

pub returns-in-Upgrade-clause-present : goal.returns-in-Upgrade-clause-present
returns-in-Upgrade-clause-present g c = λ asked wants. c.run_upgrade.ensures.present

pub returns-in-Upgrade-clause-upgrading : goal.returns-in-Upgrade-clause-upgrading
returns-in-Upgrade-clause-upgrading g c = λ asked wants. c.run_upgrade.ensures.upgrading

pub returns-in-Upgrade-clause-still : goal.returns-in-Upgrade-clause-still
returns-in-Upgrade-clause-still g c = λ asked wants. c.run_upgrade.ensures.still

pub returns-in-Upgrade-clause-upgrade_front : goal.returns-in-Upgrade-clause-upgrade_front
returns-in-Upgrade-clause-upgrade_front g c = λ asked wants. c.run_upgrade.ensures.front

pub returns-in-Upgrade-clause-upgrade_store : goal.returns-in-Upgrade-clause-upgrade_store
returns-in-Upgrade-clause-upgrade_store g c = λ asked wants. c.run_upgrade.ensures.broken

pub returns-in-Upgrade-clause-upgrade_opened : goal.returns-in-Upgrade-clause-upgrade_opened
returns-in-Upgrade-clause-upgrade_opened g c = λ asked wants. c.run_upgrade.ensures.opened

pub returns-in-Upgrade-clause-upgrade_lacks : goal.returns-in-Upgrade-clause-upgrade_lacks
returns-in-Upgrade-clause-upgrade_lacks g c = λ asked wants. c.run_upgrade.ensures.lacks

pub returns-in-Upgrade-clause-upgrade_left : goal.returns-in-Upgrade-clause-upgrade_left
returns-in-Upgrade-clause-upgrade_left g c = λ asked wants. c.run_upgrade.ensures.left

pub returns-in-Upgrade-clause-upgrade_unopened : goal.returns-in-Upgrade-clause-upgrade_unopened
returns-in-Upgrade-clause-upgrade_unopened g c = λ asked wants. c.run_upgrade.ensures.unopened

pub returns-in-Upgrade-clause-upgrade_unread : goal.returns-in-Upgrade-clause-upgrade_unread
returns-in-Upgrade-clause-upgrade_unread g c = λ asked wants. (refl, c.run_upgrade.ensures.ends)

pub returns-in-Upgrade-clause-upgrade_rest : goal.returns-in-Upgrade-clause-upgrade_rest
returns-in-Upgrade-clause-upgrade_rest g c = λ asked wants. c.run_upgrade.ensures.at_rest

pub returns-in-Upgrade-clause-upgrade_complete : goal.returns-in-Upgrade-clause-upgrade_complete
returns-in-Upgrade-clause-upgrade_complete g c = λ asked wants. c.run_upgrade.ensures.complete

pub returns-in-Upgrade-clause-settled : goal.returns-in-Upgrade-clause-settled
returns-in-Upgrade-clause-settled g c = λ source disk sink.
    settled-upgrade c.run_upgrade.result c.run_upgrade.ensures.ends (λ is. disk (c.run_upgrade.ensures.disk_cause is)) (λ is. sink (c.run_upgrade.ensures.sink_cause is))

-- ---- a check

pub returns-in-Ok-run_job-clause-verified : goal.returns-in-Ok-run_job-clause-verified
returns-in-Ok-run_job-clause-verified g c = λ asked wants verifies told is.
    let same : asked_of c.in-Ok.job ≡ asked = cc (c.in-Ok.ensures.reading) in
    c.in-Ok-run_job.ensures.verified (ap (λ (a : Asked). a.action) same ∙ verifies) told

pub returns-in-Ok-clause-verified : goal.returns-in-Ok-clause-verified
returns-in-Ok-clause-verified g c = λ asked wants verifies told is.
    absurd (subst (λ (e : Ended). IsRunEnd g.T.Disk.readable (g.S.Source.faults c.args.source.now) (g.S.Source.faults c.run_job.new.source) (g.T.Disk.world c.args.station.now) (g.T.Disk.world c.run_job.new.station) e) is c.in-Err.ensures.cause.cause)

pub returns-in-Ok-run_job-clause-named : goal.returns-in-Ok-run_job-clause-named
returns-in-Ok-run_job-clause-named g c = λ asked wants verifies told damage is. absurd (cc)

pub returns-in-Ok-clause-named : goal.returns-in-Ok-clause-named
returns-in-Ok-clause-named g c = λ asked wants verifies told damage is.
    let same : asked_of c.in-Ok.job ≡ asked = cc (c.in-Ok.ensures.reading) in
    c.run_job.ensures.named (ap (λ (a : Asked). a.action) same ∙ verifies) told damage (cc)

pub returns-in-Upgrade-clause-unread : goal.returns-in-Upgrade-clause-unread
returns-in-Upgrade-clause-unread g c = λ asked wants unread. (refl, upgrade-unread c.run_upgrade.result c.run_upgrade.ensures.ends)

pub returns-in-Upgrade-clause-verified : goal.returns-in-Upgrade-clause-verified
returns-in-Upgrade-clause-verified g c = λ asked wants verifies told is.
    let other : actions.Upgrade ≡ actions.Verify = sym c.in-Upgrade.is ∙ ap (λ (a : Asked). a.action) (asked-same _ _ asked c.in-Ok.ensures.reading wants) ∙ verifies in absurd (cc)

pub returns-in-Upgrade-clause-named : goal.returns-in-Upgrade-clause-named
returns-in-Upgrade-clause-named g c = λ asked wants verifies told damage is.
    let other : actions.Upgrade ≡ actions.Verify = sym c.in-Upgrade.is ∙ ap (λ (a : Asked). a.action) (asked-same _ _ asked c.in-Ok.ensures.reading wants) ∙ verifies in absurd (cc)
