use Rattle.std.proofs.Common.{◌∙◌, ap, arith}
use Rattle.disk_model.specs.World.{Image}
use Rattle.disk_model.specs.declared.disk.Area.TheVariants.{Journal}
use Rattle.disk_model.proofs.Moments.{rested_then, rested_sync, quiet_by_syncs}
use Rattle.page_journal.proofs.Steps.{still_safe, none_applied, none_same, none_ready, closed_none, journal_installing, in_installing, in_finishing, recovered, recovered_same, ready_closed}
use Rattle.page_journal.proofs.recovery.recover.Goals as goal

pub returns-then-records-eq0-clause-applied : goal.returns-then-records-eq0-clause-applied
returns-then-records-eq0-clause-applied g c = λ t.
    none_applied _ _ _ c.in_ok-records.records (rested_then (rested_sync (c.in_ok-sync.ensures.told t)) (rested_sync (c.in_ok-sync-2.ensures.told t))) (rested_then (rested_then (rested_sync (c.in_ok-sync.ensures.told t)) (rested_sync (c.in_ok-sync-2.ensures.told t))) (c.in_ok-records.ensures.rested t)) (c.in_ok-records.ensures.records t) c.if-records-eq0.true

pub returns-then-records-eq0-clause-same : goal.returns-then-records-eq0-clause-same
returns-then-records-eq0-clause-same g c = λ t.
    none_same _ _ _ c.in_ok-records.records (rested_then (rested_sync (c.in_ok-sync.ensures.told t)) (rested_sync (c.in_ok-sync-2.ensures.told t))) (rested_then (rested_then (rested_sync (c.in_ok-sync.ensures.told t)) (rested_sync (c.in_ok-sync-2.ensures.told t))) (c.in_ok-records.ensures.rested t)) (c.in_ok-records.ensures.records t) c.if-records-eq0.true

pub returns-then-records-eq0-clause-ready : goal.returns-then-records-eq0-clause-ready
returns-then-records-eq0-clause-ready g c = λ t.
    none_ready _ _ _ c.in_ok-records.records (rested_then (rested_sync (c.in_ok-sync.ensures.told t)) (rested_sync (c.in_ok-sync-2.ensures.told t))) (rested_then (rested_then (rested_sync (c.in_ok-sync.ensures.told t)) (rested_sync (c.in_ok-sync-2.ensures.told t))) (c.in_ok-records.ensures.rested t)) (c.in_ok-records.ensures.records t) c.if-records-eq0.true
    (still_safe (quiet_by_syncs (c.in_ok-sync.ensures.told t).durable (rested_sync (c.in_ok-sync-2.ensures.told t)) (c.in_ok-sync-2.ensures.told t).durable) (c.in_ok-records.ensures.rested t))

pub returns-in_err-install_all-clause-any_moment : goal.returns-in_err-install_all-clause-any_moment
returns-in_err-install_all-clause-any_moment g c = λ t.
    in_installing _ _ _ c.in_ok-records.records (rested_then (rested_sync (c.in_ok-sync.ensures.told t)) (rested_sync (c.in_ok-sync-2.ensures.told t))) (rested_then (rested_then (rested_sync (c.in_ok-sync.ensures.told t)) (rested_sync (c.in_ok-sync-2.ensures.told t))) (c.in_ok-records.ensures.rested t)) (c.in_ok-records.ensures.records t) _ (c.install_all.ensures.keeps t)

pub returns-in_err-set_gate-clause-any_moment : goal.returns-in_err-set_gate-clause-any_moment
returns-in_err-set_gate-clause-any_moment g c = λ t.
    in_finishing _ _ _ c.in_ok-records.records (rested_then (rested_sync (c.in_ok-sync.ensures.told t)) (rested_sync (c.in_ok-sync-2.ensures.told t))) (rested_then (rested_then (rested_sync (c.in_ok-sync.ensures.told t)) (rested_sync (c.in_ok-sync-2.ensures.told t))) (c.in_ok-records.ensures.rested t)) (c.in_ok-records.ensures.records t) _ (c.in_ok-install_all.ensures.keeps t) c.if-records-eq0.false (c.in_ok-install_all.ensures.done t) _ (c.set_gate.ensures.keeps t)

pub returns-clause-any_moment : goal.returns-clause-any_moment
returns-clause-any_moment g c = λ t.
    in_finishing _ _ _ c.in_ok-records.records (rested_then (rested_sync (c.in_ok-sync.ensures.told t)) (rested_sync (c.in_ok-sync-2.ensures.told t))) (rested_then (rested_then (rested_sync (c.in_ok-sync.ensures.told t)) (rested_sync (c.in_ok-sync-2.ensures.told t))) (c.in_ok-records.ensures.rested t)) (c.in_ok-records.ensures.records t) _ (c.in_ok-install_all.ensures.keeps t) c.if-records-eq0.false (c.in_ok-install_all.ensures.done t) _ (c.set_gate.ensures.keeps t)

pub returns-clause-applied : goal.returns-clause-applied
returns-clause-applied g c = λ t.
    recovered _ _ _ c.in_ok-records.records (rested_then (rested_sync (c.in_ok-sync.ensures.told t)) (rested_sync (c.in_ok-sync-2.ensures.told t))) (rested_then (rested_then (rested_sync (c.in_ok-sync.ensures.told t)) (rested_sync (c.in_ok-sync-2.ensures.told t))) (c.in_ok-records.ensures.rested t)) (c.in_ok-records.ensures.records t) _ (c.in_ok-install_all.ensures.keeps t) c.if-records-eq0.false (c.in_ok-install_all.ensures.done t) _ (c.set_gate.ensures.keeps t)

pub returns-clause-same : goal.returns-clause-same
returns-clause-same g c = λ t.
    recovered_same _ _ _ c.in_ok-records.records (rested_then (rested_sync (c.in_ok-sync.ensures.told t)) (rested_sync (c.in_ok-sync-2.ensures.told t))) (rested_then (rested_then (rested_sync (c.in_ok-sync.ensures.told t)) (rested_sync (c.in_ok-sync-2.ensures.told t))) (c.in_ok-records.ensures.rested t)) (c.in_ok-records.ensures.records t) _ (c.in_ok-install_all.ensures.keeps t) c.if-records-eq0.false (c.in_ok-install_all.ensures.done t) _ (c.set_gate.ensures.keeps t) (c.in_ok-set_gate.ensures.done t)

pub returns-clause-ready : goal.returns-clause-ready
returns-clause-ready g c = λ t.
    ready_closed _ (c.in_ok-set_gate.ensures.safe t) (c.in_ok-set_gate.ensures.done t)

pub returns-in_err-sync-clause-closed : goal.returns-in_err-sync-clause-closed
returns-in_err-sync-clause-closed g c = λ t closed. rested_sync (c.in_err-sync.ensures.told t)

pub returns-in_err-sync-2-clause-closed : goal.returns-in_err-sync-2-clause-closed
returns-in_err-sync-2-clause-closed g c = λ t closed. rested_then (rested_sync (c.in_ok-sync.ensures.told t)) (rested_sync (c.in_err-sync-2.ensures.told t))

pub returns-in_err-records-clause-closed : goal.returns-in_err-records-clause-closed
returns-in_err-records-clause-closed g c = λ t closed. rested_then (rested_then (rested_sync (c.in_ok-sync.ensures.told t)) (rested_sync (c.in_ok-sync-2.ensures.told t))) (c.in_err-records.ensures.rested t)

pub returns-then-records-eq0-clause-closed : goal.returns-then-records-eq0-clause-closed
returns-then-records-eq0-clause-closed g c = λ t closed. rested_then (rested_then (rested_sync (c.in_ok-sync.ensures.told t)) (rested_sync (c.in_ok-sync-2.ensures.told t))) (c.in_ok-records.ensures.rested t)

pub returns-in_err-install_all-clause-closed : goal.returns-in_err-install_all-clause-closed
returns-in_err-install_all-clause-closed g c = λ t closed. absurd (c.if-records-eq0.false (closed_none _ _ _ c.in_ok-records.records (rested_then (rested_sync (c.in_ok-sync.ensures.told t)) (rested_sync (c.in_ok-sync-2.ensures.told t))) (rested_then (rested_then (rested_sync (c.in_ok-sync.ensures.told t)) (rested_sync (c.in_ok-sync-2.ensures.told t))) (c.in_ok-records.ensures.rested t)) (c.in_ok-records.ensures.records t) closed))

pub returns-in_err-set_gate-clause-closed : goal.returns-in_err-set_gate-clause-closed
returns-in_err-set_gate-clause-closed g c = λ t closed. absurd (c.if-records-eq0.false (closed_none _ _ _ c.in_ok-records.records (rested_then (rested_sync (c.in_ok-sync.ensures.told t)) (rested_sync (c.in_ok-sync-2.ensures.told t))) (rested_then (rested_then (rested_sync (c.in_ok-sync.ensures.told t)) (rested_sync (c.in_ok-sync-2.ensures.told t))) (c.in_ok-records.ensures.rested t)) (c.in_ok-records.ensures.records t) closed))

pub returns-clause-closed : goal.returns-clause-closed
returns-clause-closed g c = λ t closed. absurd (c.if-records-eq0.false (closed_none _ _ _ c.in_ok-records.records (rested_then (rested_sync (c.in_ok-sync.ensures.told t)) (rested_sync (c.in_ok-sync-2.ensures.told t))) (rested_then (rested_then (rested_sync (c.in_ok-sync.ensures.told t)) (rested_sync (c.in_ok-sync-2.ensures.told t))) (c.in_ok-records.ensures.rested t)) (c.in_ok-records.ensures.records t) closed))
