use Rattle.std.proofs.Common.{◌≡◌, ℕ, max, [], List, OnOk, refl, sym, subst, ◌∙◌, arith}
use Rattle.std.specs.Prelude.{Option, Result, Err, IfErr, option_map, string_bytes}
use Rattle.disk_model.specs.World.{LeavesOnly}
use Rattle.disk_model.proofs.Replays.{on_ok_from}
use Rattle.load_run.specs.Loading.{EndsLoad}
use Rattle.run_outcome.specs.Causes.{IsEngineEnd, LacksRoomIn}
use Rattle.run_outcome.specs.Left.{LeftByLoad}
use Rattle.run_outcome.specs.declared.ended.Ended.{Ended}
use Rattle.run_outcome.specs.Load.{GivesItems, IsTaken, ReachesLimit}
use Rattle.command_words.specs.Job.{asked_of}
use Rattle.command_words.specs.declared.job.Action.{Action}
use Rattle.command_words.specs.declared.job.Action.TheVariants as actions
use Rattle.irtree_top.specs.Run.{IsInputEnd, IsLimitOf, IsWholeInput, LacksRoomFor, LeavesInput, ReachesLimitBy, ReadsNothing}
use Rattle.load_run.proofs.Causes.{job-of-engine}
use Rattle.irtree_top.proofs.Asking.{script-opens}
use Rattle.irtree_top.proofs.Crashes.{load-left, make-left, script-left, verify-left}
use Rattle.irtree_top.proofs.Jobs.{engine-unread, load-ends, make-ends, script-ends, verify-ends}
use Rattle.irtree_top.proofs.serve.act.Goals as goal

pub returns-in-Run-clause-told : goal.returns-in-Run-clause-told
returns-in-Run-clause-told g c = λ readable told state holds.
    script-ends (asked_of c.args.job.now) state (g.S.Source.left c.args.source.now) c.in-Run.is (g.S.Source.left c.run_script.new.source) (g.T.Disk.world c.args.engine.now.store.disk.now) (g.T.Disk.world c.run_script.new.engine.store.disk.now) c.run_script.result
    (c.run_script.ensures.told readable told state holds)

pub returns-in-Run-clause-any_moment : goal.returns-in-Run-clause-any_moment
returns-in-Run-clause-any_moment g c = λ readable told state holds.
    script-left (asked_of c.args.job.now) state (g.S.Source.left c.args.source.now) c.requires.some c.in-Run.is (g.T.Disk.world c.args.engine.now.store.disk.now) (g.T.Disk.world c.run_script.new.engine.store.disk.now) (c.run_script.ensures.any_moment readable told state holds)

pub returns-in-Run-clause-opens_few : goal.returns-in-Run-clause-opens_few
returns-in-Run-clause-opens_few g c = λ runs readable told state holds asks.
    script-opens state (g.S.Source.left c.args.source.now) c.run_script.result (g.T.Disk.world c.args.engine.now.store.disk.now) (g.T.Disk.world c.run_script.new.engine.store.disk.now) (c.run_script.ensures.opens_few readable told state holds asks)

pub returns-in-Load-clause-opens_few : goal.returns-in-Load-clause-opens_few
returns-in-Load-clause-opens_few g c = λ runs readable told state holds asks. let loads : actions.Load ≡ actions.Run = sym c.in-Load.is ∙ runs in absurd (cc)

pub returns-in-Make-clause-opens_few : goal.returns-in-Make-clause-opens_few
returns-in-Make-clause-opens_few g c = λ runs readable told state holds asks. let makes : actions.Make ≡ actions.Run = sym c.in-Make.is ∙ runs in absurd (cc)

pub returns-in-Load-clause-told : goal.returns-in-Load-clause-told
returns-in-Load-clause-told g c = λ readable told state holds.
    let old = g.T.Disk.world c.args.engine.now.store.disk.now in
    let new = g.T.Disk.world c.run_load.new.engine.store.disk.now in
    load-ends c.outcome_is_one.ensures (asked_of c.args.job.now) state (g.S.Source.left c.args.source.now) c.in-Load.is _ (g.S.Source.left c.run_load.new.source) old new c.run_load.result
    (subst (λ (only : Option (List ℕ)). EndsLoad c.args.job.now.batch only state (g.S.Source.left c.args.source.now) (g.S.Source.left c.run_load.new.source) old new c.run_load.result) c.property_of-only.ensures (c.run_load.ensures.told readable told state holds))

pub returns-in-Load-clause-any_moment : goal.returns-in-Load-clause-any_moment
returns-in-Load-clause-any_moment g c = λ readable told state holds.
    let old = g.T.Disk.world c.args.engine.now.store.disk.now in
    let new = g.T.Disk.world c.run_load.new.engine.store.disk.now in
    load-left (asked_of c.args.job.now) state (g.S.Source.left c.args.source.now) c.requires.some c.outcome_is_one.ensures c.in-Load.is old new
    (subst (λ (only : Option (List ℕ)). LeavesOnly old new (LeftByLoad c.args.job.now.batch only state (g.S.Source.left c.args.source.now) old.said)) c.property_of-only.ensures (c.run_load.ensures.any_moment readable told state holds))

pub returns-in-Run-clause-input : goal.returns-in-Run-clause-input
returns-in-Run-clause-input g c = λ readable fault is.
    subst (λ (a : Action). IsInputEnd a (option_map string_bytes c.args.job.now.text) (g.S.Source.left c.args.source.now) fault) (sym c.in-Run.is) (c.run_script.ensures.input readable fault is)

pub returns-in-Run-clause-whole : goal.returns-in-Run-clause-whole
returns-in-Run-clause-whole g c = λ readable.
    subst (λ (a : Action). OnOk c.run_script.result (LeavesInput a (g.S.Source.left c.args.source.now) (g.S.Source.left c.run_script.new.source) × IsWholeInput a (option_map string_bytes c.args.job.now.text) (g.S.Source.left c.args.source.now))) (sym c.in-Run.is) (c.run_script.ensures.whole readable)

pub returns-in-Run-clause-limits : goal.returns-in-Run-clause-limits
returns-in-Run-clause-limits g c = λ fault is. subst (λ (a : Action). IsLimitOf a fault) (sym c.in-Run.is) (c.run_script.ensures.limit fault is)

pub returns-in-Run-clause-reached : goal.returns-in-Run-clause-reached
returns-in-Run-clause-reached g c = λ readable fault is.
    let head = c.args.engine.now.store.current.head in
    subst (λ (a : Action). ReachesLimitBy a (asked_of c.args.job.now) fault head.live head.number (g.S.Source.left c.args.source.now)) (sym c.in-Run.is) (c.run_script.ensures.limit fault is)

pub returns-in-Load-clause-input : goal.returns-in-Load-clause-input
returns-in-Load-clause-input g c = λ readable fault is.
    let taken = subst (λ (only : Option (List ℕ)). IsTaken only (g.S.Source.left c.args.source.now) (Err fault)) c.property_of-only.ensures (c.run_load.ensures.input readable fault is) in
    subst (λ (a : Action). IsInputEnd a (option_map string_bytes c.args.job.now.text) (g.S.Source.left c.args.source.now) fault) (sym c.in-Load.is) taken

pub returns-in-Load-clause-whole : goal.returns-in-Load-clause-whole
returns-in-Load-clause-whole g c = λ readable.
    let given = subst (λ (only : Option (List ℕ)). OnOk c.run_load.result ((g.S.Source.left c.run_load.new.source ≡ []) × GivesItems only (g.S.Source.left c.args.source.now))) c.property_of-only.ensures (c.run_load.ensures.whole readable) in
    subst (λ (a : Action). OnOk c.run_load.result (LeavesInput a (g.S.Source.left c.args.source.now) (g.S.Source.left c.run_load.new.source) × IsWholeInput a (option_map string_bytes c.args.job.now.text) (g.S.Source.left c.args.source.now))) (sym c.in-Load.is) given

pub returns-in-Load-clause-limits : goal.returns-in-Load-clause-limits
returns-in-Load-clause-limits g c = λ fault is. subst (λ (a : Action). IsLimitOf a fault) (sym c.in-Load.is) tt

pub returns-in-Load-clause-reached : goal.returns-in-Load-clause-reached
returns-in-Load-clause-reached g c = λ readable fault is.
    let head = c.args.engine.now.store.current.head in
    let reaches = subst (λ (only : Option (List ℕ)). ReachesLimit fault head.live head.number only (g.S.Source.left c.args.source.now)) c.property_of-only.ensures (c.run_load.ensures.limit readable fault is) in
    subst (λ (a : Action). ReachesLimitBy a (asked_of c.args.job.now) fault head.live head.number (g.S.Source.left c.args.source.now)) (sym c.in-Load.is) reaches

-- ---- a make

pub returns-in-Make-clause-told : goal.returns-in-Make-clause-told
returns-in-Make-clause-told g c = λ readable told state holds.
    let input = g.S.Source.left c.args.source.now in
    make-ends (asked_of c.args.job.now) state input c.in-Make.is (Unit {0}) input (g.T.Disk.world c.args.engine.now.store.disk.now) (g.T.Disk.world c.run_make.new.engine.store.disk.now) c.run_make.result refl
    (c.run_make.ensures.told told state holds)

pub returns-in-Make-clause-any_moment : goal.returns-in-Make-clause-any_moment
returns-in-Make-clause-any_moment g c = λ readable told state holds.
    make-left (asked_of c.args.job.now) state (g.S.Source.left c.args.source.now) c.requires.some c.in-Make.is (g.T.Disk.world c.args.engine.now.store.disk.now) (g.T.Disk.world c.run_make.new.engine.store.disk.now) (c.run_make.ensures.any_moment told state holds)

pub returns-in-Make-clause-cause : goal.returns-in-Make-clause-cause
returns-in-Make-clause-cause g c =
    let faults = g.S.Source.faults c.args.source.now in
    job-of-engine g.T.Disk.readable faults faults (g.T.Disk.world c.args.engine.now.store.disk.now) (g.T.Disk.world c.run_make.new.engine.store.disk.now) c.run_make.result refl c.run_make.ensures.cause

pub returns-in-Make-clause-input : goal.returns-in-Make-clause-input
returns-in-Make-clause-input g c = λ readable fault is.
    absurd (subst (λ (r : Result (Unit {0}) Ended). IfErr r (IsEngineEnd g.T.Disk.readable (g.T.Disk.world c.args.engine.now.store.disk.now) (g.T.Disk.world c.run_make.new.engine.store.disk.now))) is c.run_make.ensures.cause.cause)

pub returns-in-Make-clause-whole : goal.returns-in-Make-clause-whole
returns-in-Make-clause-whole g c = λ readable.
    let input = g.S.Source.left c.args.source.now in
    on_ok_from c.run_make.result (subst (λ (a : Action). LeavesInput a input input × IsWholeInput a (option_map string_bytes c.args.job.now.text) input) (sym c.in-Make.is) (refl, tt))

pub returns-in-Make-clause-limits : goal.returns-in-Make-clause-limits
returns-in-Make-clause-limits g c = λ fault is. subst (λ (a : Action). IsLimitOf a fault) (sym c.in-Make.is) tt

pub returns-in-Make-clause-reached : goal.returns-in-Make-clause-reached
returns-in-Make-clause-reached g c = λ readable fault is.
    let head = c.args.engine.now.store.current.head in
    subst (λ (a : Action). ReachesLimitBy a (asked_of c.args.job.now) fault head.live head.number (g.S.Source.left c.args.source.now)) (sym c.in-Make.is) (c.run_make.ensures.limit fault is)

pub returns-in-Make-clause-unread : goal.returns-in-Make-clause-unread
returns-in-Make-clause-unread g c = λ makes. (refl, engine-unread g.T.Disk.readable (g.T.Disk.world c.args.engine.now.store.disk.now) (g.T.Disk.world c.run_make.new.engine.store.disk.now) (Unit {0}) c.run_make.result c.run_make.ensures.cause.cause)

-- ---- a script that only reads

pub returns-in-Run-clause-met : goal.returns-in-Run-clause-met
returns-in-Run-clause-met g c = λ runs readable told reads. (c.run_script.ensures.kept readable told reads).met

pub returns-in-Load-clause-met : goal.returns-in-Load-clause-met
returns-in-Load-clause-met g c = λ runs readable told reads. let loads : actions.Load ≡ actions.Run = sym c.in-Load.is ∙ runs in absurd (cc)

pub returns-in-Make-clause-met : goal.returns-in-Make-clause-met
returns-in-Make-clause-met g c = λ runs readable told reads. let makes : actions.Make ≡ actions.Run = sym c.in-Make.is ∙ runs in absurd (cc)

-- ---- the room left

pub returns-in-Run-clause-lacks : goal.returns-in-Run-clause-lacks
returns-in-Run-clause-lacks g c = λ told is.
    let disk = c.run_script.new.engine.store.disk.now in
    subst (λ (a : Action). LacksRoomFor a c.args.job.now.batch (g.T.Disk.room_of disk) (g.T.Disk.world disk).seen) (sym c.in-Run.is) (c.run_script.ensures.lacks told is)

pub returns-in-Load-clause-lacks : goal.returns-in-Load-clause-lacks
returns-in-Load-clause-lacks g c = λ told is.
    let disk = c.run_load.new.engine.store.disk.now in
    let some : max c.args.job.now.batch 1 ≡ c.args.job.now.batch = omega (arith, c.requires.some) in
    subst (λ (a : Action). LacksRoomFor a c.args.job.now.batch (g.T.Disk.room_of disk) (g.T.Disk.world disk).seen) (sym c.in-Load.is)
    (subst (λ (n : ℕ). LacksRoomIn n (g.T.Disk.room_of disk) (g.T.Disk.world disk).seen) some (c.run_load.ensures.lacks told is))

pub returns-in-Make-clause-lacks : goal.returns-in-Make-clause-lacks
returns-in-Make-clause-lacks g c = λ told is.
    let disk = c.run_make.new.engine.store.disk.now in
    let some : max c.args.job.now.batch 1 ≡ c.args.job.now.batch = omega (arith, c.requires.some) in
    subst (λ (a : Action). LacksRoomFor a c.args.job.now.batch (g.T.Disk.room_of disk) (g.T.Disk.world disk).seen) (sym c.in-Make.is)
    (subst (λ (n : ℕ). LacksRoomIn n (g.T.Disk.room_of disk) (g.T.Disk.world disk).seen) some (c.run_make.ensures.lacks told is))

-- ---- a check

pub returns-in-Verify-clause-told : goal.returns-in-Verify-clause-told
returns-in-Verify-clause-told g c = λ readable told state holds.
    let input = g.S.Source.left c.args.source.now in
    verify-ends (asked_of c.args.job.now) state input c.in-Verify.is (Unit {0}) input (g.T.Disk.world c.args.engine.now.store.disk.now) (g.T.Disk.world c.run_verify.new.engine.store.disk.now) c.run_verify.result refl
    (c.run_verify.ensures.told told state holds)

pub returns-in-Verify-clause-any_moment : goal.returns-in-Verify-clause-any_moment
returns-in-Verify-clause-any_moment g c = λ readable told state holds.
    verify-left (asked_of c.args.job.now) state (g.S.Source.left c.args.source.now) c.requires.some c.in-Verify.is (g.T.Disk.world c.args.engine.now.store.disk.now) (g.T.Disk.world c.run_verify.new.engine.store.disk.now) (c.run_verify.ensures.any_moment told state holds)

pub returns-in-Verify-clause-opens_few : goal.returns-in-Verify-clause-opens_few
returns-in-Verify-clause-opens_few g c = λ runs readable told state holds asks. let verifies : actions.Verify ≡ actions.Run = sym c.in-Verify.is ∙ runs in absurd (cc)

pub returns-in-Verify-clause-met : goal.returns-in-Verify-clause-met
returns-in-Verify-clause-met g c = λ runs readable told reads. let verifies : actions.Verify ≡ actions.Run = sym c.in-Verify.is ∙ runs in absurd (cc)

pub returns-in-Verify-clause-cause : goal.returns-in-Verify-clause-cause
returns-in-Verify-clause-cause g c =
    let faults = g.S.Source.faults c.args.source.now in
    job-of-engine g.T.Disk.readable faults faults (g.T.Disk.world c.args.engine.now.store.disk.now) (g.T.Disk.world c.run_verify.new.engine.store.disk.now) c.run_verify.result refl c.run_verify.ensures.cause

pub returns-in-Verify-clause-input : goal.returns-in-Verify-clause-input
returns-in-Verify-clause-input g c = λ readable fault is.
    absurd (subst (λ (r : Result (Unit {0}) Ended). IfErr r (IsEngineEnd g.T.Disk.readable (g.T.Disk.world c.args.engine.now.store.disk.now) (g.T.Disk.world c.run_verify.new.engine.store.disk.now))) is c.run_verify.ensures.cause.cause)

pub returns-in-Verify-clause-whole : goal.returns-in-Verify-clause-whole
returns-in-Verify-clause-whole g c = λ readable.
    let input = g.S.Source.left c.args.source.now in
    on_ok_from c.run_verify.result (subst (λ (a : Action). LeavesInput a input input × IsWholeInput a (option_map string_bytes c.args.job.now.text) input) (sym c.in-Verify.is) (refl, tt))

pub returns-in-Verify-clause-limits : goal.returns-in-Verify-clause-limits
returns-in-Verify-clause-limits g c = λ fault is. absurd (c.run_verify.ensures.unlimited fault is)

pub returns-in-Verify-clause-reached : goal.returns-in-Verify-clause-reached
returns-in-Verify-clause-reached g c = λ readable fault is. absurd (c.run_verify.ensures.unlimited fault is)

pub returns-in-Verify-clause-lacks : goal.returns-in-Verify-clause-lacks
returns-in-Verify-clause-lacks g c = λ told is. absurd (c.run_verify.ensures.unlimited _ is)

pub returns-in-Verify-clause-unread : goal.returns-in-Verify-clause-unread
returns-in-Verify-clause-unread g c = λ verifies. (refl, engine-unread g.T.Disk.readable (g.T.Disk.world c.args.engine.now.store.disk.now) (g.T.Disk.world c.run_verify.new.engine.store.disk.now) (Unit {0}) c.run_verify.result c.run_verify.ensures.cause.cause)

pub returns-in-Run-clause-verified : goal.returns-in-Run-clause-verified
returns-in-Run-clause-verified g c = λ verifies told. let other : actions.Run ≡ actions.Verify = sym c.in-Run.is ∙ verifies in absurd (cc)

pub returns-in-Run-clause-named : goal.returns-in-Run-clause-named
returns-in-Run-clause-named g c = λ verifies told damage is. let other : actions.Run ≡ actions.Verify = sym c.in-Run.is ∙ verifies in absurd (cc)

pub returns-in-Load-clause-verified : goal.returns-in-Load-clause-verified
returns-in-Load-clause-verified g c = λ verifies told. let other : actions.Load ≡ actions.Verify = sym c.in-Load.is ∙ verifies in absurd (cc)

pub returns-in-Load-clause-named : goal.returns-in-Load-clause-named
returns-in-Load-clause-named g c = λ verifies told damage is. let other : actions.Load ≡ actions.Verify = sym c.in-Load.is ∙ verifies in absurd (cc)

pub returns-in-Make-clause-verified : goal.returns-in-Make-clause-verified
returns-in-Make-clause-verified g c = λ verifies told. let other : actions.Make ≡ actions.Verify = sym c.in-Make.is ∙ verifies in absurd (cc)

pub returns-in-Make-clause-named : goal.returns-in-Make-clause-named
returns-in-Make-clause-named g c = λ verifies told damage is. let other : actions.Make ≡ actions.Verify = sym c.in-Make.is ∙ verifies in absurd (cc)

pub returns-in-Run-clause-unread : goal.returns-in-Run-clause-unread
returns-in-Run-clause-unread g c = λ unread. absurd (subst ReadsNothing c.in-Run.is unread)

pub returns-in-Load-clause-unread : goal.returns-in-Load-clause-unread
returns-in-Load-clause-unread g c = λ unread. absurd (subst ReadsNothing c.in-Load.is unread)

pub returns-in-Verify-clause-verified : goal.returns-in-Verify-clause-verified
returns-in-Verify-clause-verified g c = λ verifies told. c.run_verify.ensures.verified told

pub returns-in-Verify-clause-named : goal.returns-in-Verify-clause-named
returns-in-Verify-clause-named g c = λ verifies told damage is. c.run_verify.ensures.named told damage is
