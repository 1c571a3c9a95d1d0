use Rattle.std.proofs.Common.{◌≡◌, ◌+◌, ◌-◌, ◌++◌, List, ℕ, length, take, refl, sym, ap, subst, arith}
use Rattle.std.specs.Prelude.{Ok, Err}
use Rattle.std.proofs.lemmas.List.{take_all}
use Rattle.run_outcome.specs.Reading.{AreReading}
use Rattle.run_outcome.specs.Script.{cut}
use Rattle.run_outcome.specs.declared.ended.Ended.TheVariants as endings
use Rattle.run_outcome.specs.declared.ended.InputFault.TheVariants.{Long}
use Rattle.run_outcome.specs.declared.ended.LimitFault.TheVariants as limits
use Rattle.script_run.specs.Lines.{RunsLines}
use Rattle.script_run.proofs.Causes.{job-by-failure, job-by-input, job-by-value}
use Rattle.script_run.proofs.Ends.{piece-line}
use Rattle.script_run.proofs.Reading.{keeps-failed}
use Rattle.script_run.proofs.Runs.{runs-valued}
use Rattle.script_run.proofs.Standing.{piece-stopped}
use Rattle.script_run.proofs.run.take.Goals as goal

pub overflow_sub-room : goal.overflow_sub-room
overflow_sub-room g c = c.requires.few

pub split_at-requires : goal.split_at-requires
split_at-requires g c = omega arith

pub feed-requires-clause-on : goal.feed-requires-clause-on
feed-requires-clause-on g c = c.requires.on

pub feed-requires-clause-short : goal.feed-requires-clause-short
feed-requires-clause-short g c = c.requires.short

pub feed-requires-2-clause-on : goal.feed-requires-2-clause-on
feed-requires-2-clause-on g c = c.requires.on

pub feed-requires-2-clause-short : goal.feed-requires-2-clause-short
feed-requires-2-clause-short g c = c.requires.short

pub overflow_add-result : goal.overflow_add-result
overflow_add-result g c = omega arith

pub returns-in-Ok-clause-same_loan : goal.returns-in-Ok-clause-same_loan
returns-in-Ok-clause-same_loan g c = c.in-Ok.ensures.same_loan

pub returns-in-Ok-clause-told : goal.returns-in-Ok-clause-told
returns-in-Ok-clause-told g c = λ front ends is told state holds. (
  refl,
  omega arith,
  subst (λ (part : List ℕ). RunsLines {T = Unit {0}} state (cut (front ++ part)).lines (g.T.Disk.world c.args.engine.now.store.disk.now) (g.T.Disk.world c.feed.new.engine.store.disk.now) (Ok tt)) c.split_at.ensures.front
      (c.in-Ok.ensures.told front ends is told state holds),
)

pub returns-in-Ok-clause-cause : goal.returns-in-Ok-clause-cause
returns-in-Ok-clause-cause g c = job-by-input ℕ _ 0 _ _ tt Long c.in-Ok.ensures.cause

pub returns-in-Err-clause-same_loan : goal.returns-in-Err-clause-same_loan
returns-in-Err-clause-same_loan g c = c.in-Err.ensures.same_loan

pub returns-in-Err-clause-told : goal.returns-in-Err-clause-told
returns-in-Err-clause-told g c = λ front ends is told state holds.
    piece-stopped state _ (268435456 - c.args.taken) (length c.args.piece.now) _ _ c.in-Err.end
    (subst (λ (part : List ℕ). RunsLines {T = Unit {0}} state (cut (front ++ part)).lines (g.T.Disk.world c.args.engine.now.store.disk.now) (g.T.Disk.world c.feed.new.engine.store.disk.now) (Err c.in-Err.end)) c.split_at.ensures.front
    (c.in-Err.ensures.told front ends is told state holds))

pub returns-in-Err-clause-cause : goal.returns-in-Err-clause-cause
returns-in-Err-clause-cause g c = job-by-failure (Unit {0}) ℕ _ 0 _ _ c.in-Err.end c.in-Err.ensures.cause

pub returns-in-Ok-feed-clause-same_loan : goal.returns-in-Ok-feed-clause-same_loan
returns-in-Ok-feed-clause-same_loan g c = c.in-Ok-feed.ensures.same_loan

pub returns-in-Ok-feed-clause-told : goal.returns-in-Ok-feed-clause-told
returns-in-Ok-feed-clause-told g c = λ front ends is told state holds.
    let whole : take (268435456 - c.args.taken) c.args.piece.now ≡ c.args.piece.now = take_all (268435456 - c.args.taken) c.args.piece.now (omega arith) in
    subst (λ (part : List ℕ). RunsLines {T = ℕ} state (cut (front ++ part)).lines (g.T.Disk.world c.args.engine.now.store.disk.now) (g.T.Disk.world c.feed-2.new.engine.store.disk.now) (Ok (c.args.taken + length c.args.piece.now))) (sym whole)
    (runs-valued state _ _ _ tt _ (c.in-Ok-feed.ensures.told front ends is told state holds))

pub returns-in-Ok-feed-clause-line : goal.returns-in-Ok-feed-clause-line
returns-in-Ok-feed-clause-line g c = c.in-Ok-feed.ensures.line

pub returns-in-Ok-feed-clause-few : goal.returns-in-Ok-feed-clause-few
returns-in-Ok-feed-clause-few g c = (omega arith, refl)

pub returns-in-Ok-feed-clause-short : goal.returns-in-Ok-feed-clause-short
returns-in-Ok-feed-clause-short g c = c.in-Ok-feed.ensures.short

pub returns-in-Ok-clause-goes_on : goal.returns-in-Ok-clause-goes_on
returns-in-Ok-clause-goes_on g c = c.in-Ok.ensures.goes_on

pub returns-in-Err-clause-goes_on : goal.returns-in-Err-clause-goes_on
returns-in-Err-clause-goes_on g c = c.in-Err.ensures.goes_on

pub returns-in-Ok-feed-clause-goes_on : goal.returns-in-Ok-feed-clause-goes_on
returns-in-Ok-feed-clause-goes_on g c = c.in-Ok-feed.ensures.goes_on

pub returns-in-Err-feed-clause-goes_on : goal.returns-in-Err-feed-clause-goes_on
returns-in-Err-feed-clause-goes_on g c = c.in-Err-feed.ensures.goes_on

pub returns-in-Ok-feed-clause-cause : goal.returns-in-Ok-feed-clause-cause
returns-in-Ok-feed-clause-cause g c = job-by-value _ 0 _ _ tt _ c.in-Ok-feed.ensures.cause

pub returns-in-Err-feed-clause-same_loan : goal.returns-in-Err-feed-clause-same_loan
returns-in-Err-feed-clause-same_loan g c = c.in-Err-feed.ensures.same_loan

pub returns-in-Err-feed-clause-told : goal.returns-in-Err-feed-clause-told
returns-in-Err-feed-clause-told g c = λ front ends is told state holds.
    let whole : take (268435456 - c.args.taken) c.args.piece.now ≡ c.args.piece.now = take_all (268435456 - c.args.taken) c.args.piece.now (omega arith) in
    piece-stopped state _ (268435456 - c.args.taken) (length c.args.piece.now) _ _ c.in-Err-feed.end
    (subst (λ (part : List ℕ). RunsLines {T = Unit {0}} state (cut (front ++ part)).lines (g.T.Disk.world c.args.engine.now.store.disk.now) (g.T.Disk.world c.feed-2.new.engine.store.disk.now) (Err c.in-Err-feed.end)) (sym whole)
    (c.in-Err-feed.ensures.told front ends is told state holds))

pub returns-in-Err-feed-clause-cause : goal.returns-in-Err-feed-clause-cause
returns-in-Err-feed-clause-cause g c = job-by-failure (Unit {0}) ℕ _ 0 _ _ c.in-Err-feed.end c.in-Err-feed.ensures.cause

pub returns-in-Ok-clause-ends : goal.returns-in-Ok-clause-ends
returns-in-Ok-clause-ends g c = (refl, omega arith)

pub returns-in-Err-clause-ends : goal.returns-in-Err-clause-ends
returns-in-Err-clause-ends g c = piece-line _ _ c.in-Err.end c.in-Err.ensures.ends

pub returns-in-Ok-feed-clause-ends : goal.returns-in-Ok-feed-clause-ends
returns-in-Ok-feed-clause-ends g c = tt

pub returns-in-Err-feed-clause-ends : goal.returns-in-Err-feed-clause-ends
returns-in-Err-feed-clause-ends g c = piece-line _ _ c.in-Err-feed.end c.in-Err-feed.ensures.ends

pub returns-in-Ok-clause-kept : goal.returns-in-Ok-clause-kept
returns-in-Ok-clause-kept g c = λ front ends is told reads.
    let within = subst (λ (part : List ℕ). AreReading (cut (front ++ part)).lines) (sym c.split_at.ensures.front) reads in
    record { seen = (c.in-Ok.ensures.kept front ends is told within).seen; met = tt }

pub returns-in-Err-clause-kept : goal.returns-in-Err-clause-kept
returns-in-Err-clause-kept g c = λ front ends is told reads.
    let within = subst (λ (part : List ℕ). AreReading (cut (front ++ part)).lines) (sym c.split_at.ensures.front) reads in
    keeps-failed (Unit {0}) ℕ _ _ c.in-Err.end (c.in-Err.ensures.kept front ends is told within)

pub returns-in-Ok-feed-clause-kept : goal.returns-in-Ok-feed-clause-kept
returns-in-Ok-feed-clause-kept g c = λ front ends is told reads.
    let whole : take (268435456 - c.args.taken) c.args.piece.now ≡ c.args.piece.now = take_all (268435456 - c.args.taken) c.args.piece.now (omega arith) in
    let all = subst (λ (part : List ℕ). AreReading (cut (front ++ part)).lines) whole reads in
    record { seen = (c.in-Ok-feed.ensures.kept front ends is told all).seen; met = tt }

pub returns-in-Err-feed-clause-kept : goal.returns-in-Err-feed-clause-kept
returns-in-Err-feed-clause-kept g c = λ front ends is told reads.
    let whole : take (268435456 - c.args.taken) c.args.piece.now ≡ c.args.piece.now = take_all (268435456 - c.args.taken) c.args.piece.now (omega arith) in
    let all = subst (λ (part : List ℕ). AreReading (cut (front ++ part)).lines) whole reads in
    keeps-failed (Unit {0}) ℕ _ _ c.in-Err-feed.end (c.in-Err-feed.ensures.kept front ends is told all)

-- ---- the room left

pub returns-in-Ok-clause-lacks : goal.returns-in-Ok-clause-lacks
returns-in-Ok-clause-lacks g c = λ told is. absurd (cc)

pub returns-in-Err-clause-lacks : goal.returns-in-Err-clause-lacks
returns-in-Err-clause-lacks g c = λ told is. let same : c.in-Err.end ≡ endings.Limit limits.NoRoom = cc in c.in-Err.ensures.lacks told (ap Err same)

pub returns-in-Ok-feed-clause-lacks : goal.returns-in-Ok-feed-clause-lacks
returns-in-Ok-feed-clause-lacks g c = λ told is. absurd (cc)

pub returns-in-Err-feed-clause-lacks : goal.returns-in-Err-feed-clause-lacks
returns-in-Err-feed-clause-lacks g c = λ told is. let same : c.in-Err-feed.end ≡ endings.Limit limits.NoRoom = cc in c.in-Err-feed.ensures.lacks told (ap Err same)
