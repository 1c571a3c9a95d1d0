use Rattle.std.proofs.Common.{◌≡◌, ℕ, ◌++◌, [], length, drop, refl, sym, ap, ◌∙◌, arith}
use Rattle.std.specs.Prelude.{Err}
use Rattle.disk_model.proofs.Moments.{started}
use Rattle.disk_model.proofs.Replays.{on_ok_from}
use Rattle.run_outcome.specs.Script.{cut, script}
use Rattle.run_outcome.specs.declared.ended.Ended.TheVariants as ends
use Rattle.run_outcome.specs.declared.ended.LimitFault.TheVariants as limits
use Rattle.run_outcome.proofs.Counts.{keeps-done, keeps-none}
use Rattle.run_outcome.proofs.Lists.{none-behind}
use Rattle.script_run.proofs.Causes.{job-still, job-by-engine, job-then, job-failed, job-valued}
use Rattle.script_run.proofs.Ends.{left-counts, line-input, line-limit, piece-input, piece-limit}
use Rattle.script_run.proofs.Fronts.{piece-came}
use Rattle.script_run.proofs.Lines.{rest-EndsNoLine}
use Rattle.script_run.proofs.Reading.{keeps-failed}
use Rattle.script_run.proofs.Untouched.{untouched-ends, untouched-fed, untouched-piece, untouched-start, untouched-still}
use Rattle.script_run.proofs.Standing.{input_max-is, ends-lost, stops-ends, standing-start, standing-fed, standing-left, standing-failed, standing-ends, standing-ends_left, standing-ends_reads, piece-ends, piece-left}
use Rattle.script_run.proofs.run.run_script.Goals as goal

pub returns-in-Err-clause-same_loan : goal.returns-in-Err-clause-same_loan
returns-in-Err-clause-same_loan g c = refl

pub returns-in-Err-clause-told : goal.returns-in-Err-clause-told
returns-in-Err-clause-told g c = λ readable told state holds. ends-lost (Unit {0}) state (g.S.Source.left c.args.source.now) (g.T.Disk.world c.args.engine.now.store.disk.now)

pub returns-in-Err-clause-any_moment : goal.returns-in-Err-clause-any_moment
returns-in-Err-clause-any_moment g c = λ readable told state holds. started (g.T.Disk.world c.args.engine.now.store.disk.now)

pub returns-in-Err-clause-opens_few : goal.returns-in-Err-clause-opens_few
returns-in-Err-clause-opens_few g c = λ readable told state holds asks. tt

pub returns-in-Err-clause-cause : goal.returns-in-Err-clause-cause
returns-in-Err-clause-cause g c = record { source = omega arith; faults = omega arith; sink = omega arith; reads = λ other read. refl; keeps = keeps-none _ (Err ends.Memory); stands = λ told. tt; cause = tt }

pub pieces-init : goal.pieces-init
pieces-init g c = record {
  on = c.requires.on;
  loan = refl;
  taken = omega arith;
  room = c.in-Ok.ensures.len;
  short = omega (arith, ap length c.new-script.ensures);
  came = λ readable. omega arith;
  standing = λ readable told state holds. standing-start state (g.S.Source.left c.args.source.now) _ (g.T.Disk.world c.args.engine.now.store.disk.now) c.new-script.ensures holds;
  untouched = λ readable told. untouched-start (g.S.Source.left c.args.source.now) _ (g.T.Disk.world c.args.engine.now.store.disk.now) c.new-script.ensures;
  cause = job-still _ _ _ _;
}

pub read-requires : goal.read-requires
read-requires g c = omega (arith, c.pieces.invariant.room, c.deref_mut.ensures.len)

pub returns-in-Err-read-clause-same_loan : goal.returns-in-Err-read-clause-same_loan
returns-in-Err-read-clause-same_loan g c = c.pieces.invariant.loan

pub returns-in-Err-read-clause-told : goal.returns-in-Err-read-clause-told
returns-in-Err-read-clause-told g c = λ readable told state holds.
    let s = c.pieces.invariant.standing readable told state holds in
    standing-failed state (g.S.Source.left c.args.source.now) (g.S.Source.left c.pieces.source) (g.T.Disk.world c.args.engine.now.store.disk.now) (g.T.Disk.world c.pieces.engine.store.disk.now) c.pieces.script.line.items c.pieces.taken s (g.S.Source.left c.read.new.self) ((c.in-Err-read.ensures.told readable).failed) (omega (arith, c.pieces.invariant.taken, input_max-is))

pub returns-in-Err-read-clause-any_moment : goal.returns-in-Err-read-clause-any_moment
returns-in-Err-read-clause-any_moment g c = λ readable told state holds.
    let s = c.pieces.invariant.standing readable told state holds in
    standing-left state (g.S.Source.left c.args.source.now) (g.S.Source.left c.pieces.source) (g.T.Disk.world c.args.engine.now.store.disk.now) (g.T.Disk.world c.pieces.engine.store.disk.now) c.pieces.script.line.items c.pieces.taken s (omega (arith, c.pieces.invariant.taken, input_max-is))

pub returns-in-Err-read-clause-opens_few : goal.returns-in-Err-read-clause-opens_few
returns-in-Err-read-clause-opens_few g c = λ readable told state holds asks. tt

pub returns-in-Err-read-clause-cause : goal.returns-in-Err-read-clause-cause
returns-in-Err-read-clause-cause g c = record {
  source = omega (arith, c.in-Err-read.ensures.cause.later, c.pieces.invariant.cause.source);
  faults = c.pieces.invariant.cause.faults;
  sink = c.pieces.invariant.cause.sink;
  reads = λ other read. absurd (read refl);
  keeps = keeps-done _ _ tt (Err ends.Source) c.pieces.invariant.cause.keeps;
  stands = λ told. tt;
  cause = omega (arith, c.in-Err-read.ensures.cause.rose, c.pieces.invariant.cause.source);
}

pub end-requires : goal.end-requires
end-requires g c = record { on = c.pieces.invariant.on }

pub returns-then-n-eq0-clause-same_loan : goal.returns-then-n-eq0-clause-same_loan
returns-then-n-eq0-clause-same_loan g c = c.end.ensures.same_loan ∙ c.pieces.invariant.loan

pub returns-then-n-eq0-clause-told : goal.returns-then-n-eq0-clause-told
returns-then-n-eq0-clause-told g c = λ readable told state holds.
    let s = c.pieces.invariant.standing readable told state holds in
    let given = c.in-Ok-read.ensures.told readable in
    let none : g.S.Source.left c.pieces.source ≡ [] = given.ends c.if-n-eq0.true in
    standing-ends state (g.S.Source.left c.args.source.now) (g.S.Source.left c.pieces.source) (g.T.Disk.world c.args.engine.now.store.disk.now) (g.T.Disk.world c.pieces.engine.store.disk.now) c.pieces.script.line.items c.pieces.taken s (g.S.Source.left c.read.new.self) (g.T.Disk.world c.end.new.engine.store.disk.now) c.end.result (omega (arith, c.pieces.invariant.taken, input_max-is)) none (none-behind _ (g.S.Source.left c.read.new.self) (sym given.given ∙ none))
    (c.end.ensures.told (cut s.read).rest s.keeps told (script state (cut s.read).lines).state s.holds)

pub returns-then-n-eq0-clause-any_moment : goal.returns-then-n-eq0-clause-any_moment
returns-then-n-eq0-clause-any_moment g c = λ readable told state holds.
    let s = c.pieces.invariant.standing readable told state holds in
    let given = c.in-Ok-read.ensures.told readable in
    let none : g.S.Source.left c.pieces.source ≡ [] = given.ends c.if-n-eq0.true in
    standing-ends_left state (g.S.Source.left c.args.source.now) (g.S.Source.left c.pieces.source) (g.T.Disk.world c.args.engine.now.store.disk.now) (g.T.Disk.world c.pieces.engine.store.disk.now) c.pieces.script.line.items c.pieces.taken s (g.T.Disk.world c.end.new.engine.store.disk.now) c.end.result (omega (arith, c.pieces.invariant.taken, input_max-is)) none
    (c.end.ensures.told (cut s.read).rest s.keeps told (script state (cut s.read).lines).state s.holds)

pub returns-then-n-eq0-clause-opens_few : goal.returns-then-n-eq0-clause-opens_few
returns-then-n-eq0-clause-opens_few g c = λ readable told state holds.
    let s = c.pieces.invariant.standing readable told state holds in
    let given = c.in-Ok-read.ensures.told readable in
    let none : g.S.Source.left c.pieces.source ≡ [] = given.ends c.if-n-eq0.true in
    standing-ends_reads state (g.S.Source.left c.args.source.now) (g.S.Source.left c.pieces.source) (g.T.Disk.world c.args.engine.now.store.disk.now) (g.T.Disk.world c.pieces.engine.store.disk.now) c.pieces.script.line.items c.pieces.taken s (g.T.Disk.world c.end.new.engine.store.disk.now) c.end.result (omega (arith, c.pieces.invariant.taken, input_max-is)) none
    (c.end.ensures.told (cut s.read).rest s.keeps told (script state (cut s.read).lines).state s.holds)

pub returns-then-n-eq0-clause-cause : goal.returns-then-n-eq0-clause-cause
returns-then-n-eq0-clause-cause g c =
    job-then _ (g.S.Source.faults c.args.source.now) (g.S.Source.faults c.pieces.source) (g.S.Source.faults c.read.new.self) (g.T.Disk.world c.args.engine.now.store.disk.now) (g.T.Disk.world c.pieces.engine.store.disk.now) (g.T.Disk.world c.end.new.engine.store.disk.now) tt c.pieces.invariant.cause c.in-Ok-read.ensures.cause.stays c.end.result
    (job-by-engine _ 0 0 _ _ c.end.result refl c.end.ensures.cause)

pub split_at-requires : goal.split_at-requires
split_at-requires g c = omega (arith, c.in-Ok-read.ensures.count, c.as_slice.ensures.len)

pub take-requires-clause-on : goal.take-requires-clause-on
take-requires-clause-on g c = c.pieces.invariant.on

pub take-requires-clause-few : goal.take-requires-clause-few
take-requires-clause-few g c = c.pieces.invariant.taken

pub take-requires-clause-short : goal.take-requires-clause-short
take-requires-clause-short g c = c.pieces.invariant.short

pub returns-in-Err-take-clause-same_loan : goal.returns-in-Err-take-clause-same_loan
returns-in-Err-take-clause-same_loan g c = c.in-Err-take.ensures.same_loan ∙ c.pieces.invariant.loan

pub returns-in-Err-take-clause-told : goal.returns-in-Err-take-clause-told
returns-in-Err-take-clause-told g c = λ readable told state holds.
    let s = c.pieces.invariant.standing readable told state holds in
    let came : g.S.Source.left c.pieces.source ≡ c.split_at.result.0.now ++ g.S.Source.left c.read.new.self =
    piece-came c.in-Ok-read.n c.pieces.piece.len c.read.new.buf (drop (length c.read.new.buf) c.pieces.piece.items) _ c.split_at.result.0.now _ _ c.in-Ok-read.ensures.count
    (omega (arith, c.read.auto.buf, c.deref_mut.ensures.len, c.pieces.invariant.room)) c.as_slice.ensures.value c.split_at.ensures.front (c.in-Ok-read.ensures.told readable).given in
    stops-ends (Unit {0}) state (g.S.Source.left c.args.source.now) (g.S.Source.left c.read.new.self) (g.T.Disk.world c.args.engine.now.store.disk.now) (g.T.Disk.world c.take.new.engine.store.disk.now) c.in-Err-take.end
    (piece-ends state (g.S.Source.left c.args.source.now) (g.S.Source.left c.pieces.source) (g.T.Disk.world c.args.engine.now.store.disk.now) (g.T.Disk.world c.pieces.engine.store.disk.now) c.pieces.script.line.items c.pieces.taken s c.split_at.result.0.now (g.S.Source.left c.read.new.self) (g.T.Disk.world c.take.new.engine.store.disk.now) came c.pieces.invariant.taken c.in-Err-take.end
    (c.in-Err-take.ensures.told (cut s.read).rest (rest-EndsNoLine s.read) s.keeps told (script state (cut s.read).lines).state s.holds))

pub returns-in-Err-take-clause-any_moment : goal.returns-in-Err-take-clause-any_moment
returns-in-Err-take-clause-any_moment g c = λ readable told state holds.
    let s = c.pieces.invariant.standing readable told state holds in
    let came : g.S.Source.left c.pieces.source ≡ c.split_at.result.0.now ++ g.S.Source.left c.read.new.self =
    piece-came c.in-Ok-read.n c.pieces.piece.len c.read.new.buf (drop (length c.read.new.buf) c.pieces.piece.items) _ c.split_at.result.0.now _ _ c.in-Ok-read.ensures.count
    (omega (arith, c.read.auto.buf, c.deref_mut.ensures.len, c.pieces.invariant.room)) c.as_slice.ensures.value c.split_at.ensures.front (c.in-Ok-read.ensures.told readable).given in
    piece-left state (g.S.Source.left c.args.source.now) (g.S.Source.left c.pieces.source) (g.T.Disk.world c.args.engine.now.store.disk.now) (g.T.Disk.world c.pieces.engine.store.disk.now) c.pieces.script.line.items c.pieces.taken s c.split_at.result.0.now (g.S.Source.left c.read.new.self) (g.T.Disk.world c.take.new.engine.store.disk.now) came c.pieces.invariant.taken c.in-Err-take.end
    (c.in-Err-take.ensures.told (cut s.read).rest (rest-EndsNoLine s.read) s.keeps told (script state (cut s.read).lines).state s.holds)

pub returns-in-Err-take-clause-opens_few : goal.returns-in-Err-take-clause-opens_few
returns-in-Err-take-clause-opens_few g c = λ readable told state holds asks. tt

pub returns-in-Err-take-clause-cause : goal.returns-in-Err-take-clause-cause
returns-in-Err-take-clause-cause g c =
    job-failed ℕ (Unit {0}) _ _ _ _ _ c.in-Err-take.end
    (job-then _ (g.S.Source.faults c.args.source.now) (g.S.Source.faults c.pieces.source) (g.S.Source.faults c.read.new.self) (g.T.Disk.world c.args.engine.now.store.disk.now) (g.T.Disk.world c.pieces.engine.store.disk.now) (g.T.Disk.world c.take.new.engine.store.disk.now) tt c.pieces.invariant.cause c.in-Ok-read.ensures.cause.stays _ c.in-Err-take.ensures.cause)

pub pieces-smaller : goal.pieces-smaller
pieces-smaller g c = omega (arith, c.in-Ok-take.ensures.few.0, c.in-Ok-take.ensures.few.1, c.split_at.ensures.front_len, c.if-n-eq0.false)

pub pieces-preserved : goal.pieces-preserved
pieces-preserved g c = record {
  on = c.in-Ok-take.ensures.goes_on;
  loan = c.in-Ok-take.ensures.same_loan ∙ c.pieces.invariant.loan;
  taken = c.in-Ok-take.ensures.few.0;
  room = c.pieces.invariant.room;
  short = c.in-Ok-take.ensures.short;
  came = λ readable. omega (arith, c.pieces.invariant.came readable, left-counts (g.S.Source.left c.pieces.source) (g.S.Source.left c.read.new.self) c.read.new.buf c.in-Ok-read.n (c.in-Ok-read.ensures.told readable).given c.in-Ok-read.ensures.count, c.in-Ok-take.ensures.few.1, c.split_at.ensures.front_len);
  standing = λ readable told state holds.
      let s = c.pieces.invariant.standing readable told state holds in
      let came : g.S.Source.left c.pieces.source ≡ c.split_at.result.0.now ++ g.S.Source.left c.read.new.self =
      piece-came c.in-Ok-read.n c.pieces.piece.len c.read.new.buf (drop (length c.read.new.buf) c.pieces.piece.items) _ c.split_at.result.0.now _ _ c.in-Ok-read.ensures.count
      (omega (arith, c.read.auto.buf, c.deref_mut.ensures.len, c.pieces.invariant.room)) c.as_slice.ensures.value c.split_at.ensures.front (c.in-Ok-read.ensures.told readable).given in
      standing-fed state (g.S.Source.left c.args.source.now) (g.S.Source.left c.pieces.source) (g.T.Disk.world c.args.engine.now.store.disk.now) (g.T.Disk.world c.pieces.engine.store.disk.now) c.pieces.script.line.items c.pieces.taken s c.split_at.result.0.now (g.S.Source.left c.read.new.self) _ (g.T.Disk.world c.take.new.engine.store.disk.now) _ came
      (c.in-Ok-take.ensures.line (cut s.read).rest (rest-EndsNoLine s.read) s.keeps) c.in-Ok-take.ensures.few.0 c.in-Ok-take.ensures.few.1
      (c.in-Ok-take.ensures.told (cut s.read).rest (rest-EndsNoLine s.read) s.keeps told (script state (cut s.read).lines).state s.holds);
  untouched = λ readable told.
      let u = c.pieces.invariant.untouched readable told in
      let came : g.S.Source.left c.pieces.source ≡ c.split_at.result.0.now ++ g.S.Source.left c.read.new.self =
      piece-came c.in-Ok-read.n c.pieces.piece.len c.read.new.buf (drop (length c.read.new.buf) c.pieces.piece.items) _ c.split_at.result.0.now _ _ c.in-Ok-read.ensures.count
      (omega (arith, c.read.auto.buf, c.deref_mut.ensures.len, c.pieces.invariant.room)) c.as_slice.ensures.value c.split_at.ensures.front (c.in-Ok-read.ensures.told readable).given in
      untouched-fed (g.S.Source.left c.args.source.now) (g.S.Source.left c.pieces.source) (g.T.Disk.world c.args.engine.now.store.disk.now) (g.T.Disk.world c.pieces.engine.store.disk.now) c.pieces.script.line.items c.pieces.taken u c.split_at.result.0.now (g.S.Source.left c.read.new.self) (g.T.Disk.world c.take.new.engine.store.disk.now) came _ _ _
      (c.in-Ok-take.ensures.line (cut u.read).rest (rest-EndsNoLine u.read) u.keeps) c.in-Ok-take.ensures.few.0 c.in-Ok-take.ensures.few.1
      (c.in-Ok-take.ensures.kept (cut u.read).rest (rest-EndsNoLine u.read) u.keeps told);
  cause = job-valued _ _ _ _ _ _ tt (job-then _ (g.S.Source.faults c.args.source.now) (g.S.Source.faults c.pieces.source) (g.S.Source.faults c.read.new.self) (g.T.Disk.world c.args.engine.now.store.disk.now) (g.T.Disk.world c.pieces.engine.store.disk.now) (g.T.Disk.world c.take.new.engine.store.disk.now) tt c.pieces.invariant.cause c.in-Ok-read.ensures.cause.stays _ c.in-Ok-take.ensures.cause);
}

-- ---- whatever the image stands for

pub returns-in-Err-clause-input : goal.returns-in-Err-clause-input
returns-in-Err-clause-input g c = λ readable fault is. absurd (cc)

pub returns-in-Err-clause-whole : goal.returns-in-Err-clause-whole
returns-in-Err-clause-whole g c = λ readable. tt

pub returns-in-Err-clause-limit : goal.returns-in-Err-clause-limit
returns-in-Err-clause-limit g c = λ fault is. absurd (cc)

pub returns-in-Err-read-clause-input : goal.returns-in-Err-read-clause-input
returns-in-Err-read-clause-input g c = λ readable fault is. absurd (cc)

pub returns-in-Err-read-clause-whole : goal.returns-in-Err-read-clause-whole
returns-in-Err-read-clause-whole g c = λ readable. tt

pub returns-in-Err-read-clause-limit : goal.returns-in-Err-read-clause-limit
returns-in-Err-read-clause-limit g c = λ fault is. absurd (cc)

pub returns-then-n-eq0-clause-input : goal.returns-then-n-eq0-clause-input
returns-then-n-eq0-clause-input g c = λ readable fault is. absurd (line-input c.end.result fault c.end.ensures.ends is)

pub returns-then-n-eq0-clause-whole : goal.returns-then-n-eq0-clause-whole
returns-then-n-eq0-clause-whole g c = λ readable.
    let given = c.in-Ok-read.ensures.told readable in
    let none : g.S.Source.left c.pieces.source ≡ [] = given.ends c.if-n-eq0.true in
    on_ok_from c.end.result (none-behind _ (g.S.Source.left c.read.new.self) (sym given.given ∙ none), omega (arith, c.pieces.invariant.came readable, c.pieces.invariant.taken, ap length none, input_max-is))

pub returns-then-n-eq0-clause-limit : goal.returns-then-n-eq0-clause-limit
returns-then-n-eq0-clause-limit g c = λ fault is. line-limit c.end.result fault c.end.ensures.ends is

pub returns-in-Err-take-clause-input : goal.returns-in-Err-take-clause-input
returns-in-Err-take-clause-input g c = λ readable fault is.
    let long = piece-input {T = Unit {0}} c.pieces.taken (length c.split_at.result.0.now) (Err c.in-Err-take.end) fault c.in-Err-take.ensures.ends is in
    (long.0, omega (arith, long.1, c.pieces.invariant.came readable, left-counts (g.S.Source.left c.pieces.source) (g.S.Source.left c.read.new.self) c.read.new.buf c.in-Ok-read.n (c.in-Ok-read.ensures.told readable).given c.in-Ok-read.ensures.count, c.split_at.ensures.front_len, input_max-is))

pub returns-in-Err-take-clause-whole : goal.returns-in-Err-take-clause-whole
returns-in-Err-take-clause-whole g c = λ readable. tt

pub returns-in-Err-take-clause-limit : goal.returns-in-Err-take-clause-limit
returns-in-Err-take-clause-limit g c = λ fault is. piece-limit {T = Unit {0}} c.pieces.taken (length c.split_at.result.0.now) (Err c.in-Err-take.end) fault c.in-Err-take.ensures.ends is

-- ---- lines that only read

pub returns-in-Err-clause-kept : goal.returns-in-Err-clause-kept
returns-in-Err-clause-kept g c = λ readable told reads. record { seen = refl; met = tt }

pub returns-in-Err-read-clause-kept : goal.returns-in-Err-read-clause-kept
returns-in-Err-read-clause-kept g c = λ readable told reads.
    let u = c.pieces.invariant.untouched readable told in
    record { seen = untouched-still (g.S.Source.left c.args.source.now) (g.S.Source.left c.pieces.source) (g.T.Disk.world c.args.engine.now.store.disk.now) (g.T.Disk.world c.pieces.engine.store.disk.now) c.pieces.script.line.items c.pieces.taken u (omega (arith, c.pieces.invariant.taken, input_max-is)) reads; met = tt }

pub returns-then-n-eq0-clause-kept : goal.returns-then-n-eq0-clause-kept
returns-then-n-eq0-clause-kept g c = λ readable told reads.
    let u = c.pieces.invariant.untouched readable told in
    let given = c.in-Ok-read.ensures.told readable in
    let none : g.S.Source.left c.pieces.source ≡ [] = given.ends c.if-n-eq0.true in
    untouched-ends (g.S.Source.left c.args.source.now) (g.S.Source.left c.pieces.source) (g.T.Disk.world c.args.engine.now.store.disk.now) (g.T.Disk.world c.pieces.engine.store.disk.now) c.pieces.script.line.items c.pieces.taken u (g.T.Disk.world c.end.new.engine.store.disk.now) c.end.result (omega (arith, c.pieces.invariant.taken, input_max-is)) none
    (c.end.ensures.kept (cut u.read).rest u.keeps told) reads

pub returns-in-Err-take-clause-kept : goal.returns-in-Err-take-clause-kept
returns-in-Err-take-clause-kept g c = λ readable told reads.
    let u = c.pieces.invariant.untouched readable told in
    let came : g.S.Source.left c.pieces.source ≡ c.split_at.result.0.now ++ g.S.Source.left c.read.new.self =
    piece-came c.in-Ok-read.n c.pieces.piece.len c.read.new.buf (drop (length c.read.new.buf) c.pieces.piece.items) _ c.split_at.result.0.now _ _ c.in-Ok-read.ensures.count
    (omega (arith, c.read.auto.buf, c.deref_mut.ensures.len, c.pieces.invariant.room)) c.as_slice.ensures.value c.split_at.ensures.front (c.in-Ok-read.ensures.told readable).given in
    keeps-failed ℕ (Unit {0}) _ _ c.in-Err-take.end
    (untouched-piece (g.S.Source.left c.args.source.now) (g.S.Source.left c.pieces.source) (g.T.Disk.world c.args.engine.now.store.disk.now) (g.T.Disk.world c.pieces.engine.store.disk.now) c.pieces.script.line.items c.pieces.taken u c.split_at.result.0.now (g.S.Source.left c.read.new.self) (g.T.Disk.world c.take.new.engine.store.disk.now) came _ c.pieces.invariant.taken
    (c.in-Err-take.ensures.kept (cut u.read).rest (rest-EndsNoLine u.read) u.keeps told) reads)

-- ---- the room left

pub returns-in-Err-clause-lacks : goal.returns-in-Err-clause-lacks
returns-in-Err-clause-lacks g c = λ told is. absurd (cc)

pub returns-in-Err-read-clause-lacks : goal.returns-in-Err-read-clause-lacks
returns-in-Err-read-clause-lacks g c = λ told is. absurd (cc)

pub returns-then-n-eq0-clause-lacks : goal.returns-then-n-eq0-clause-lacks
returns-then-n-eq0-clause-lacks g c = λ told is. c.end.ensures.lacks told is

pub returns-in-Err-take-clause-lacks : goal.returns-in-Err-take-clause-lacks
returns-in-Err-take-clause-lacks g c = λ told is. let same : c.in-Err-take.end ≡ ends.Limit limits.NoRoom = cc in c.in-Err-take.ensures.lacks told (ap Err same)

-- ---- an engine that goes on

pub returns-in-Err-clause-goes_on : goal.returns-in-Err-clause-goes_on
returns-in-Err-clause-goes_on g c = c.requires.on

pub returns-in-Err-read-clause-goes_on : goal.returns-in-Err-read-clause-goes_on
returns-in-Err-read-clause-goes_on g c = c.pieces.invariant.on

pub returns-then-n-eq0-clause-goes_on : goal.returns-then-n-eq0-clause-goes_on
returns-then-n-eq0-clause-goes_on g c = c.end.ensures.goes_on

pub returns-in-Err-take-clause-goes_on : goal.returns-in-Err-take-clause-goes_on
returns-in-Err-take-clause-goes_on g c = c.in-Err-take.ensures.goes_on
