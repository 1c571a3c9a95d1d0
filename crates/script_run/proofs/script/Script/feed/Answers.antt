use Rattle.std.proofs.Common.{◌≡◌, length, refl, sym, ap, subst, ◌∙◌, arith}
use Rattle.std.specs.Prelude.{Result, Err}
use Rattle.std.proofs.lemmas.Result.{on_ok_weaker, err_from_is_err_and}
use Rattle.run_outcome.specs.Causes.{GoesOn, HasEngineEnd}
use Rattle.run_outcome.specs.declared.ended.Ended.{Ended}
use Rattle.script_run.proofs.Causes.{engine-still, engine-then, engine-ends}
use Rattle.script_run.proofs.Feeding.{feeding-start, feeding-line, feeding-breaks, feeding-ends, feeding-kept, feeding-met, feeding-stays}
use Rattle.run_outcome.proofs.Going.{on-still}
use Rattle.script_run.proofs.script.Script.feed.Goals as goal

pub lines-init : goal.lines-init
lines-init g c = record {
  on = c.requires.on;
  loan = refl;
  short = c.requires.short;
  feeding = λ front ends is. feeding-start _ front c.args.piece.now _ _ ends is;
  cause = engine-still _ _ _;
}

pub returns-in_err-end_line-clause-told : goal.returns-in_err-end_line-clause-told
returns-in_err-end_line-clause-told g c = λ front ends is told state holds.
    let f = c.lines.invariant.feeding front ends is in
    let passed = err_from_is_err_and c.from_residual.result c.from_residual.ensures.1 in
    let same : c.from_residual.result ≡ Err c.in_err-end_line.field-0.0 = cc (passed.1, passed.2) in
    rw same
    (feeding-breaks _ _ _ _ _ _ _ f c.in-Some.line.now c.in-Some.next.now _ c.in-Some.ensures.whole c.in-Some.ensures.line _ _ (c.in_err-end_line.ensures.told f.open_line f.is) told state holds)

pub returns-in_err-end_line-clause-cause : goal.returns-in_err-end_line-clause-cause
returns-in_err-end_line-clause-cause g c =
    let passed = err_from_is_err_and c.from_residual.result c.from_residual.ensures.1 in
    let same : c.from_residual.result ≡ Err c.in_err-end_line.field-0.0 = cc (passed.1, passed.2) in
    subst (λ (r : Result (Unit {0}) Ended). HasEngineEnd g.T.Disk.readable (g.T.Disk.world c.args.engine.now.store.disk.now) (g.T.Disk.world c.end_line.new.engine.store.disk.now) r) (sym same)
    (engine-then _ _ _ _ tt c.lines.invariant.cause _ c.in_err-end_line.ensures.cause)

pub lines-preserved : goal.lines-preserved
lines-preserved g c = record {
  on = c.in_ok-end_line.ensures.goes_on;
  loan = c.in_ok-end_line.ensures.same_loan ∙ c.lines.invariant.loan;
  short = omega (arith, ap length c.in_ok-end_line.ensures.line);
  feeding = λ front ends is.
      let f = c.lines.invariant.feeding front ends is in
      feeding-line _ _ _ _ _ _ _ f c.in-Some.line.now c.in-Some.next.now _ c.in-Some.ensures.whole c.in-Some.ensures.line _ _ c.in_ok-end_line.ensures.line (c.in_ok-end_line.ensures.told f.open_line f.is) (c.in_ok-end_line.ensures.kept f.open_line f.is);
  cause = engine-then _ _ _ _ tt c.lines.invariant.cause _ c.in_ok-end_line.ensures.cause;
}

pub returns-clause-told : goal.returns-clause-told
returns-clause-told g c = λ front ends is told state holds.
    feeding-ends _ _ _ _ _ _ _ (c.lines.invariant.feeding front ends is) c.in_default.ensures.none c.extend.result c.extend.ensures.err told state holds

pub returns-clause-line : goal.returns-clause-line
returns-clause-line g c = λ front ends is.
    on_ok_weaker c.extend.result (λ whole. feeding-kept _ _ _ _ _ _ _ (c.lines.invariant.feeding front ends is) c.in_default.ensures.none _ whole) c.extend.ensures.ok

pub returns-clause-cause : goal.returns-clause-cause
returns-clause-cause g c = engine-ends _ _ _ tt c.extend.result c.lines.invariant.cause c.extend.ensures.err

pub returns-in_err-end_line-clause-kept : goal.returns-in_err-end_line-clause-kept
returns-in_err-end_line-clause-kept g c = λ front ends is told reads.
    let f = c.lines.invariant.feeding front ends is in
    let passed = err_from_is_err_and c.from_residual.result c.from_residual.ensures.1 in
    let same : c.from_residual.result ≡ Err c.in_err-end_line.field-0.0 = cc (passed.1, passed.2) in
    rw same
    (feeding-met _ _ _ _ _ _ _ f c.in-Some.line.now c.in-Some.next.now _ c.in-Some.ensures.whole c.in-Some.ensures.line _ (c.in_err-end_line.ensures.kept f.open_line f.is) told reads)

pub returns-clause-kept : goal.returns-clause-kept
returns-clause-kept g c = λ front ends is told reads.
    feeding-stays _ _ _ _ _ _ _ (c.lines.invariant.feeding front ends is) c.in_default.ensures.none c.extend.result c.extend.ensures.err told reads

pub returns-in_err-end_line-clause-goes_on : goal.returns-in_err-end_line-clause-goes_on
returns-in_err-end_line-clause-goes_on g c =
    let passed = err_from_is_err_and c.from_residual.result c.from_residual.ensures.1 in
    let same : c.from_residual.result ≡ Err c.in_err-end_line.field-0.0 = cc (passed.1, passed.2) in
    subst (λ (r : Result (Unit {0}) Ended). GoesOn c.end_line.new.engine.stopped r) (sym same) c.in_err-end_line.ensures.goes_on

pub returns-clause-goes_on : goal.returns-clause-goes_on
returns-clause-goes_on g c = on-still _ c.extend.result c.lines.invariant.on
