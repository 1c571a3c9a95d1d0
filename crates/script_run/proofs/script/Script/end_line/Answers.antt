use Rattle.std.proofs.Common.{◌≡◌, List, ℕ, [], ◌∷◌, ◌++◌, refl, ap, subst, sym, arith, ◌∙◌}
use Rattle.std.specs.Prelude.{Result, Err}
use Rattle.run_outcome.specs.Causes.{GoesOn}
use Rattle.run_outcome.specs.declared.ended.Ended.{Ended}
use Rattle.std.proofs.lemmas.Result.{err_from_is_err_and}
use Rattle.script_run.specs.Lines.{RunsLines}
use Rattle.script_run.proofs.Lines.{line-fresh, line-ended}
use Rattle.run_outcome.specs.declared.ended.Ended.TheVariants as ends
use Rattle.run_outcome.proofs.Lists.{none-left}
use Rattle.query_lang.specs.Line.{line_of}
use Rattle.script_run.proofs.Reading.{reading-alike}
use Rattle.script_run.proofs.Runs.{runs-alike, runs-nothing}
use Rattle.script_run.proofs.script.Script.end_line.Goals as goal

pub returns-then-is_empty-clause-told : goal.returns-then-is_empty-clause-told
returns-then-is_empty-clause-told g c = λ front is told state holds.
    let none : c.args.self.now.line.items ≡ [] = none-left _ _ _ (omega arith) c.is_empty.ensures c.if-is_empty.true in
    subst (λ (line : List ℕ). RunsLines state (line ∷ []) (g.T.Disk.world c.args.engine.now.store.disk.now) (g.T.Disk.world c.act.new.engine.store.disk.now) c.act.result)
    (line-fresh c.args.self.now.line.items front c.args.part.now none is) (c.act.ensures.told told state holds)

pub returns-in_err-extend-clause-told : goal.returns-in_err-extend-clause-told
returns-in_err-extend-clause-told g c = λ front is told state holds.
    let passed = err_from_is_err_and c.from_residual.result c.from_residual.ensures.1 in
    let memory : c.in_err-extend.field-0.0 ≡ ends.Memory = c.in_err-extend.ensures.err in
    let same : c.from_residual.result ≡ Err ends.Memory = cc (passed.1, passed.2, memory) in
    rw same (runs-nothing (Unit {0}) state ((front ++ c.args.part.now) ∷ []) (g.T.Disk.world c.args.engine.now.store.disk.now))

pub returns-in_err-act-clause-told : goal.returns-in_err-act-clause-told
returns-in_err-act-clause-told g c = λ front is told state holds.
    let passed = err_from_is_err_and c.from_residual-in_err-act.result c.from_residual-in_err-act.ensures.1 in
    let same : c.from_residual-in_err-act.result ≡ Err c.in_err-act.field-0.0 = cc (passed.1, passed.2) in
    rw same
    (runs-alike state c.deref.result.now (front ++ c.args.part.now) _ _ _ (line-ended c.args.self.now.line.items _ front _ (c.deref.ensures.value ∙ c.in_ok-extend.ensures.ok) is) (c.in_err-act.ensures.told told state holds))

pub returns-clause-told : goal.returns-clause-told
returns-clause-told g c = λ front is told state holds.
    runs-alike state c.deref.result.now (front ++ c.args.part.now) _ _ _ (line-ended c.args.self.now.line.items _ front _ (c.deref.ensures.value ∙ c.in_ok-extend.ensures.ok) is) (c.in_ok-act.ensures.told told state holds)

pub returns-then-is_empty-clause-kept : goal.returns-then-is_empty-clause-kept
returns-then-is_empty-clause-kept g c = λ front is told reads.
    let none : c.args.self.now.line.items ≡ [] = none-left _ _ _ (omega arith) c.is_empty.ensures c.if-is_empty.true in
    c.act.ensures.kept told (reading-alike c.args.part.now (front ++ c.args.part.now) (ap line_of (line-fresh c.args.self.now.line.items front c.args.part.now none is)) reads)

pub returns-in_err-extend-clause-kept : goal.returns-in_err-extend-clause-kept
returns-in_err-extend-clause-kept g c = λ front is told reads.
    let passed = err_from_is_err_and c.from_residual.result c.from_residual.ensures.1 in
    let memory : c.in_err-extend.field-0.0 ≡ ends.Memory = c.in_err-extend.ensures.err in
    let same : c.from_residual.result ≡ Err ends.Memory = cc (passed.1, passed.2, memory) in
    rw same (record { seen = refl; met = tt })

pub returns-in_err-act-clause-kept : goal.returns-in_err-act-clause-kept
returns-in_err-act-clause-kept g c = λ front is told reads.
    let passed = err_from_is_err_and c.from_residual-in_err-act.result c.from_residual-in_err-act.ensures.1 in
    let same : c.from_residual-in_err-act.result ≡ Err c.in_err-act.field-0.0 = cc (passed.1, passed.2) in
    rw same
    (c.in_err-act.ensures.kept told (reading-alike c.deref.result.now (front ++ c.args.part.now) (line-ended c.args.self.now.line.items _ front _ (c.deref.ensures.value ∙ c.in_ok-extend.ensures.ok) is) reads))

pub returns-clause-kept : goal.returns-clause-kept
returns-clause-kept g c = λ front is told reads.
    c.in_ok-act.ensures.kept told (reading-alike c.deref.result.now (front ++ c.args.part.now) (line-ended c.args.self.now.line.items _ front _ (c.deref.ensures.value ∙ c.in_ok-extend.ensures.ok) is) reads)

pub returns-in_err-extend-clause-goes_on : goal.returns-in_err-extend-clause-goes_on
returns-in_err-extend-clause-goes_on g c =
    let passed = err_from_is_err_and c.from_residual.result c.from_residual.ensures.1 in
    let memory : c.in_err-extend.field-0.0 ≡ ends.Memory = c.in_err-extend.ensures.err in
    let same : c.from_residual.result ≡ Err ends.Memory = cc (passed.1, passed.2, memory) in
    subst (λ (r : Result (Unit {0}) Ended). GoesOn c.args.engine.now.stopped r) (sym same) c.requires.on

pub returns-in_err-act-clause-goes_on : goal.returns-in_err-act-clause-goes_on
returns-in_err-act-clause-goes_on g c =
    let passed = err_from_is_err_and c.from_residual-in_err-act.result c.from_residual-in_err-act.ensures.1 in
    let same : c.from_residual-in_err-act.result ≡ Err c.in_err-act.field-0.0 = cc (passed.1, passed.2) in
    subst (λ (r : Result (Unit {0}) Ended). GoesOn c.act-2.new.engine.stopped r) (sym same) c.in_err-act.ensures.goes_on
