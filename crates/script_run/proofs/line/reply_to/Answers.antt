use Rattle.std.proofs.Common.{rules, ◌≡◌, refl, sym, subst}
use Rattle.std.specs.Prelude.{Result, Ok, OnOk}
use Rattle.query_lang.specs.Line.{line_of}
use Rattle.query_lang.specs.Plain.{plain_line}
use Rattle.query_lang.specs.declared.line.Line.{Line}
use Rattle.query_replies.specs.declared.fault.LineFault.{LineFault}
use Rattle.query_replies.specs.declared.fault.LineFault.TheVariants.{Memory}
use Rattle.run_outcome.specs.Asking.{IsAsking, ReadsForLine}
use Rattle.run_outcome.specs.Reading.{IsReading}
use Rattle.script_run.proofs.Asking.{line-unread}
use Rattle.script_run.proofs.Replies.{plain-replies, bad-replies}
use Rattle.script_run.proofs.Causes.{engine-still}
use Rattle.script_run.proofs.line.reply_to.Goals as goal

pub returns-in-Ok-clause-told : goal.returns-in-Ok-clause-told
returns-in-Ok-clause-told g c = λ told state holds.
    plain-replies state c.in-Ok.line (line_of c.args.line.now) _ _ c.in-Ok.ensures.says c.answer.result (c.answer.ensures.told told state holds)

pub returns-in-Ok-clause-reads : goal.returns-in-Ok-clause-reads
returns-in-Ok-clause-reads g c = λ told state holds asks.
    let same : line_of c.args.line.now ≡ Ok (plain_line c.in-Ok.line) = c.in-Ok.ensures.says in
    subst (λ (l : Result Line LineFault). OnOk c.answer.result (ReadsForLine state l (g.T.Disk.world c.args.engine.now.store.disk.now) (g.T.Disk.world c.answer.new.engine.store.disk.now))) (sym same)
    (c.answer.ensures.reads told state holds (subst IsAsking same asks))

pub returns-in-Ok-clause-kept : goal.returns-in-Ok-clause-kept
returns-in-Ok-clause-kept g c = λ told reads.
    let same : line_of c.args.line.now ≡ Ok (plain_line c.in-Ok.line) = c.in-Ok.ensures.says in
    c.answer.ensures.kept told (subst IsReading same reads)

pub returns-in-Err : goal.returns-in-Err
returns-in-Err g c =
    let apart : c.in-Err.fault ≡ Memory → ⊥ = search rules in
    record {
      same_loan = refl;
      told = λ told state holds. bad-replies state (line_of c.args.line.now) _ c.in-Err.fault (c.in-Err.ensures.says apart) holds;
      kept = λ told reads. record { seen = refl; met = tt };
      reads = λ told state holds asks. line-unread state (line_of c.args.line.now) (g.T.Disk.world c.args.engine.now.store.disk.now);
      reason = apart;
      goes_on = c.requires.on;
      cause = engine-still _ _ _;
      ends = tt;
      lacks = λ told is. absurd (cc);
    }
