use Rattle.std.proofs.Common.{arith}
use Rattle.query_lang.specs.Line.{line_of-long}
use Rattle.query_lang.proofs.Lines.{line_of-other, line_of-text}
use Rattle.query_lang.proofs.line.read_line.Goals as goal

pub returns-then-line-gt-LINE_MAX-clause-says : goal.returns-then-line-gt-LINE_MAX-clause-says
returns-then-line-gt-LINE_MAX-clause-says c = λ m. line_of-long c.args.line.now (omega arith)

pub returns-in-Ok-clause-says : goal.returns-in-Ok-clause-says
returns-in-Ok-clause-says c =
    let cut = c.without_cr.ensures in
    let text = rw cut at c.in-Ok.ensures.cases.1 in
    let is = rw cut at c.in-Ok.ensures.cases.0 in
    rw (line_of-text c.args.line.now (omega arith) text, ← is) c.line_of_text.ensures.says

pub returns-in-Err-clause-says : goal.returns-in-Err-clause-says
returns-in-Err-clause-says c =
    let other = rw c.without_cr.ensures at c.in-Err.ensures.cases.0 in
    λ m. line_of-other c.args.line.now (omega arith) other
