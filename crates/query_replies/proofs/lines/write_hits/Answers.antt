use Rattle.std.proofs.Common.{◌≡◌, ◌+◌, ◌++◌, drop, arith}
use Rattle.std.proofs.lemmas.Result.{err_from_is_err_and}
use Rattle.query_replies.specs.Found.{hit_text}
use Rattle.query_replies.specs.Lines.{ranked_line}
use Rattle.query_replies.proofs.Growing.{Extends-on, items_left, line_written}
use Rattle.query_replies.proofs.lines.write_hits.Goals as goal

pub returns-in_err-write_hit_line : goal.returns-in_err-write_hit_line
returns-in_err-write_hit_line c =
    let fault = err_from_is_err_and c.from_residual.result c.from_residual.ensures.1 in
    rw fault.1 (Extends-on c.args.out.now.items c.loop-hit.out.items c.write_hit_line.new.out.items c.loop-hit.invariant.2 c.in_err-write_hit_line.ensures)

pub loop-hit-preserved : goal.loop-hit-preserved
loop-hit-preserved c =
    let items = c.args.hits.now in
    let item = c.hit-item.result in
    let out = c.loop-hit.out.items in
    let rank = c.loop-hit.rank + 1 in
    let said = hit_text c.args.explain c.args.column in
    let left = items_left items c.loop-hit.hit-index item (omega arith) c.hit-item.is in
    let line : c.write_hit_line.new.out.items ≡ out ++ ranked_line said rank item = c.in_ok-write_hit_line.ensures in (
      omega arith,
      line_written said rank item (drop (c.loop-hit.hit-index + 1) items) out c.write_hit_line.new.out.items _ line (rw left at c.loop-hit.invariant.1),
      Extends-on c.args.out.now.items out c.write_hit_line.new.out.items c.loop-hit.invariant.2 (ranked_line said rank item, line),
    )
