use Rattle.std.proofs.Common.{◌≡◌, ◌+◌, ◌++◌, drop, arith}
use Rattle.std.proofs.lemmas.Result.{err_from_is_err_and}
use Rattle.query_replies.specs.Found.{pick_text}
use Rattle.query_replies.specs.Lines.{ranked_line}
use Rattle.query_replies.proofs.Growing.{Extends-on, items_left, line_written}
use Rattle.query_replies.proofs.lines.write_picks.Goals as goal

pub returns-in_err-write_pick_line : goal.returns-in_err-write_pick_line
returns-in_err-write_pick_line c =
    let fault = err_from_is_err_and c.from_residual.result c.from_residual.ensures.1 in
    rw fault.1 (Extends-on c.args.out.now.items c.loop-pick.out.items c.write_pick_line.new.out.items c.loop-pick.invariant.2 c.in_err-write_pick_line.ensures)

pub loop-pick-preserved : goal.loop-pick-preserved
loop-pick-preserved c =
    let items = c.args.picks.now in
    let item = c.pick-item.result in
    let out = c.loop-pick.out.items in
    let rank = c.loop-pick.rank + 1 in
    let said = pick_text c.args.explain in
    let left = items_left items c.loop-pick.pick-index item (omega arith) c.pick-item.is in
    let line : c.write_pick_line.new.out.items ≡ out ++ ranked_line said rank item = c.in_ok-write_pick_line.ensures in (
      omega arith,
      line_written said rank item (drop (c.loop-pick.pick-index + 1) items) out c.write_pick_line.new.out.items _ line (rw left at c.loop-pick.invariant.1),
      Extends-on c.args.out.now.items out c.write_pick_line.new.out.items c.loop-pick.invariant.2 (ranked_line said rank item, line),
    )
