use Rattle.std.proofs.Common.{◌≡◌, ◌++◌, ◌+◌, drop}
use Rattle.query_replies.specs.Found.{pick_text}
use Rattle.query_replies.specs.Lines.{ranked_lines}
use Rattle.query_replies.specs.Written.{Extends}
use Rattle.query_replies.proofs.lines.write_picks.Given as goal

abbrev pub invariant-loop-pick : goal.invariant-loop-pick
invariant-loop-pick l =
    (l.rank ≡ l.pick-index)
    × (l.out.items ++ ranked_lines (pick_text l.explain) (l.rank + 1) (drop l.pick-index l.picks) ≡ l.initial.out.items ++ ranked_lines (pick_text l.explain) 1 l.picks)
    × Extends l.initial.out.items l.out.items
