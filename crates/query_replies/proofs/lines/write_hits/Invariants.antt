use Rattle.std.proofs.Common.{◌≡◌, ◌++◌, ◌+◌, drop}
use Rattle.query_replies.specs.Found.{hit_text}
use Rattle.query_replies.specs.Lines.{ranked_lines}
use Rattle.query_replies.specs.Written.{Extends}
use Rattle.query_replies.proofs.lines.write_hits.Given as goal

abbrev pub invariant-loop-hit : goal.invariant-loop-hit
invariant-loop-hit l =
    (l.rank ≡ l.hit-index)
    × (l.out.items ++ ranked_lines (hit_text l.explain l.column) (l.rank + 1) (drop l.hit-index l.hits) ≡ l.initial.out.items ++ ranked_lines (hit_text l.explain l.column) 1 l.hits)
    × Extends l.initial.out.items l.out.items
