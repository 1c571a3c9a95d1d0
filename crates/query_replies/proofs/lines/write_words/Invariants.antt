use Rattle.std.proofs.Common.{◌≡◌, ◌++◌, flat_map, drop}
use Rattle.query_replies.specs.Reply.{word_line}
use Rattle.query_replies.specs.Written.{Extends}
use Rattle.query_replies.proofs.lines.write_words.Given as goal

abbrev pub invariant-loop-word : goal.invariant-loop-word
invariant-loop-word l =
    (l.out.items ++ flat_map word_line (drop l.word-index l.words) ≡ l.initial.out.items ++ flat_map word_line l.words)
    × Extends l.initial.out.items l.out.items
