use Rattle.std.proofs.Common.{◌≡◌, ◌++◌, take}
use Rattle.query_execution.proofs.asked.add_plain.Given as goal

-- the words so far are added
abbrev pub invariant-loop-word : goal.invariant-loop-word
invariant-loop-word l = l.words.items ≡ l.initial.words.items ++ take l.word-index l.plain
