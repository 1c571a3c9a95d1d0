use Rattle.std.proofs.Common.{◌≡◌, ◌++◌}
use Rattle.table_updates.proofs.words.list_words.Given as goal

abbrev pub invariant-loop-word : goal.invariant-loop-word
invariant-loop-word l =
    (goal.iterator-loop-word).can_next l.word-iterator
    × (goal.iterator-loop-word).is_finite l.word-iterator
    × (l.pairs.items ++ l.word-iterator ≡ l.words.entries)
