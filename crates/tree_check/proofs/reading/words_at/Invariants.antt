use Rattle.std.proofs.Common.{◌≡◌, take}
use Rattle.tree_check.specs.Columns.{words_in}
use Rattle.tree_check.proofs.reading.words_at.Given as goal

-- the words of the rows so far are listed
abbrev pub invariant-loop-row : goal.invariant-loop-row
invariant-loop-row l = l.words.items ≡ words_in l.at (take l.row-index l.rows)
