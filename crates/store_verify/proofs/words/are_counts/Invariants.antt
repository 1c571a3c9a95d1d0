use Rattle.store_verify.proofs.Runs.{HasTaken}
use Rattle.store_verify.proofs.words.are_counts.Given as goal

abbrev pub invariant-loop-row : goal.invariant-loop-row
invariant-loop-row l = HasTaken l.row-index l.at l.numbers l.held
