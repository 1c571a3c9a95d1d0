use Rattle.std.proofs.Common.{ℕ, ◌<◌, get_or}
use Rattle.row_codec.specs.declared.counted.Counted.{Counted}
use Rattle.store_verify.proofs.words.are_below.Given as goal

abbrev pub invariant-loop-row : goal.invariant-loop-row
invariant-loop-row l = (k : ℕ) (d : ℕ × Counted) → k < l.row-index → (get_or l.numbers k d).0 < l.next_word
