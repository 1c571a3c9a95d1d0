use Rattle.std.specs.Str.Iter.{chars_steps}
use Rattle.caseless.specs.CaseFold.{FoldsCaseTo}
use Rattle.term_impacts.proofs.FoldingLemmas.{HasWritten}
use Rattle.term_impacts.proofs.folding.unicode_word.Given as goal

abbrev pub invariant-characters : goal.invariant-characters
invariant-characters l = record {
  can : (goal.iterator-characters).can_next l.c-iterator;
  finite : (goal.iterator-characters).is_finite l.c-iterator;
  written : HasWritten (FoldsCaseTo chars_steps) l.piece l.form l.len l.c-iterator;
}
