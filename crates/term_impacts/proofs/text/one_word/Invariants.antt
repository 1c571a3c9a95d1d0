use Rattle.term_impacts.specs.Left.{words_left}
use Rattle.term_impacts.specs.Text.{words_of}
use Rattle.term_impacts.proofs.TextLemmas.{HasFound}
use Rattle.term_impacts.proofs.text.one_word.Given as goal

abbrev pub invariant-loop-word : goal.invariant-loop-word
invariant-loop-word l = record {
  can : (goal.iterator-loop-word).can_next l.word-iterator;
  finite : (goal.iterator-loop-word).is_finite l.word-iterator;
  found : HasFound (words_of l.text) l.found (words_left l.word-iterator);
}
