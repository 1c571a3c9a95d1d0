use Rattle.term_impacts.proofs.TallyLemmas.{HasWeighed}
use Rattle.term_impacts.proofs.tally.Tally.impacts.Given as goal

abbrev pub invariant-loop-word : goal.invariant-loop-word
invariant-loop-word l = record {
  can : (goal.iterator-loop-word).can_next l.word-iterator;
  finite : (goal.iterator-loop-word).is_finite l.word-iterator;
  weighed : HasWeighed l.self.counts.entries l.self.total l.words l.word-iterator;
}
