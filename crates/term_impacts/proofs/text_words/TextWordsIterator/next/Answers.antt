use Rattle.term_impacts.proofs.LeftLemmas.{some_piece}
use Rattle.term_impacts.proofs.text_words.TextWordsIterator.next.Goals as goal

pub folded_word-requires : goal.folded_word-requires
folded_word-requires c = some_piece _ _ _ c.in-Some.ensures.steps
