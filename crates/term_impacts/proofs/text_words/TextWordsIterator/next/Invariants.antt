use Rattle.std.proofs.Common.{◌≡◌, length}
use Rattle.unicode_segmentation.specs.Iter.{unicode_words_left}
use Rattle.term_impacts.specs.Left.{words_left}
use Rattle.term_impacts.proofs.text_words.TextWordsIterator.next.Given as goal

abbrev pub invariant-pieces : goal.invariant-pieces
invariant-pieces l = words_left l.fn.self ≡ words_left l.self

abbrev pub decreases-pieces : goal.decreases-pieces
decreases-pieces l = length (unicode_words_left l.self.pieces)
