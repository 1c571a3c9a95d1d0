-- What an iterator over the words of a text has left.
use Rattle.std.specs.Prelude.{ℕ, List}
use Rattle.unicode_segmentation.specs.Iter.{unicode_words_left}
use Rattle.term_impacts.specs.Text.{kept_words}
use Rattle.term_impacts.specs.declared.text_words.TextWords.{TextWords}

-- the words that are still to come
abbrev pub words_left : TextWords → List (List ℕ)
words_left s = kept_words (unicode_words_left s.pieces)
