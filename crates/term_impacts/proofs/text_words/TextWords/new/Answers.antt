use Rattle.std.proofs.Common.{le_trans}
use Rattle.term_impacts.proofs.LeftLemmas.{length-kept_words}
use Rattle.term_impacts.proofs.text_words.TextWords.new.Goals as goal

pub returns-clause-len : goal.returns-clause-len
returns-clause-len c = le_trans (length-kept_words _) c.unicode_words.ensures.len
