use Rattle.std.proofs.Common.{subst}
use Rattle.std.proofs.lemmas.Str.{IsUtf8-had}
use Rattle.term_impacts.specs.Form.{IsWordText}
use Rattle.term_impacts.proofs.word.Word.text.Goals as goal

pub from_utf8_unchecked-requires : goal.from_utf8_unchecked-requires
from_utf8_unchecked-requires c = IsUtf8-had _ c.self.invariant.text.utf8

pub returns-clause-valid : goal.returns-clause-valid
returns-clause-valid c = subst IsWordText c.self.view_is c.self.invariant.text
