use Rattle.std.proofs.Common.{subst}
use Rattle.term_impacts.specs.Form.{IsWordText}
use Rattle.term_impacts.proofs.word.Word.bytes.Goals as goal

pub returns-clause-valid : goal.returns-clause-valid
returns-clause-valid c = subst IsWordText c.self.view_is c.self.invariant.text
