use Rattle.std.proofs.Common.{sym, subst}
use Rattle.term_impacts.specs.Form.{IsWordForm}
use Rattle.term_impacts.proofs.FormLemmas.{set-word_form, IsWordForm-word_form}
use Rattle.term_impacts.proofs.word.Word.sealed.Goals as goal

pub invariant_of-result : goal.invariant_of-result
invariant_of-result c =
    subst IsWordForm (sym (set-word_form c.args.form c.args.len c.requires.len c.requires.zeros)) (IsWordForm-word_form _ c.requires.text)
