use Rattle.std.proofs.Common.{sym, ◌∙◌}
use Rattle.term_impacts.proofs.FormLemmas.{slice_cmp-word_form}
use Rattle.term_impacts.proofs.word.WordOrd.cmp.Goals as goal

pub returns-clause-form_order : goal.returns-clause-form_order
returns-clause-form_order c =
    rw (c.text.ensures.text, c.text-2.ensures.text) at c.cmp.ensures
    ∙ sym (slice_cmp-word_form _ _ c.text.ensures.valid.fits c.text-2.ensures.valid.fits)
