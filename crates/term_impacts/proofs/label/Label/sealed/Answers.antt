use Rattle.std.proofs.Common.{◌≡◌, length, sym, subst, ap, ◌∙◌}
use Rattle.term_impacts.specs.Label.{IsLabelText, IsLabelForm}
use Rattle.term_impacts.proofs.LabelLemmas.{IsLabelForm-label_form, written_label}
use Rattle.term_impacts.proofs.label.Label.sealed.Goals as goal

pub invariant_of-result : goal.invariant_of-result
invariant_of-result c =
    let text = c.copy_from_slice.new.self in
    let same : text ≡ c.args.text.now = c.copy_from_slice.ensures.after ∙ c.as_bytes.ensures.value in
    let is : IsLabelText text = subst IsLabelText (sym same) c.requires in
    subst IsLabelForm (sym (written_label text (length c.args.text.now) (ap length same) is)) (IsLabelForm-label_form text is)
