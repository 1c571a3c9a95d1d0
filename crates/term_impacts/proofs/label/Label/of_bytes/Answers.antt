use Rattle.std.proofs.Common.{◌≡◌, true, not, nat_eq, sym, subst, ap, ◌∙◌, true≢false}
use Rattle.std.proofs.lemmas.Str.{IsUtf8-had}
use Rattle.std.specs.Cmp.Lexicographic.{nat_list_eq_equiv, pointwise}
use Rattle.std.specs.Str.{IsUtf8}
use Rattle.term_impacts.specs.Label.{label_of}
use Rattle.term_impacts.proofs.LabelLemmas.{label_text_is, same_label}
use Rattle.term_impacts.proofs.label.Label.of_bytes.Goals as goal

pub returns-in_default-clause-no_form : goal.returns-in_default-clause-no_form
returns-in_default-clause-no_form c text is made =
    c.in_default.ensures.cases.0 (subst IsUtf8 (sym (label_text_is _ text is made)) (IsUtf8-had text is.utf8))

pub returns-then-ne-clause-no_form : goal.returns-then-ne-clause-no_form
returns-then-ne-clause-no_form c text is made =
    let cut = c.label.view_is ∙ c.of_text-label.ensures.label ∙ ap label_of c.in-Ok.ensures.cases.0 in
    let same = same_label c.label.inside.form c.args.bytes.now text c.label.invariant cut is made in
    let equal : pointwise nat_eq c.label.inside.form c.args.bytes.now ≡ true =
    ap (λ form. pointwise nat_eq form c.args.bytes.now) same ∙ nat_list_eq_equiv.refl c.args.bytes.now in
    true≢false (c.if-ne.ensures ∙ ap not equal)
