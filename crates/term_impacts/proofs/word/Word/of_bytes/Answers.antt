use Rattle.std.proofs.Common.{◌≡◌, Bool, true, false, not, refl, nat_eq, sym, subst, ap, ◌∙◌, true≢false}
use Rattle.std.proofs.lemmas.Str.{IsUtf8-had}
use Rattle.std.specs.Cmp.Lexicographic.{nat_list_eq_equiv, pointwise, same_text}
use Rattle.std.specs.Str.{IsUtf8}
use Rattle.term_impacts.specs.Form.{IsWordText, word_form}
use Rattle.term_impacts.proofs.FormLemmas.{form_text_is, same_form}
use Rattle.term_impacts.proofs.word.Word.of_bytes.Goals as goal

pub returns-in_default-clause-no_form : goal.returns-in_default-clause-no_form
returns-in_default-clause-no_form c text is made =
    c.in_default.ensures.cases.0 (subst IsUtf8 (sym (form_text_is _ text is made)) (IsUtf8-had text is.utf8))

pub returns-then-ne-clause-no_form : goal.returns-then-ne-clause-no_form
returns-then-ne-clause-no_form c text is made =
    let text_same = c.word.view_is ∙ c.of_text-word.ensures.word ∙ c.in-Ok.ensures.cases.0 in
    let same = same_form c.word.inside.form c.args.bytes.now text c.word.invariant text_same is made in
    let equal : pointwise nat_eq c.word.inside.form c.args.bytes.now ≡ true =
    ap (λ form. pointwise nat_eq form c.args.bytes.now) same ∙ nat_list_eq_equiv.refl c.args.bytes.now in
    true≢false (c.if-ne.ensures ∙ ap not equal)

true_from_not : (b : Bool) → false ≡ not b → true ≡ b
true_from_not true e = refl
true_from_not false e = absurd (true≢false (sym e))

pub returns-clause-form : goal.returns-clause-form
returns-clause-form c =
    let same = same_text c.word.inside.form c.args.bytes.now (true_from_not _ c.if-ne.ensures) in (
      subst IsWordText c.word.view_is c.word.invariant.text,
      sym same ∙ c.word.invariant.padded ∙ ap word_form c.word.view_is,
    )
