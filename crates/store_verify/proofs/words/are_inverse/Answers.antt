use Rattle.std.proofs.Common.{sym, ◌∙◌}
use Rattle.store_verify.proofs.Inverse.{inverse-from, same-from}
use Rattle.store_verify.proofs.words.are_inverse.Goals as goal

pub returns : goal.returns
returns c = λ by_text by_number. (
  (λ same. inverse-from c.args.texts.now c.args.numbers.now c.in_ok-back.back.items by_text by_number c.in_ok-back.ensures.moved
      (sym c.deref.ensures.value ∙ c.are_same.ensures.0 same ∙ c.deref-2.ensures.value ∙ c.in_ok-names.ensures)),
  (λ inverse. c.are_same.ensures.1 (c.deref.ensures.value
      ∙ same-from c.args.texts.now c.args.numbers.now c.in_ok-back.back.items by_text by_number c.in_ok-back.ensures.moved c.in_ok-back.ensures.sorted inverse
      ∙ sym c.in_ok-names.ensures ∙ sym c.deref-2.ensures.value)),
)
