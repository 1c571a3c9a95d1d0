use Rattle.std.proofs.Common.{◌≡◌, ◌∙◌, Some, None, sym, ap}
use Rattle.page_face.specs.Number.{number}
use Rattle.store_tables.proofs.CodeLemmas.{number-number_bytes}
use Rattle.store_verify.proofs.numbers.numbered_of_bytes.Goals as goal

pub returns-in_err-decode-clause-every : goal.returns-in_err-decode-clause-every
returns-in_err-decode-clause-every c entry is at_key at_value =
    let none : None ≡ Some entry.1 = c.in_err-decode.ensures.every entry.1 is.1 at_value in
    absurd (cc none)

pub returns-clause-form : goal.returns-clause-form
returns-clause-form c =
    let counted = c.in_ok-decode.ensures.form in
    let key : number c.args.key.now ≡ c.number_of_bytes.result = sym (ap number c.number_of_bytes.ensures) ∙ number-number_bytes c.number_of_bytes.result c.number_of_bytes.type_inv in
    ((c.number_of_bytes.type_inv, counted.0), key, counted.1)

pub returns-clause-every : goal.returns-clause-every
returns-clause-every c entry is at_key at_value =
    let key : c.number_of_bytes.result ≡ entry.0 =
    sym (number-number_bytes c.number_of_bytes.result c.number_of_bytes.type_inv) ∙ ap number c.number_of_bytes.ensures ∙ at_key in
    let some : Some c.in_ok-decode.field-0 ≡ Some entry.1 = c.in_ok-decode.ensures.every entry.1 is.1 at_value in
    let value : c.in_ok-decode.field-0 ≡ entry.1 = cc some in
    λ i. Some (key i, value i)
