use Rattle.std.proofs.Common.{◌≡◌, ◌∙◌, Some, sym}
use Rattle.store_model.proofs.Maps.{word_form-same}
use Rattle.store_tables.proofs.LookupLemmas.{number-word, number_bytes-same}
use Rattle.store_verify.proofs.Codes.{form_from_code}
use Rattle.store_verify.proofs.texts.text_of_bytes.Goals as goal

pub returns-in_err-of_bytes-clause-every : goal.returns-in_err-of_bytes-clause-every
returns-in_err-of_bytes-clause-every c entry is at_key at_value =
    absurd (c.in_err-of_bytes.ensures.no_form entry.0 is.0 (form_from_code c.args.key.now entry.0 c.told-key c.fits-key is.0 at_key))

pub returns-clause-form : goal.returns-clause-form
returns-clause-form c =
    let form = c.in_ok-of_bytes.ensures.form in
    ((form.0, c.number_of_bytes.type_inv), number-word c.args.key.now c.in_ok-of_bytes.field-0 form.1, sym c.number_of_bytes.ensures)

pub returns-clause-every : goal.returns-clause-every
returns-clause-every c entry is at_key at_value =
    let form = c.in_ok-of_bytes.ensures.form in
    let key : c.in_ok-of_bytes.field-0 ≡ entry.0 =
    word_form-same c.in_ok-of_bytes.field-0 entry.0 form.0 is.0 (sym form.1 ∙ form_from_code c.args.key.now entry.0 c.told-key c.fits-key is.0 at_key) in
    let value : c.number_of_bytes.result ≡ entry.1 =
    number_bytes-same c.number_of_bytes.result entry.1 c.number_of_bytes.type_inv is.1 (c.number_of_bytes.ensures ∙ at_value) in
    λ i. Some (key i, value i)
