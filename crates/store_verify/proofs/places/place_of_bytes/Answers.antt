use Rattle.std.proofs.Common.{◌≡◌, ◌∙◌, Some, sym, true≢false}
use Rattle.store_tables.proofs.KeyLemmas.{form_from_number, form-same}
use Rattle.store_tables.proofs.LookupLemmas.{number-key}
use Rattle.store_verify.proofs.places.place_of_bytes.Goals as goal

pub returns-in_err-of_bytes-clause-every : goal.returns-in_err-of_bytes-clause-every
returns-in_err-of_bytes-clause-every c entry is at_key at_value =
    let form = form_from_number c.args.key.now entry.0 c.told-key c.fits-key is.0 at_key in
    absurd (true≢false (sym (c.in_err-of_bytes.ensures.some.1 (entry.0, is.0, form))))

pub returns-clause-form : goal.returns-clause-form
returns-clause-form c =
    let stored = c.in_ok-decode.ensures.form in
    ((c.in_ok-of_bytes.ensures.name, (stored.0, stored.1)), number-key c.args.key.now c.in_ok-of_bytes.field-0 (sym c.in_ok-of_bytes.ensures.value), stored.2)

pub returns-clause-every : goal.returns-clause-every
returns-clause-every c entry is at_key at_value =
    let form = form_from_number c.args.key.now entry.0 c.told-key c.fits-key is.0 at_key in
    let key : c.in_ok-of_bytes.field-0 ≡ entry.0 = form-same c.in_ok-of_bytes.field-0 entry.0 c.in_ok-of_bytes.ensures.name is.0 (c.in_ok-of_bytes.ensures.value ∙ form) in
    let some : Some c.in_ok-decode.field-0 ≡ Some entry.1 = c.in_ok-decode.ensures.every entry.1 is.1.0 is.1.1 at_value in
    let stored : c.in_ok-decode.field-0 ≡ entry.1 = cc some in
    λ i. Some (key i, stored i)
