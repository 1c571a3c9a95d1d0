use Rattle.std.proofs.Common.{◌≡◌, ℕ, List, ◌++◌, length, replicate, ◌∙◌, ap, Some, None, sym, true≢false}
use Rattle.row_codec.specs.Stored.{place_value}
use Rattle.store_tables.proofs.KeyLemmas.{form_from_number, form-same}
use Rattle.store_tables.proofs.LookupLemmas.{number-key}
use Rattle.table_updates.proofs.Values.{value_longer, value_shorter}
use Rattle.table_updates.proofs.reading.entry_of_version1.Goals as goal

pub returns-in_err-of_bytes-clause-every : goal.returns-in_err-of_bytes-clause-every
returns-in_err-of_bytes-clause-every c entry name place at_key at_value =
    let form = form_from_number c.args.key.now entry.0 c.told-key c.fits-key name at_key in
    absurd (true≢false (sym (c.in_err-of_bytes.ensures.some.1 (entry.0, name, form))))

pub returns-in_err-decode-clause-every : goal.returns-in_err-decode-clause-every
returns-in_err-decode-clause-every c entry name place at_key at_value =
    let value : c.value_of_version2-longer.result ≡ place_value entry.1 = c.value_of_version2-longer.ensures ∙ ap (λ (bytes : List ℕ). bytes ++ replicate 64 0) at_value ∙ value_longer entry.1 place.1 in
    let none : None ≡ Some entry.1 = c.in_err-decode.ensures.every entry.1 place.0.0 place.0.1 value in
    absurd (cc none)

pub returns-clause-form : goal.returns-clause-form
returns-clause-form c =
    let stored = c.in_ok-decode.ensures.form in
    let long : length c.args.value.now ≡ 585 = c.told-value in
    let short = value_shorter c.args.value.now c.value_of_version2-longer.result c.in_ok-decode.field-0 stored.0 long c.value_of_version2-longer.ensures stored.2 in
    (c.in_ok-of_bytes.ensures.name, ((stored.0, stored.1), short.label), number-key c.args.key.now c.in_ok-of_bytes.field-0 (sym c.in_ok-of_bytes.ensures.value), short.value)

pub returns-clause-every : goal.returns-clause-every
returns-clause-every c entry name place at_key at_value =
    let form = form_from_number c.args.key.now entry.0 c.told-key c.fits-key name at_key in
    let key : c.in_ok-of_bytes.field-0 ≡ entry.0 = form-same c.in_ok-of_bytes.field-0 entry.0 c.in_ok-of_bytes.ensures.name name (c.in_ok-of_bytes.ensures.value ∙ form) in
    let value : c.value_of_version2-longer.result ≡ place_value entry.1 = c.value_of_version2-longer.ensures ∙ ap (λ (bytes : List ℕ). bytes ++ replicate 64 0) at_value ∙ value_longer entry.1 place.1 in
    let some : Some c.in_ok-decode.field-0 ≡ Some entry.1 = c.in_ok-decode.ensures.every entry.1 place.0.0 place.0.1 value in
    let stored : c.in_ok-decode.field-0 ≡ entry.1 = cc some in
    λ i. Some (key i, stored i)
