use Rattle.std.proofs.Common.{◌≡◌, length, get_or, refl, sym, subst, ap, ◌∙◌, true≢false, Some, rules}
use Rattle.row_codec.specs.declared.stored.Stored.{Stored}
use Rattle.row_codec.specs.Stored.{IsStored}
use Rattle.row_codec.proofs.ValueLemmas.{point_part, label_part, value_of_parts, same_place}
use Rattle.row_codec.proofs.stored.Stored.decode.Goals as goal

pub returns-in_err-point_of_bytes-clause-every : goal.returns-in_err-point_of_bytes-clause-every
returns-in_err-point_of_bytes-clause-every c stored value formed is =
    let none = c.in_err-point_of_bytes.ensures.every stored.point value.point (point_part c.args.bytes.now stored is) in
    absurd (cc none)

pub returns-in_err-label_of_bytes-clause-every : goal.returns-in_err-label_of_bytes-clause-every
returns-in_err-label_of_bytes-clause-every c stored value formed is =
    let none = c.in_err-label_of_bytes.ensures.every stored.label value.label (label_part c.args.bytes.now stored value is) in
    absurd (cc none)

pub returns-then-is_of_form-clause-form : goal.returns-then-is_of_form-clause-form
returns-then-is_of_form-clause-form c =
    let size : length c.args.bytes.now ≡ 649 = search rules in
    let pairs : length c.pairs_of_bytes.result ≡ 64 = search rules in
    let label = c.in_ok-label_of_bytes.ensures.form in (
      record { point = c.in_ok-point_of_bytes.ensures.form.0; size = pairs; pairs = c.pairs_of_bytes.ensures.fits; label = label.0 },
      c.is_of_form.ensures.0 c.if-is_of_form.true,
      value_of_parts c.args.bytes.now _ size c.in_ok-point_of_bytes.ensures.form.1 refl c.pairs_of_bytes.ensures.bytes (sym label.1),
    )

pub returns-then-is_of_form-clause-every : goal.returns-then-is_of_form-clause-every
returns-then-is_of_form-clause-every c stored value formed is =
    let made : Stored = record { point = c.in_ok-point_of_bytes.field-0; count = get_or c.args.bytes.now 8 0; pairs = c.pairs_of_bytes.result; label = c.in_ok-label_of_bytes.field-0 } in
    let some : Some c.in_ok-point_of_bytes.field-0 ≡ Some stored.point = c.in_ok-point_of_bytes.ensures.every stored.point value.point (point_part c.args.bytes.now stored is) in
    let point : made.point ≡ stored.point = cc some in
    let labelled : Some c.in_ok-label_of_bytes.field-0 ≡ Some stored.label = c.in_ok-label_of_bytes.ensures.every stored.label value.label (label_part c.args.bytes.now stored value is) in
    let label : made.label ≡ stored.label = cc labelled in
    let pairs : length c.pairs_of_bytes.result ≡ 64 = search rules in
    ap Some (same_place c.args.bytes.now made stored value point refl c.pairs_of_bytes.ensures.bytes pairs c.pairs_of_bytes.ensures.fits label is)

pub returns-else-is_of_form-clause-every : goal.returns-else-is_of_form-clause-every
returns-else-is_of_form-clause-every c stored value formed is =
    let made : Stored = record { point = c.in_ok-point_of_bytes.field-0; count = get_or c.args.bytes.now 8 0; pairs = c.pairs_of_bytes.result; label = c.in_ok-label_of_bytes.field-0 } in
    let some : Some c.in_ok-point_of_bytes.field-0 ≡ Some stored.point = c.in_ok-point_of_bytes.ensures.every stored.point value.point (point_part c.args.bytes.now stored is) in
    let point : made.point ≡ stored.point = cc some in
    let labelled : Some c.in_ok-label_of_bytes.field-0 ≡ Some stored.label = c.in_ok-label_of_bytes.ensures.every stored.label value.label (label_part c.args.bytes.now stored value is) in
    let label : made.label ≡ stored.label = cc labelled in
    let pairs : length c.pairs_of_bytes.result ≡ 64 = search rules in
    let same : made ≡ stored = same_place c.args.bytes.now made stored value point refl c.pairs_of_bytes.ensures.bytes pairs c.pairs_of_bytes.ensures.fits label is in
    absurd (true≢false (sym (c.is_of_form.ensures.1 (subst IsStored (sym same) formed)) ∙ c.if-is_of_form.false))
