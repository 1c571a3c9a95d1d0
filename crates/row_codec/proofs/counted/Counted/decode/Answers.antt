use Rattle.std.proofs.Common.{◌≡◌, length, Some, rules}
use Rattle.row_codec.proofs.ValueLemmas.{counted_of_parts, word_part, places_part}
use Rattle.row_codec.proofs.counted.Counted.decode.Goals as goal

pub returns-in_err-word-clause-every : goal.returns-in_err-word-clause-every
returns-in_err-word-clause-every c counted is e =
    let none = c.in_err-word.ensures.every counted.word is.word (word_part c.args.bytes.now counted is e) in
    absurd (cc none)

pub returns-clause-form : goal.returns-clause-form
returns-clause-form c =
    let size : length c.args.bytes.now ≡ 37 = search rules in (
      record { word = c.in_ok-word.ensures.form.0; places = c.u32_at-places.type_inv },
      counted_of_parts c.args.bytes.now _ size c.in_ok-word.ensures.form.1 c.u32_at-places.ensures,
    )

pub returns-clause-every : goal.returns-clause-every
returns-clause-every c counted is e =
    let some : Some c.in_ok-word.word ≡ Some counted.word = c.in_ok-word.ensures.every counted.word is.word (word_part c.args.bytes.now counted is e) in
    let word : c.in_ok-word.word ≡ counted.word = cc some in
    let places : c.u32_at-places.result ≡ counted.places = places_part c.args.bytes.now counted _ is e c.u32_at-places.type_inv c.u32_at-places.ensures in
    λ i. Some (record { word = word i; places = places i })
