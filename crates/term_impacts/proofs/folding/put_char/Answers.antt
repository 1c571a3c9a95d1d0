use Rattle.std.proofs.Common.{◌≡◌, ◌++◌, take, length, ap, ◌∙◌, arith}
use Rattle.std.proofs.lemmas.Slice.{take-put_mid, drop-put_mid}
use Rattle.std.specs.Prelude.{encode_utf8}
use Rattle.term_impacts.proofs.folding.put_char.Goals as goal

pub returns-clause-room : goal.returns-clause-room
returns-clause-room c =
    let same = c.as_bytes-character.ensures.value ∙ c.encode_utf8.ensures.value in
    let written = c.copy_from_slice.ensures.after in
    let n = length c.as_bytes-character.result.now in
    let len : n ≡ length (encode_utf8 c.args.c) = ap length same in (
      omega arith,
      omega arith,
      take-put_mid c.args.len _ c.args.form.now c.copy_from_slice.new.self _ (omega (arith, ap length written)) (omega arith)
          ∙ ap (λ bs. take c.args.len c.args.form.now ++ bs) (written ∙ same),
      drop-put_mid c.args.len _ c.args.form.now c.copy_from_slice.new.self _ (omega arith) (omega arith) (omega (arith, ap length written)),
    )
