use Rattle.std.proofs.Common.{◌≡◌, length, ap, ◌∙◌, rules}
use Rattle.std.specs.Int.{cast_unsigned, to_be_bytes, w32}
use Rattle.row_codec.proofs.ValueLemmas.{length-label_form, written}
use Rattle.row_codec.proofs.stored.Stored.encode.Goals as goal

pub returns-clause-bytes : goal.returns-clause-bytes
returns-clause-bytes c =
    let stored = c.args.self.now in
    let x : c.to_be_bytes.result ≡ to_be_bytes w32 (cast_unsigned w32 stored.point.x) = search rules in
    let y : c.to_be_bytes-2.result ≡ to_be_bytes w32 (cast_unsigned w32 stored.point.y) = search rules in
    let label = c.bytes.ensures.form in
    let long : length c.bytes.result ≡ 64 = ap length label ∙ length-label_form stored.label c.bytes.ensures.valid in
    let size : length c.write_at-4.new.out ≡ 649 = search rules in
    written stored _ _ _ _ _ _ _ _ x y label long c.write_at.ensures.front c.write_at-2.ensures.front c.write_at-3.ensures.front c.write_pairs.ensures.front c.write_at-4.ensures.front size

pub returns-clause-value : goal.returns-clause-value
returns-clause-value c = record {
  point = search rules;
  size = search rules;
  pairs = c.write_pairs.ensures.fits;
  label = c.bytes.ensures.valid;
}
