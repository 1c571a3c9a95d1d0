use Rattle.std.proofs.Common.{◌<◌, ◌^◌, ap, ◌∙◌}
use Rattle.std.proofs.lemmas.Int.{of_z-to_z}
use Rattle.std.specs.Int.{cast_signed, cast_unsigned, w32}
use Rattle.row_codec.proofs.ValueLemmas.{AreCoordinates, point_made, point_every}
use Rattle.row_codec.proofs.stored.point_of_bytes.Goals as goal

coordinates : (c : goal.After-new)
    → AreCoordinates c.args.bytes.now c.u32_at.result c.u32_at-2.result (cast_signed w32 (cast_unsigned w32 c.cast_signed-x.result)) (cast_signed w32 (cast_unsigned w32 c.cast_signed-y.result))
coordinates c =
    let first_fits : c.u32_at.result < 2 ^ 32 = c.u32_at.type_inv in
    let second_fits : c.u32_at-2.result < 2 ^ 32 = c.u32_at-2.type_inv in
    record {
      size = c.requires;
      first = c.u32_at.ensures;
      second = c.u32_at-2.ensures;
      first_fits = first_fits;
      second_fits = second_fits;
      x_is = ap (λ z. cast_signed w32 (cast_unsigned w32 z)) c.cast_signed-x.ensures ∙ ap (cast_signed w32) (of_z-to_z w32 c.u32_at.result first_fits);
      y_is = ap (λ z. cast_signed w32 (cast_unsigned w32 z)) c.cast_signed-y.ensures ∙ ap (cast_signed w32) (of_z-to_z w32 c.u32_at-2.result second_fits);
    }

pub returns-clause-form : goal.returns-clause-form
returns-clause-form c = point_made c.new.result _ _ _ _ _ (coordinates c) c.new.ensures.some c.new.ensures.value

pub returns-clause-every : goal.returns-clause-every
returns-clause-every c = point_every c.new.result _ _ _ _ _ (coordinates c) c.new.ensures.some c.new.ensures.value
