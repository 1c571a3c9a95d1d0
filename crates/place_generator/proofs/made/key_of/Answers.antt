use Rattle.std.proofs.Common.{◌≡◌, suc, ◌+◌, ◌≤◌, ◌++◌, codes, decimal, length, arith, ap, ◌∙◌, Err, refl}
use Rattle.std.proofs.lemmas.Fmt.{length-decimal-le}
use Rattle.spatial_base.specs.declared.key.KeyFault.TheVariants.{Empty, TooLong}
use Rattle.place_generator.proofs.made.key_of.Goals as goal

-- `m` and the number have 2 to 11 bytes
pub unreachable-requires : goal.unreachable-requires
unreachable-requires c =
    let is : c.as_str.result.now ≡ codes "m" ++ decimal c.args.number = c.as_str.ensures.value ∙ c.in-Ok.ensures.ok in
    let few : length (decimal c.args.number) ≤ 10 = length-decimal-le 10 c.args.number (omega arith) (omega (arith, c.ranges.number.fits)) (omega (arith, c.ranges.number.fits)) in
    let long : length c.as_str.result.now ≡ suc (length (decimal c.args.number)) = ap length is in
    elim c.in-Err-of_text.field-0 as (λ fault. c.of_text.result ≡ Err fault → ⊥) [
      | Empty ↦ λ e. let z = c.of_text.ensures.empty.0 (rw e refl) in omega arith
      | TooLong ↦ λ e. let z = c.of_text.ensures.too_long.0 (rw e refl) in omega arith
    ] c.in-Err-of_text.is
