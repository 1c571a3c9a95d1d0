use Rattle.std.proofs.Common.{◌-◌, ◌^◌, arith}
use Rattle.std.proofs.lemmas.Nat.Bits.{bit_at_and, bit_at_ones, bit_at-lt}
use Rattle.irtree_insert.proofs.part.low_bits.Goals as goal

pub returns : goal.returns
returns c = λ i l.
    let a = bit_at_and c.args.mask (2 ^ 32 - 1) i in
    let b = bit_at_ones 32 i l in
    let d = bit_at-lt c.args.mask i in
    omega arith
