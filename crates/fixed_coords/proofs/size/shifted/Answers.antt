use Rattle.std.proofs.Common.{◌≡◌, ◌^◌, ◌≤◌, ◌*◌, arith}
use Rattle.std.proofs.lemmas.Nat.{le-div}
use Rattle.fixed_coords.proofs.Scaling.{many_zeros, ten_to_positive}
use Rattle.fixed_coords.proofs.size.shifted.Goals as goal

-- that many zeros make any number too big
pub returns-then-zeros-gt12 : goal.returns-then-zeros-gt12
returns-then-zeros-gt12 c = λ small. omega (arith, many_zeros c.args.size c.args.zeros (omega arith) (omega arith))

pub nonzero_div-power : goal.nonzero_div-power
nonzero_div-power c = rw c.pow-power.ensures (ten_to_positive c.args.zeros)

-- the quotient tells whether the product is too big
pub returns-else-size-power : goal.returns-else-size-power
returns-else-size-power c = λ small.
    let power : c.pow-power.result ≡ 10 ^ c.args.zeros = c.pow-power.ensures in
    let fits : c.args.size * c.pow-power.result ≤ 10 ^ 12 = rw power small in
    omega (arith, le-div c.args.size (10 ^ 12) c.pow-power.result (rw power (ten_to_positive c.args.zeros)) fits)
