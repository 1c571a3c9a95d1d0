use Rattle.std.specs.Int.{w32}
use Rattle.std.proofs.lemmas.Nat.Bits.{bit_at-trailing_zeros}
use Rattle.split_condense.proofs.lowering.lowest_used.Goals as goal

pub returns-clause-used : goal.returns-clause-used
returns-clause-used c = (bit_at-trailing_zeros w32 c.args.used c.requires c.ranges.used.fits).1
