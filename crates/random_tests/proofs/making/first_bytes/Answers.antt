use Rattle.std.proofs.Common.{arith}
use Rattle.random_tests.proofs.making.first_bytes.Goals as goal

pub read-requires : goal.read-requires
read-requires c = omega (arith, c.in_ok-bytes.ensures.len, c.deref_mut.ensures.len)
