use Rattle.std.proofs.Common.{arith}
use Rattle.irtree_tests.proofs.runs.bytes_of.Goals as goal

pub read-requires : goal.read-requires
read-requires g c = omega (arith, c.in_ok-bytes.ensures.len, c.deref_mut.ensures.len)
