use Rattle.std.proofs.Common.{arith}
use Rattle.spatial_base.proofs.Names.{utf8_in}
use Rattle.spatial_base.proofs.key.Key.text.Goals as goal

pub from_utf8_unchecked-requires : goal.from_utf8_unchecked-requires
from_utf8_unchecked-requires c = utf8_in c.self.inside.bytes _ c.if-self-ne0.false c.self.invariant.1 (omega arith)
