use Rattle.std.proofs.Math.Facts.{Fits-lt-pow}
use Rattle.row_codec.proofs.ByteLemmas.{long_read}
use Rattle.row_codec.proofs.bytes.u64_at.Goals as goal

pub returns : goal.returns
returns c = long_read c.args.bytes.now c.args.at _ c.requires (λ i. Fits-lt-pow (c.type_inv.bytes i)) c.from_be_bytes.ensures
