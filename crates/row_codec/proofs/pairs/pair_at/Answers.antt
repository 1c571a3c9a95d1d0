use Rattle.row_codec.proofs.PairLemmas.{pair_read}
use Rattle.row_codec.proofs.pairs.pair_at.Goals as goal

pub returns-clause-bytes : goal.returns-clause-bytes
returns-clause-bytes c = pair_read c.args.bytes.now c.args.at _ c.requires c.u64_at.ensures
