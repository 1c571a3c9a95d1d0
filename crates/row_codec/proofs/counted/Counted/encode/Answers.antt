use Rattle.std.proofs.Common.{rules}
use Rattle.row_codec.proofs.counted.Counted.encode.Goals as goal

pub returns-clause-value : goal.returns-clause-value
returns-clause-value c = record { word = c.bytes.ensures.valid; places = search rules }
