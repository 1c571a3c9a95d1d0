use Rattle.query_lang.proofs.Readings.{reading_is}
use Rattle.query_lang.proofs.degrees.reading.Goals as goal

pub returns : goal.returns
returns c = reading_is c.args.text.now c.read_fixed.result c.read_fixed.ensures
