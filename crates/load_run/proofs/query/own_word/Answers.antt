use Rattle.std.proofs.Common.{◌∙◌, length, ap, arith}
use Rattle.std.proofs.lemmas.Fmt.{length-decimal-le}
use Rattle.load_run.proofs.query.own_word.Goals as goal

pub word_of-requires-clause-fits : goal.word_of-requires-clause-fits
word_of-requires-clause-fits c =
    let short = length-decimal-le 3 c.args.number (omega arith) (omega (arith, c.ranges.number.fits)) (omega (arith, c.ranges.number.fits)) in
    omega (arith, short, ap length (c.as_str.ensures.value ∙ c.in-Ok.ensures.ok))
