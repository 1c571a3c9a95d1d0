use Rattle.std.proofs.Common.{arith}
use Rattle.std.proofs.lemmas.Int.{ints}
use Rattle.query_lang.proofs.Lines.{rect_step}
use Rattle.query_lang.proofs.query.rect_part.Goals as goal

pub returns : goal.returns
returns c =
    rect_step c.args.text.now _ _ _ _ _ _ _ _ _ _ _ _ _ _ _ c.in_ok-west.ensures.says c.in_ok-south.ensures.says c.in_ok-east.ensures.says c.in_ok-north.ensures.says
    c.in_ok-rect.ensures (omega (arith, ints)) (omega (arith, ints)) (omega (arith, ints)) (omega (arith, ints)) (omega (arith, ints)) (omega (arith, ints))
