use Rattle.std.proofs.Common.{◌-◌, length, min, ap, ◌∙◌, arith}
use Rattle.script_run.proofs.Lines.{kept-extend}
use Rattle.script_run.proofs.script.extend.Goals as goal

pub returns-in-Ok-clause-ok : goal.returns-in-Ok-clause-ok
returns-in-Ok-clause-ok c = c.in-Ok.ensures.items ∙ kept-extend c.args.line.now.items c.args.part.now c.min.result c.requires (c.min.ensures ∙ ap (λ n. min (length c.args.part.now) (65537 - n)) (omega arith))
