use Rattle.std.proofs.Common.{◌∙◌, ap, sym, arith}
use Rattle.std.proofs.lemmas.Bool.{eqb-true}
use Rattle.rtree_nodes.specs.Slots.{filled}
use Rattle.rtree_nodes.proofs.Formed.{form-slots}
use Rattle.split_condense.proofs.taking.is_lone.Goals as goal

pub returns-then-level-gt0-clause-lone : goal.returns-then-level-gt0-clause-lone
returns-then-level-gt0-clause-lone c = λ form right one.
    (let a = c.if-level-gt0.true in omega arith, sym (ap filled (form-slots c.args.bytes.now form)) ∙ sym (c.count.ensures.filled form) ∙ eqb-true c.count.result 1 one)
