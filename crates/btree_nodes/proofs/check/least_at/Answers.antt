use Rattle.std.proofs.Common.{arith, ◌∙◌, ap, sym}
use Rattle.btree_nodes.specs.Nodes.{half_of_width}
use Rattle.btree_nodes.proofs.Checks.{width-leaf, least-few}
use Rattle.btree_nodes.proofs.check.least_at.Goals as goal

pub returns-then-level-eq0-clause-is : goal.returns-then-level-eq0-clause-is
returns-then-level-eq0-clause-is c = c.half.ensures.is ∙ ap half_of_width (sym (width-leaf c.args.form c.args.level c.if-level-eq0.true))

pub returns-then-level-eq0-clause-some : goal.returns-then-level-eq0-clause-some
returns-then-level-eq0-clause-some c = let f = least-few c.args.level in let h = c.half.ensures.least in omega arith
