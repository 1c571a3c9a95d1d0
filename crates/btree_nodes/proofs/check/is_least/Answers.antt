use Rattle.std.proofs.Common.{sym, ◌∙◌}
use Rattle.btree_nodes.proofs.Checks.{clear-number, number-clear}
use Rattle.btree_nodes.proofs.check.is_least.Goals as goal

pub returns : goal.returns
returns c = (λ h. clear-number c.args.key.now (sym c.are_zero.ensures ∙ h), λ h. c.are_zero.ensures ∙ number-clear c.args.key.now h)
