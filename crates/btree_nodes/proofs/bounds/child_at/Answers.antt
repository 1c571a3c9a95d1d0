use Rattle.std.proofs.Common.{◌∙◌}
use Rattle.btree_nodes.proofs.Spots.{entry-child}
use Rattle.btree_nodes.proofs.bounds.child_at.Goals as goal

pub returns : goal.returns
returns c = c.number_at.ensures ∙ entry-child c.args.form c.args.page.now c.args.at c.requires.at
