use Rattle.std.proofs.Common.{arith, ◌∙◌}
use Rattle.btree_nodes.proofs.Numbers.{compare-halves}
use Rattle.btree_nodes.proofs.key.joined.Goals as goal

pub returns : goal.returns
returns c =
    c.then.ensures
    ∙ compare-halves c.args.size c.args.first.now c.args.second.now c.args.front c.args.rest c.requires.length (λ i. let f = c.type_inv.first i in omega arith) (λ i. let f = c.type_inv.second i in omega arith)
    c.requires.front c.requires.rest
