use Rattle.std.proofs.Common.{refl}
use Rattle.rtree_nodes.proofs.Rounds.{value-broken}
use Rattle.boolean_queries.proofs.near.near_slot.Goals as goal

pub returns-in-Err-clause-breaks : goal.returns-in-Err-clause-breaks
returns-in-Err-clause-breaks c = (c.in-Err.ensures.rule, value-broken c.args.page.now c.args.at c.requires.within (c.in-Err.ensures.value.0 refl))
