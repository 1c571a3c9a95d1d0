use Rattle.node_filter.proofs.Marking.{slot-added, slot-beside}
use Rattle.boolean_queries.proofs.near.with_slot.Goals as goal

pub returns-then-is_wanted-clause-here : goal.returns-then-is_wanted-clause-here
returns-then-is_wanted-clause-here c = slot-added c.args.mask c.args.at c.args.is_wanted c.requires c.if-is_wanted.true

pub returns-then-is_wanted-clause-others : goal.returns-then-is_wanted-clause-others
returns-then-is_wanted-clause-others c = λ i ne. slot-beside c.args.mask c.args.at i c.requires ne
