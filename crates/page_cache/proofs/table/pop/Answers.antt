use Rattle.page_cache.proofs.Tables.{popped}
use Rattle.page_cache.proofs.table.pop.Goals as goal

pub returns-clause-value : goal.returns-clause-value
returns-clause-value c = popped c.args.table.now c.pop.new.self c.pop.result c.pop.ensures.entries c.pop.ensures.updates
