use Rattle.std.proofs.Common.{◌∙◌}
use Rattle.group_sum.proofs.Tables.{first-least}
use Rattle.group_sum.proofs.table.Table.new.Goals as goal

pub returns-clause-least : goal.returns-clause-least
returns-clause-least c = λ lists. first-least lists c.push.new.self.items c.new-kept.result.items c.from_vec-picks.result c.new-kept.ensures.items (c.from_vec-picks.ensures ∙ c.new.ensures.items) c.in_ok-push.ensures.items
