use Rattle.std.proofs.Common.{arith}
use Rattle.paged_map.proofs.Maps.{number-low}
use Rattle.paged_map.proofs.layout.least_key.Goals as goal

pub returns-clause-least : goal.returns-clause-least
returns-clause-least c = number-low c.args.form.key (omega arith)
