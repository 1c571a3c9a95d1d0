use Rattle.std.proofs.Common.{rules, ◌≡◌, refl, length}
use Rattle.std_devices.proofs.InRange.{one_more}
use Rattle.std_devices.proofs.store_file.KeptFile.read.Goals as goal

pub returns-in-Ok-eq0-clause-read : goal.returns-in-Ok-eq0-clause-read
returns-in-Ok-eq0-clause-read g c = one_more _ _ c.loop.done _ _ _ _ _ _ c.loop.invariant.1 c.read_some.ensures.made (search rules) (search rules)

pub returns-in-Ok-eq0-2-clause-read : goal.returns-in-Ok-eq0-2-clause-read
returns-in-Ok-eq0-2-clause-read g c = one_more _ _ c.loop.done _ _ _ _ _ _ c.loop.invariant.1 c.read_some.ensures.made (search rules) (search rules)

pub returns-in-Err-2-clause-read : goal.returns-in-Err-2-clause-read
returns-in-Err-2-clause-read g c = one_more _ _ c.loop.done _ _ _ _ _ _ c.loop.invariant.1 c.read_some.ensures.made (search rules) (search rules)

pub loop-preserved : goal.loop-preserved
loop-preserved g c = (search rules, one_more _ _ c.loop.done _ _ _ _ _ _ c.loop.invariant.1 c.read_some.ensures.made (search rules) (search rules))
