use Rattle.std.proofs.Common.{length}
use Rattle.group_search.proofs.keys.+least_keys.Given as goal

abbrev pub decreases-least_keys : goal.decreases-least_keys
decreases-least_keys l = length l.firsts.now
