use Rattle.std.proofs.Common.{length}
use Rattle.node_filter.proofs.ids.+number_among.Given as goal

-- the list gets shorter
abbrev pub decreases-number_among : goal.decreases-number_among
decreases-number_among l = length l.list.now
