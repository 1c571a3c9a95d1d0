use Rattle.std.proofs.Common.{◌≡◌, take}
use Rattle.node_rows.specs.Impacts.{impact_in}
use Rattle.node_rows.proofs.pairing.impact_of.Given as goal

abbrev pub invariant-loop-pair : goal.invariant-loop-pair
invariant-loop-pair l = l.impact ≡ impact_in (take l.pair-index l.words) l.number
