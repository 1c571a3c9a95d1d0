use Rattle.std.proofs.Common.{◌<◌, ◌≤◌, ◌+◌, ◌-◌, length, if◌then◌else◌}
use Rattle.page_face.specs.Number.{number}
use Rattle.page_face.specs.Cells.{key_at}
use Rattle.btree_nodes.proofs.key.place.Given as goal

abbrev pub invariant-halve : goal.invariant-halve
invariant-halve l = record {
  order : l.low ≤ l.high;
  within : l.high ≤ l.count;
  before : 0 < l.low → key_at (length l.key) l.width l.page (l.low - 1) < number l.key + (if l.past then 1 else 0);
  after : l.high < l.count → number l.key + (if l.past then 1 else 0) ≤ key_at (length l.key) l.width l.page l.high;
}

abbrev pub decreases-halve : goal.decreases-halve
decreases-halve l = l.high - l.low
