use Rattle.std.proofs.Common.{◌≡◌, ◌≤◌, ◌*◌, ◌^◌, take}
use Rattle.load_run.specs.Asking.{cost_in}
use Rattle.load_run.proofs.found.count_of.Given as goal

abbrev pub invariant-loop-hit : goal.invariant-loop-hit
invariant-loop-hit l = (l.cost ≡ cost_in (take l.hit-index l.hits)) × (l.cost ≤ l.hit-index * 2 ^ 64)
