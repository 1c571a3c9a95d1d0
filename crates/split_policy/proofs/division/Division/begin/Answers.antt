use Rattle.std.proofs.Common.{ap}
use Rattle.split_policy.specs.declared.group.Group.{Group}
use Rattle.split_policy.proofs.Divisions.{begun-divided}
use Rattle.split_policy.proofs.division.Division.begin.Goals as goal

pub returns-clause-divided : goal.returns-clause-divided
returns-clause-divided c =
    rw (c.bit.ensures, c.bit-2.ensures, c.bit-3.ensures)
    (begun-divided c.args.first c.args.second c.of.result c.of-2.result c.requires.order c.requires.within
    (ap (λ (g : Group). g.count) c.of.ensures) (ap (λ (g : Group). g.count) c.of-2.ensures))
