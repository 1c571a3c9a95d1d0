use Rattle.std.proofs.Common.{arith}
use Rattle.split_policy.specs.Quadratic.{rest_moves}
use Rattle.split_policy.proofs.Divisions.{all-moved, stopped-mask, stopped-ends}
use Rattle.split_policy.proofs.division.Division.end.Goals as goal

pub returns-then-self-remaining-le-FEWEST-clause-ends : goal.returns-then-self-remaining-le-FEWEST-clause-ends
returns-then-self-remaining-le-FEWEST-clause-ends c = rest_moves c.args.self.now (omega arith)

pub returns-then-self-remaining-le-FEWEST-clause-mask : goal.returns-then-self-remaining-le-FEWEST-clause-mask
returns-then-self-remaining-le-FEWEST-clause-mask c = all-moved c.args.self.now c.requires.divided (omega arith)

pub returns-else-self-remaining-le-FEWEST-clause-ends : goal.returns-else-self-remaining-le-FEWEST-clause-ends
returns-else-self-remaining-le-FEWEST-clause-ends c = stopped-ends c.args.rects.now c.args.self.now c.requires.closed (omega arith)

pub returns-else-self-remaining-le-FEWEST-clause-mask : goal.returns-else-self-remaining-le-FEWEST-clause-mask
returns-else-self-remaining-le-FEWEST-clause-mask c = stopped-mask c.args.self.now c.requires.divided c.requires.closed (omega arith)
