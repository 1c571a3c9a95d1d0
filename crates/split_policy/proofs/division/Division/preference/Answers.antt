use Rattle.split_policy.specs.Quadratic.{preference_of}
use Rattle.split_policy.proofs.division.Division.preference.Goals as goal

pub returns : goal.returns
unfolding preference_of
returns c = rw (c.abs_diff.ensures, c.growth-if_staying.ensures, c.growth-if_moving.ensures)
