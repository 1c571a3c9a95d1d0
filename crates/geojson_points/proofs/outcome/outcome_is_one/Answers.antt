use Rattle.geojson_points.proofs.OneOutcome.{one_outcome}
use Rattle.geojson_points.proofs.outcome.outcome_is_one.Goals as goal

pub returns : goal.returns
returns c = λ bytes only one other. one_outcome bytes only one other
