use Rattle.geojson_points.proofs.SomeOutcome.{some_outcome}
use Rattle.geojson_points.proofs.outcome.outcome_is_some.Goals as goal

pub returns : goal.returns
returns c = λ bytes only. some_outcome bytes only
