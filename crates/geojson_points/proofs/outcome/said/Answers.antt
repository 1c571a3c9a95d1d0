use Rattle.std.proofs.Common.{Err, refl}
use Rattle.geojson_points.proofs.outcome.said.Goals as goal

pub returns-in-Err-Skip : goal.returns-in-Err-Skip
returns-in-Err-Skip c = (Err c.in-Err-Skip.reason, rw c.in-Err-Skip.field-0-is at c.in-Err-Skip.ensures, refl)
