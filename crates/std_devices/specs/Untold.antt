-- The world of a device that tells no content.
use Rattle.std.specs.Prelude.{ℕ, []}
use Rattle.disk_model.specs.World.{World}

-- the two counts of faults alone mean something
abbrev pub untold : ℕ → ℕ → World
untold faults sink_faults = record {
  seen = λ area i. 0;
  said = [];
  reads = [];
  faults = faults;
  sink_faults = sink_faults;
  may_leave = λ image. Unit {0};
  moment = 0;
  left_since = λ t image said. Unit {0};
}
