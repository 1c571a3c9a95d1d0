use Rattle.std.proofs.Common.{◌≡◌}
use Rattle.random_tests.proofs.log_tests.look_at_places.Given as goal

abbrev pub invariant-loop-number : goal.invariant-loop-number
invariant-loop-number g l = record {
  same_loan : l.engine.store.disk.ghost_name ≡ l.fn.engine.store.disk.ghost_name;
}
