use Rattle.std.proofs.Common.{◌≡◌}
use Rattle.random_tests.proofs.log_tests.look_at_all.Given as goal

abbrev pub invariant-loop-line : goal.invariant-loop-line
invariant-loop-line g l = record {
  same_loan : l.engine.store.disk.ghost_name ≡ l.fn.engine.store.disk.ghost_name;
}
