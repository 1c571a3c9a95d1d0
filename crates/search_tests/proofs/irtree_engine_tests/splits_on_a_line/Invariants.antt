use Rattle.std.proofs.Common.{◌≡◌}
use Rattle.search_tests.proofs.irtree_engine_tests.splits_on_a_line.Given as goal

abbrev pub invariant-loop-x : goal.invariant-loop-x
invariant-loop-x g l = record {
  same_loan : l.engine.store.disk.ghost_name ≡ l.fn.engine.store.disk.ghost_name;
}
