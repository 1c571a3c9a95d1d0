use Rattle.std.proofs.Common.{◌≤◌, length}
use Rattle.std.specs.List.{AllByRecursion}
use Rattle.best_first.specs.Items.{IsGivenAt}
use Rattle.search_tests.proofs.best_first_tests.given.Given as goal

abbrev pub invariant-loop-at : goal.invariant-loop-at
invariant-loop-at l = record {
  few : length l.items.items ≤ 32;
  children : AllByRecursion (IsGivenAt l.level) l.items.items;
}
