use Rattle.std.proofs.Common.{[]}
use Rattle.best_first.proofs.Cutting.{gave-freely}
use Rattle.search_tests.proofs.best_first_tests.TableRanked.open.Goals as goal

pub returns-clause-gives : goal.returns-clause-gives
returns-clause-gives g c = gave-freely (λ item. Unit {0}) c.args.level (⊥ × ⊥) [] c.args._most c.given.result (λ item. tt) (λ f. f.0) c.given.ensures.children
