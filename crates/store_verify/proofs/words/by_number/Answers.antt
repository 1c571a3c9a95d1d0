use Rattle.std.proofs.Common.{List, subst}
use Rattle.std.specs.List.Sorted.{IsPermutation}
use Rattle.store_verify.specs.Words.{Named}
use Rattle.store_verify.proofs.Inverse.{sorted-first}
use Rattle.store_verify.proofs.words.by_number.Goals as goal

pub returns-clause-moved : goal.returns-clause-moved
returns-clause-moved c =
    subst (λ (rows : List Named). IsPermutation rows c.sort.new.self.items) c.in_ok-rows.ensures c.in_ok-sort.ensures.permutation

pub returns-clause-sorted : goal.returns-clause-sorted
returns-clause-sorted c = sorted-first c.sort.new.self.items c.in_ok-sort.ensures.sorted
