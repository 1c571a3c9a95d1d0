use Rattle.std.proofs.Common.{rules, nat_lt}
use Rattle.std.proofs.lemmas.List.Sorted.{answers_always}
use Rattle.row_codec.proofs.PairLemmas.{ascending_answer}
use Rattle.row_codec.proofs.pairs.is_ascending.Goals as goal

pub returns : goal.returns
returns c =
    ascending_answer _ _ (c.is_sorted_by.ensures.cases (λ p q. nat_lt p.0 q.0) (answers_always _ _ _ (λ f a r f' call. search rules)))
