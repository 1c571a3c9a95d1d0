use Rattle.std.proofs.Common.{rules}
use Rattle.std.proofs.lemmas.List.Sorted.{answers_always}
use Rattle.std.specs.Ordering.{is_lt}
use Rattle.term_impacts.proofs.PairsLemmas.{word_cmp, ascending_answer}
use Rattle.term_impacts.proofs.words.is_ascending.Goals as goal

pub returns : goal.returns
returns c =
    ascending_answer _ _ (c.is_sorted_by.ensures.cases (λ p q. is_lt (word_cmp p.0 q.0)) (answers_always _ _ _ (λ f a r f' call. search rules)))
