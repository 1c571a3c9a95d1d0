use Rattle.std.proofs.Common.{rules}
use Rattle.std.proofs.lemmas.List.Sorted.{answers_always}
use Rattle.std.specs.Ordering.{is_lt}
use Rattle.spatial_base.specs.Key.{key_cmp, key_cmp_total}
use Rattle.place_values.proofs.Ascending.{ascending_answer}
use Rattle.place_map.proofs.restored.are_ascending.Goals as goal

pub returns : goal.returns
returns c =
    ascending_answer key_cmp_total (λ p. p.0) _ _ (c.is_sorted_by.ensures.cases (λ p q. is_lt (key_cmp p.0 q.0)) (answers_always _ _ _ (λ f a r f' call. search rules)))
