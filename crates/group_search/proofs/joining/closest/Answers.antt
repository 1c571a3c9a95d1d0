use Rattle.std.proofs.Common.{◌≡◌, ◌∙◌, IsPermutation, List, Vec, Global, map, ap, sym, subst}
use Rattle.std.proofs.lemmas.List.Sorted.{IsPermutation-map}
use Rattle.std.proofs.lemmas.Result.{IfOk-weaker}
use Rattle.place_values.specs.declared.query.Pick.{Pick}
use Rattle.group_search.specs.declared.joining.Paired.{Paired}
use Rattle.group_search.proofs.joining.closest.Goals as goal

pub returns : goal.returns
returns c =
    let f : Paired → Pick = λ pair. pair.pick in
    let picks : List Pick = c.args.picks.now in
    let pairs : List Paired = c.in_ok-pairs.pairs.items in
    let sorted : List Paired = c.sort_unstable.new.self.items in
    let moved : IsPermutation picks (map f sorted) = subst (λ (l : List Pick). IsPermutation l (map f sorted)) c.in_ok-pairs.ensures (IsPermutation-map f pairs sorted c.sort_unstable.ensures.permutation) in
    IfOk-weaker c.picks_in.result (λ (s : Vec Pick Global). s.items ≡ map f c.deref.result.now) (λ (s : Vec Pick Global). IsPermutation picks s.items)
    (λ s is. subst (IsPermutation picks) (sym (is ∙ ap (map f) c.deref.ensures.value)) moved) c.picks_in.ensures
