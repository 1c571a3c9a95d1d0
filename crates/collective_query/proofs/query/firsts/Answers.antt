use Rattle.std.proofs.Common.{◌≡◌, ◌+◌, ◌++◌, ◌∷◌, [], ◌∙◌, ℕ, List, Vec, Global, ap, sym, subst, take, rules}
use Rattle.std.proofs.lemmas.List.{map-append, take_more}
use Rattle.std.specs.List.{Contains}
use Rattle.place_values.specs.declared.query.Pick.{Pick}
use Rattle.place_values.specs.Search.{lists_in}
use Rattle.group_search.specs.Choices.{IsChoice}
use Rattle.group_search.proofs.Products.{choice-push}
use Rattle.collective_query.proofs.query.firsts.Goals as goal

pub loop-list-preserved : goal.loop-list-preserved
loop-list-preserved c =
    let lists : List (Vec Pick Global) = c.args.lists.now in
    let at : ℕ = c.loop-list.list-index in
    let list : Vec Pick Global = c.list-item.result in
    let pick : Pick = c.in-Some.pick.now in
    let among : Contains c.deref.result.now pick = search rules in
    let more : take (at + 1) lists ≡ take at lists ++ list ∷ [] = take_more lists at list c.loop-list-test.true ∙ ap (λ (l : Vec Pick Global). take at lists ++ l ∷ []) (sym c.list-item.is) in
    subst (λ (some : List (Vec Pick Global)). IsChoice (lists_in some) c.push.new.self.items) (sym more)
    (subst (λ (some : List (List Pick)). IsChoice some c.push.new.self.items) (sym (map-append (λ (l : Vec Pick Global). l.items) (take at lists) (list ∷ [])))
    (subst (IsChoice (lists_in (take at lists) ++ list.items ∷ [])) (sym c.in_ok-push-in-Some.ensures.items)
    (choice-push (lists_in (take at lists)) c.loop-list.picks.items list.items pick c.loop-list.invariant (subst (λ (picks : List Pick). Contains picks pick) c.deref.ensures.value among))))
