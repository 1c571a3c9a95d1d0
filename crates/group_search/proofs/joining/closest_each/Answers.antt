use Rattle.std.proofs.Common.{◌≡◌, ◌≤◌, ◌+◌, ◌++◌, ◌∷◌, [], ◌∙◌, ℕ, IsPermutation, List, Vec, Global, ap, sym, subst, take}
use Rattle.std.proofs.lemmas.List.{map-append, take_more}
use Rattle.std.proofs.lemmas.List.Elements.{Contains-get_or}
use Rattle.std.specs.List.{AllByRecursion, Contains}
use Rattle.spatial_base.specs.Point.{distance}
use Rattle.best_first.specs.Lists.{all_append, all_moved}
use Rattle.place_values.specs.declared.query.Pick.{Pick}
use Rattle.place_values.specs.Search.{lists_in}
use Rattle.group_search.specs.Choices.{AreCut}
use Rattle.group_search.specs.Picks.{AreNear, AreMeasured}
use Rattle.group_search.proofs.Blocks.{same-moved}
use Rattle.group_search.proofs.Cuts.{cut-push}
use Rattle.group_search.proofs.joining.closest_each.Goals as goal
use Rattle.boolean_queries.proofs.Histories.{all-contained}

pub loop-list-preserved : goal.loop-list-preserved
loop-list-preserved c =
    let h = c.loop-list.invariant in
    let spare : Pick → Type 0 = λ pick. Unit {0} in
    let lists : List (Vec Pick Global) = c.args.lists.now in
    let i : ℕ = c.loop-list.list-index in
    let one : Vec Pick Global = c.list-item.result in
    let sorted : List (Vec Pick Global) = c.loop-list.sorted.items in
    let copy : Vec Pick Global = c.in_ok-copy.copy in
    let pushed : c.push.new.self.items ≡ sorted ++ copy ∷ [] = c.in_ok-push.ensures.items in
    let moved : IsPermutation one.items copy.items = subst (λ (l : List Pick). IsPermutation l copy.items) c.deref.ensures.value c.in_ok-copy.ensures in
    let taken : lists_in (take (i + 1) lists) ≡ lists_in (take i lists) ++ one.items ∷ [] =
    ap lists_in (take_more lists i one c.loop-list-test.true ∙ ap (λ (l : Vec Pick Global). take i lists ++ l ∷ []) (sym c.list-item.is)) ∙ map-append (λ (list : Vec Pick Global). list.items) (take i lists) (one ∷ []) in
    let among : Contains lists one = subst (Contains lists) (sym c.list-item.is) (Contains-get_or lists i one c.loop-list-test.true) in
    let near : AreNear copy.items = all_moved (λ (pick : Pick). pick.dist ≤ 2545584412) one.items copy.items moved (all-contained (λ (list : Vec Pick Global). AreNear list.items) lists one c.requires.lists among) in
    record {
      same = subst (λ (ls : List (List Pick)). AreCut spare ls (lists_in c.push.new.self.items)) (sym taken)
          (subst (AreCut spare (lists_in (take i lists) ++ one.items ∷ [])) (sym (ap lists_in pushed ∙ map-append (λ (list : Vec Pick Global). list.items) sorted (copy ∷ [])))
          (cut-push spare (lists_in (take i lists)) (lists_in sorted) one.items copy.items h.same (same-moved one.items copy.items moved)));
      near = subst (AllByRecursion (λ (list : Vec Pick Global). AreNear list.items)) (sym pushed) (all_append (λ (list : Vec Pick Global). AreNear list.items) sorted (copy ∷ []) h.near (near, tt));
      measured = λ from all. subst (AllByRecursion (λ (list : Vec Pick Global). AreMeasured from list.items)) (sym pushed)
          (all_append (λ (list : Vec Pick Global). AreMeasured from list.items) sorted (copy ∷ []) (h.measured from all)
          (all_moved (λ (pick : Pick). pick.dist ≡ distance from pick.point) one.items copy.items moved (all-contained (λ (list : Vec Pick Global). AreMeasured from list.items) lists one all among), tt));
    }
