use Rattle.std.proofs.Common.{◌≡◌, ◌∷◌, [], ◌++◌, ◌+◌, ◌∙◌, List, take, sym, ap, subst}
use Rattle.std.proofs.lemmas.List.{take_more}
use Rattle.std.proofs.lemmas.List.Elements.{Contains-get_or}
use Rattle.std.specs.List.{Contains}
use Rattle.spatial_base.specs.Point.{distance}
use Rattle.place_values.specs.declared.query.Pick.{Pick}
use Rattle.place_values.specs.Group.{farthest, diameter}
use Rattle.place_values.specs.Search.{lists_in}
use Rattle.group_search.specs.Fronts.{IsNext}
use Rattle.group_search.proofs.keys.least_next.Goals as goal
use Rattle.boolean_queries.proofs.Histories.{all-contained}

pub loop-pick-preserved : goal.loop-pick-preserved
loop-pick-preserved c =
    let at = c.args.at.now in
    let h = c.loop-pick.invariant in
    let list = c.args.list.now in
    let lists = c.args.lists.now in
    let i = c.loop-pick.pick-index in
    let pick : Pick = c.pick-item.result in
    let front = c.args.front.now.items in
    let taken : take (i + 1) list ≡ take i list ++ pick ∷ [] = take_more list i pick c.loop-pick-test.true ∙ ap (λ p. take i list ++ p ∷ []) (sym c.pick-item.is) in
    let among : Contains list pick = subst (Contains list) (sym c.pick-item.is) (Contains-get_or list i pick c.loop-pick-test.true) in
    record {
      same = c.in_ok-next.ensures.same ∙ h.same;
      near = c.in_ok-next.ensures.near;
      next = λ far wide sorted measured.
          subst (λ (l : List Pick). IsNext at (lists_in lists) c.args.most front l c.in_ok-next.next) (sym taken)
          (subst (λ (f : List Pick). IsNext at (lists_in lists) c.args.most f (take i list ++ pick ∷ []) c.in_ok-next.next) h.same
          (c.in_ok-next.ensures.next (far ∙ ap (farthest at) (sym h.same)) (wide ∙ ap (diameter at.scale) (sym h.same)) sorted
          (all-contained (λ (p : Pick). p.dist ≡ distance at p.point) list pick measured among) (take i list)
          (subst (λ (f : List Pick). IsNext at (lists_in lists) c.args.most f (take i list) c.loop-pick.next) (sym h.same) (h.next far wide sorted measured))));
    }
