use Rattle.std.proofs.Common.{◌≡◌, ◌+◌, ◌++◌, ◌∷◌, [], ◌∙◌, ℕ, List, ap, sym, subst, take}
use Rattle.std.proofs.lemmas.List.{take_more}
use Rattle.std.specs.List.{AllByRecursion}
use Rattle.best_first.specs.Lists.{all_append}
use Rattle.spatial_base.specs.Rect.{Bounds, Holds}
use Rattle.place_values.specs.declared.query.Pick.{Pick}
use Rattle.group_search.proofs.Blocks.{all-held, point-held}
use Rattle.group_search.proofs.packing.bounds_of.Goals as goal

pub loop-pick-preserved : goal.loop-pick-preserved
loop-pick-preserved c =
    let picks : List Pick = c.args.picks.now in
    let at : ℕ = c.loop-pick.pick-index in
    let pick : Pick = c.pick-item.result in
    let old : Bounds = c.loop-pick.bounds in
    let new : Bounds = c.join-bounds.result in
    let held : Pick → Type 0 = λ p. Holds new p.point in
    let more : take (at + 1) picks ≡ take at picks ++ pick ∷ [] = take_more picks at pick c.loop-pick-test.true ∙ ap (λ (p : Pick). take at picks ++ p ∷ []) (sym c.pick-item.is) in
    subst (AllByRecursion held) (sym more)
    (all_append held (take at picks) (pick ∷ []) (all-held new old (take at picks) c.join-bounds.ensures.first c.loop-pick.invariant)
    (point-held new c.of.result pick.point c.of.ensures c.join-bounds.ensures.second, tt))
