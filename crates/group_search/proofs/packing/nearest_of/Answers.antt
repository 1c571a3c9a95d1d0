use Rattle.std.proofs.Common.{◌≡◌, ◌+◌, ◌++◌, ◌∷◌, [], ◌∙◌, ◌≤◌, ℕ, List, ap, sym, subst, take, arith}
use Rattle.std.proofs.lemmas.List.{take_more}
use Rattle.std.specs.List.{AllByRecursion}
use Rattle.best_first.specs.Lists.{all_append, all_weaker}
use Rattle.place_values.specs.declared.query.Pick.{Pick}
use Rattle.group_search.proofs.packing.nearest_of.Goals as goal

pub loop-pick-preserved : goal.loop-pick-preserved
loop-pick-preserved c =
    let h = c.loop-pick.invariant in
    let picks : List Pick = c.args.picks.now in
    let at : ℕ = c.loop-pick.pick-index in
    let pick : Pick = c.pick-item.result in
    let old : ℕ = c.loop-pick.nearest in
    let new : ℕ = c.min-nearest.result in
    let is = c.min-nearest.ensures in
    let more : take (at + 1) picks ≡ take at picks ++ pick ∷ [] = take_more picks at pick c.loop-pick-test.true ∙ ap (λ (p : Pick). take at picks ++ p ∷ []) (sym c.pick-item.is) in
    record {
      least = subst (AllByRecursion (λ (p : Pick). new ≤ p.dist)) (sym more)
          (all_append (λ (p : Pick). new ≤ p.dist) (take at picks) (pick ∷ []) (all_weaker (λ (p : Pick). old ≤ p.dist) (λ (p : Pick). new ≤ p.dist) (λ p le. omega arith) (take at picks) h.least) (omega arith, tt));
      low = (let l = h.low in omega arith);
    }
