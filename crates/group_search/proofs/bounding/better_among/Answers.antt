use Rattle.std.proofs.Common.{◌≡◌, ◌+◌, ◌++◌, ◌∷◌, [], ◌∙◌, ◌≤◌, ℕ, List, ap, sym, subst, take, arith}
use Rattle.std.proofs.lemmas.List.{take_all, take_more}
use Rattle.std.proofs.lemmas.List.Elements.{Contains-get_or}
use Rattle.std.specs.List.{Contains}
use Rattle.best_first.specs.Lists.{all_append}
use Rattle.place_values.specs.declared.query.Pick.{Pick}
use Rattle.group_search.specs.Blocks.{IsBelowPairs}
use Rattle.group_search.specs.Joins.{pair_cost}
use Rattle.group_search.proofs.Blocks.{below-less}
use Rattle.group_search.proofs.bounding.better_among.Goals as goal

pub loop-pick-preserved : goal.loop-pick-preserved
loop-pick-preserved c =
    let h = c.loop-pick.invariant in
    let scale = c.args.at.now.scale in
    let anchor = c.args.anchor.now in
    let picks : List Pick = c.args.picks.now in
    let at : ℕ = c.loop-pick.pick-index in
    let pick : Pick = c.pick-item.result in
    let old : ℕ = c.loop-pick.best.cost in
    let new : ℕ = c.better-best.result.cost in
    let more : take (at + 1) picks ≡ take at picks ++ pick ∷ [] = take_more picks at pick c.loop-pick-test.true ∙ ap (λ (p : Pick). take at picks ++ p ∷ []) (sym c.pick-item.is) in
    let member : Contains picks pick = subst (Contains picks) (sym c.pick-item.is) (Contains-get_or picks at pick c.loop-pick-test.true) in
    record {
      below = subst (IsBelowPairs scale new anchor) (sym more) (all_append (λ (p : Pick). new ≤ pair_cost scale anchor p) (take at picks) (pick ∷ []) (below-less scale old new anchor (take at picks) c.better-best.ensures.less h.below) (c.better-best.ensures.below, tt));
      less = omega (arith, c.better-best.ensures.less, h.less);
      among = λ all was each. c.better-best.ensures.among all (h.among all was each) (each pick member);
    }

pub returns-clause-below : goal.returns-clause-below
returns-clause-below c = subst (IsBelowPairs c.args.at.now.scale c.loop-pick.best.cost c.args.anchor.now) (take_all c.loop-pick.pick-index c.args.picks.now c.loop-pick-test.false) c.loop-pick.invariant.below
