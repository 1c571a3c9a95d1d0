use Rattle.std.proofs.Common.{◌≡◌, ◌+◌, ◌++◌, ◌∷◌, [], ◌∙◌, ℕ, List, ap, sym, subst, take, arith}
use Rattle.std.proofs.lemmas.List.{map-append, take_more}
use Rattle.std.proofs.lemmas.List.Elements.{Contains-get_or}
use Rattle.std.specs.List.{Contains}
use Rattle.best_first.specs.Lists.{all_append}
use Rattle.place_values.specs.declared.query.Pick.{Pick}
use Rattle.place_values.specs.declared.query.Chosen.{Chosen}
use Rattle.group_search.specs.declared.bounding.Lead.{Lead}
use Rattle.group_search.specs.Blocks.{packed_lists}
use Rattle.group_search.specs.Leads.{IsBound, AreBounds, lead_picks}
use Rattle.group_search.proofs.Blocks.{still-better, better-then, one-lead}
use Rattle.group_search.proofs.bounding.bounded.Goals as goal

pub loop-pick-init : goal.loop-pick-init
loop-pick-init c =
    let at = c.args.at.now in
    let lists : List (List Pick) = packed_lists c.args.packs.now in
    record {
      leads = ap lead_picks c.new-likely.ensures.items;
      bounds = λ are. subst (AreBounds at lists c.args.own) (sym c.new-likely.ensures.items) tt;
      better = λ are was. still-better at lists c.args.best.now was;
      cost = omega arith;
    }

pub loop-pick-preserved : goal.loop-pick-preserved
loop-pick-preserved c =
    let h = c.loop-pick.invariant in
    let from = c.args.at.now in
    let own = c.args.own in
    let lists : List (List Pick) = packed_lists c.args.packs.now in
    let leads : List Pick = c.args.leads.now in
    let at : ℕ = c.loop-pick.pick-index in
    let pick : Pick = c.pick-item.result in
    let likely : List Lead = c.loop-pick.likely.items in
    let lead : Lead = record { least = c.in_ok-least.least; along = c.along_curve-along.result; pick = pick } in
    let first : Chosen = c.args.best.now in
    let mid : Chosen = c.loop-pick.best in
    let new : Chosen = c.bound_of.new.best in
    let pushed : c.push.new.self.items ≡ likely ++ lead ∷ [] = c.in_ok-push.ensures.items in
    let more : take (at + 1) leads ≡ take at leads ++ pick ∷ [] = take_more leads at pick c.loop-pick-test.true ∙ ap (λ (p : Pick). take at leads ++ p ∷ []) (sym c.pick-item.is) in
    let member : Contains leads pick = subst (Contains leads) (sym c.pick-item.is) (Contains-get_or leads at pick c.loop-pick-test.true) in
    record {
      leads = ap lead_picks pushed ∙ map-append (λ (l : Lead). l.pick) likely (lead ∷ []) ∙ ap (λ (l : List Pick). l ++ pick ∷ []) h.leads ∙ sym more;
      bounds = λ are. subst (AreBounds from lists own) (sym pushed)
          (all_append (λ (l : Lead). IsBound from lists own l.least l.pick) likely (lead ∷ []) (h.bounds are) (c.in_ok-least.ensures.bound (one-lead lists own leads pick are member), tt));
      better = λ are was. (let so_far = h.better are was in better-then from lists first mid new so_far (c.in_ok-least.ensures.chosen (one-lead lists own leads pick are member) so_far.chosen));
      cost = omega (arith, c.in_ok-least.ensures.cost, h.cost);
    }
