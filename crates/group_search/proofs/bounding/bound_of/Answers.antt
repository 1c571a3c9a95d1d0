use Rattle.std.proofs.Common.{◌≡◌, ◌<◌, ◌≤◌, ◌++◌, ◌∷◌, [], ℕ, rules, List, Vec, Global, IfSome, length, nat_eq, if◌then◌else◌, sym, subst, arith}
use Rattle.std.proofs.lemmas.List.Elements.{Contains-get_or}
use Rattle.std.specs.List.{AllByRecursion, Contains}
use Rattle.place_values.specs.declared.query.Pick.{Pick}
use Rattle.group_search.specs.declared.packing.Block.{Block}
use Rattle.group_search.specs.Blocks.{IsBlock, IsBelowPairs, block_picks, packed_lists}
use Rattle.group_search.specs.Choices.{IsChoice}
use Rattle.group_search.proofs.Blocks.{bound-step, partner-pushed, led-taken, still-better}
use Rattle.group_search.proofs.bounding.bound_of.Goals as goal
use Rattle.boolean_queries.proofs.Histories.{all-contained}

pub returns-in-None-clause-bound : goal.returns-in-None-clause-bound
returns-in-None-clause-bound c = λ are.
    let from = c.args.at.now in
    let own = c.args.own in
    let anchor : Pick = c.args.anchor.now in
    let packs : List (Vec Block Global) = c.args.packs.now in
    let at : ℕ = c.loop-index.index in
    let pack : Vec Block Global = c.index-packs-index.result in
    let cost : ℕ = c.partner_for-found.result.cost in
    let inside : at < length packs = omega arith in
    let member : Contains packs pack = subst (Contains packs) (sym c.index-packs-index.is) (Contains-get_or packs at pack inside) in
    let blocks : AllByRecursion (IsBlock from) pack.items = all-contained (λ (p : Vec Block Global). AllByRecursion (IsBlock from) p.items) packs pack c.requires.packs member in
    let below : IsBelowPairs from.scale cost anchor (if nat_eq at own then anchor ∷ [] else block_picks pack.items) =
    subst (λ (l : List Block). IsBelowPairs from.scale cost anchor (if nat_eq at own then anchor ∷ [] else block_picks l)) c.deref.ensures.value c.partner_for-found.ensures.below in
    bound-step from packs own at c.loop-index.least cost c.max-least.result anchor pack are inside c.index-packs-index.is c.requires.measured blocks below c.max-least.ensures (c.loop-index.invariant.bound are)

pub returns-in-None-clause-chosen : goal.returns-in-None-clause-chosen
returns-in-None-clause-chosen c = λ are was. still-better c.args.at.now (packed_lists c.args.packs.now) c.args.best.now was

pub loop-index-preserved : goal.loop-index-preserved
loop-index-preserved c =
    let from = c.args.at.now in
    let own = c.args.own in
    let anchor : Pick = c.args.anchor.now in
    let packs : List (Vec Block Global) = c.args.packs.now in
    let at : ℕ = c.loop-index.index in
    let pack : Vec Block Global = c.index-packs-index.result in
    let cost : ℕ = c.partner_for-found.result.cost in
    let pick : Pick = c.in-Some.pick in
    let inside : at < length packs = omega arith in
    let member : Contains packs pack = subst (Contains packs) (sym c.index-packs-index.is) (Contains-get_or packs at pack inside) in
    let blocks : AllByRecursion (IsBlock from) pack.items = all-contained (λ (p : Vec Block Global). AllByRecursion (IsBlock from) p.items) packs pack c.requires.packs member in
    let below : IsBelowPairs from.scale cost anchor (if nat_eq at own then anchor ∷ [] else block_picks pack.items) =
    subst (λ (l : List Block). IsBelowPairs from.scale cost anchor (if nat_eq at own then anchor ∷ [] else block_picks l)) c.deref.ensures.value c.partner_for-found.ensures.below in
    let found : IfSome c.partner_for-found.result.pick (Contains (if nat_eq at own then anchor ∷ [] else block_picks pack.items)) =
    subst (λ (l : List Block). IfSome c.partner_for-found.result.pick (Contains (if nat_eq at own then anchor ∷ [] else block_picks l))) c.deref.ensures.value c.partner_for-found.ensures.among in
    let among : Contains (if nat_eq at own then anchor ∷ [] else block_picks pack.items) pick =
    subst (λ o. IfSome o (Contains (if nat_eq at own then anchor ∷ [] else block_picks pack.items))) c.in-Some.is found in
    let pushed : c.push.new.self.items ≡ c.loop-index.picks.items ++ pick ∷ [] = first_of (search rules, cc) in
    record {
      bound = λ are. bound-step from packs own at c.loop-index.least cost c.max-least.result anchor pack are inside c.index-packs-index.is c.requires.measured blocks below c.max-least.ensures (c.loop-index.invariant.bound are);
      picks = partner-pushed packs own at anchor pack c.loop-index.picks.items c.push.new.self.items pick inside c.index-packs-index.is pushed among c.loop-index.invariant.picks;
    }

pub returns-clause-chosen : goal.returns-clause-chosen
returns-clause-chosen c = λ are was.
    let packs : List (Vec Block Global) = c.args.packs.now in
    let at : ℕ = c.loop-index.index in
    let long : length packs ≤ at = omega arith in
    c.in_ok-keep_cheaper.ensures.chosen (packed_lists packs)
    (subst (IsChoice (packed_lists packs)) (sym c.deref-2.ensures.value) (led-taken packs c.args.own at c.args.anchor.now c.loop-index.picks.items long are c.loop-index.invariant.picks)) was
